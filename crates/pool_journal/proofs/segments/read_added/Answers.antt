use Rattle.std.proofs.Common.{rules}
use Rattle.pool_journal.proofs.Common.{segment_field}
use Rattle.pool_journal.proofs.Many.{none_read, read_more, broken_as, read_all}
use Rattle.pool_journal.proofs.segments.read_added.Goals as goal

pub loop-init : goal.loop-init
loop-init c = rw c.new-added.ensures.items (none_read segment_field c.args.count c.args.fields.now)

pub loop-preserved : goal.loop-preserved
loop-preserved c =
    rw c.in_ok-push.ensures.items (read_more segment_field c.args.count c.loop.counter c.args.fields.now c.loop.fields c.loop.added.items c.loop-test.true c.loop.invariant c.in_ok-read_segment.field-0 c.read_segment.new.fields c.in_ok-read_segment.ensures)

pub returns : goal.returns
returns c =
    rw c.from_vec.ensures (read_all segment_field c.args.count c.loop.counter c.args.fields.now c.loop.fields c.loop.added.items c.loop-test.false c.loop.invariant)

pub returns-in_err-read_segment : goal.returns-in_err-read_segment
returns-in_err-read_segment c =
    broken_as segment_field c.args.count c.loop.counter c.args.fields.now c.loop.fields c.loop.added.items c.loop-test.true c.loop.invariant c.in_err-read_segment.field-0.0 c.from_residual.result c.read_segment.new.fields c.read_segment.new.fields c.in_err-read_segment.ensures (search rules)

use Rattle.pool_journal.proofs.Common.{count_field}
use Rattle.pool_journal.proofs.Many.{none_read, read_more, read_all}
use Rattle.pool_journal.proofs.segments.read_pieces.Goals as goal

pub loop-init : goal.loop-init
loop-init c = rw c.new-pieces.ensures.items (none_read count_field c.args.count c.args.fields.now)

pub loop-preserved : goal.loop-preserved
loop-preserved c =
    rw c.in_ok-push.ensures.items (read_more count_field c.args.count c.loop.counter c.args.fields.now c.loop.fields c.loop.pieces.items c.loop-test.true c.loop.invariant c.in_ok-read_slot.field-0 c.read_slot.new.fields c.in_ok-read_slot.ensures)

pub returns : goal.returns
returns c =
    rw c.from_vec.ensures (read_all count_field c.args.count c.loop.counter c.args.fields.now c.loop.fields c.loop.pieces.items c.loop-test.false c.loop.invariant)

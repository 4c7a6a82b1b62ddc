use Rattle.pool_journal.proofs.Common.{string_field}
use Rattle.pool_journal.proofs.Many.{none_read, read_more, read_all}
use Rattle.pool_journal.proofs.fields.read_strings.Goals as goal

pub loop-init : goal.loop-init
loop-init c = rw c.new-texts.ensures.items (none_read string_field c.args.count c.args.fields.now)

pub loop-preserved : goal.loop-preserved
loop-preserved c =
    rw c.in_ok-push.ensures.items (read_more string_field c.args.count c.loop.counter c.args.fields.now c.loop.fields c.loop.texts.items c.loop-test.true c.loop.invariant c.in_ok-read_text.field-0 c.read_text.new.fields c.in_ok-read_text.ensures)

pub returns : goal.returns
returns c =
    rw c.from_vec.ensures (read_all string_field c.args.count c.loop.counter c.args.fields.now c.loop.fields c.loop.texts.items c.loop-test.false c.loop.invariant)

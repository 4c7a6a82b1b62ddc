use Rattle.std.proofs.Common.{take_all}
use Rattle.pool_journal.proofs.Lines.{counted_more}
use Rattle.pool_journal.proofs.size.strings_size.Goals as goal

pub loop-text-preserved : goal.loop-text-preserved
loop-text-preserved c =
    counted_more c.loop-text.size c.saturating_add.result c.saturating_add-size.result c.args.texts.now c.loop-text.text-index c.text-item.result c.loop-text-test.true c.text-item.is c.loop-text.invariant c.saturating_add.ensures (rw c.bytes.ensures at c.saturating_add-size.ensures)

pub returns : goal.returns
returns c = rw (take_all c.loop-text.text-index c.args.texts.now c.loop-text-test.false) at c.loop-text.invariant

use Rattle.std.proofs.Common.{take_all}
use Rattle.pool_journal.proofs.Common.{arith}
use Rattle.pool_journal.proofs.Lines.{one_longer}
use Rattle.pool_journal.proofs.segments.added_size.Goals as goal

pub loop-segment-preserved : goal.loop-segment-preserved
loop-segment-preserved c =
    let longer = one_longer c.args.added.now c.loop-segment.segment-index _ _ c.loop-segment-test.true c.segment_size.ensures.size in
    record { size = omega (arith, longer.0); fixed = omega (arith, longer.0, longer.1) }

pub returns-clause-size : goal.returns-clause-size
returns-clause-size c = rw (take_all c.loop-segment.segment-index c.args.added.now c.loop-segment-test.false) at c.loop-segment.invariant.size

pub returns-clause-fixed : goal.returns-clause-fixed
returns-clause-fixed c = rw (take_all c.loop-segment.segment-index c.args.added.now c.loop-segment-test.false) at c.loop-segment.invariant.fixed

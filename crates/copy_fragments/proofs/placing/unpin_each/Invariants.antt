use Rattle.std.proofs.Common.{take}
use Rattle.copy_fragments.specs.PlacingSteps.{UnpinnedEach}
use Rattle.copy_fragments.proofs.placing.unpin_each.Given as goal

abbrev pub invariant-loop-slot : goal.invariant-loop-slot
invariant-loop-slot g l = UnpinnedEach l.fn.pool l.pool (take l.slot-index l.slots)

use Rattle.std.proofs.Common.{◌≡◌, ℕ, List, length}
use Rattle.restore_engine.specs.Chains.{latest_chain}
use Rattle.restore_engine.proofs.chains.next_under.Given as goal

abbrev pub invariant-loop-image : goal.invariant-loop-image
invariant-loop-image l = (client : List ℕ) → latest_chain l.policy client l.images ≡ latest_chain l.policy client l.fn.images

abbrev pub decreases-loop-image : goal.decreases-loop-image
decreases-loop-image l = length l.images

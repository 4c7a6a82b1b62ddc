use Rattle.slp_tree.proofs.Common.{◌≡◌, ◌+◌, length, take}
use Rattle.slp_tree.proofs.DueLemmas.{count_states}
use Rattle.slp_tree.proofs.tests.has_a_window_each.Given as goal

abbrev pub invariant-loop-image : goal.invariant-loop-image
invariant-loop-image l = count_states (take l.image-index l.images) + l.left ≡ length l.windows

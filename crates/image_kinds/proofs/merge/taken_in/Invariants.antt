use Rattle.image_kinds.proofs.Common.{length}
use Rattle.image_kinds.proofs.Trees.{Narrows}
use Rattle.image_kinds.proofs.merge.taken_in.Given as goal

abbrev pub invariant-loop-path : goal.invariant-loop-path
invariant-loop-path l = Narrows l.path l.items l.part

abbrev pub decreases-loop-path : goal.decreases-loop-path
decreases-loop-path l = length l.part

use Rattle.image_kinds.proofs.Common.{◌≡◌, ◌≤◌, length, last_taken}
use Rattle.image_kinds.proofs.merge.last_taken.Given as goal

abbrev pub invariant-loop-rest : goal.invariant-loop-rest
invariant-loop-rest l = record {
  same : last_taken l.path l.rest ≡ last_taken l.path l.images;
  shorter : length l.rest ≤ length l.images;
}

abbrev pub decreases-loop-rest : goal.decreases-loop-rest
decreases-loop-rest l = length l.rest

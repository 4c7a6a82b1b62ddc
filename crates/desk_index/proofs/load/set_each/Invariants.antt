use Rattle.desk_index.proofs.Loading.{SetSoFar}
use Rattle.desk_index.proofs.load.set_each.Given as goal

abbrev pub invariant-loop-request : goal.invariant-loop-request
invariant-loop-request l = SetSoFar l.requests l.request-index l.initial.index l.index

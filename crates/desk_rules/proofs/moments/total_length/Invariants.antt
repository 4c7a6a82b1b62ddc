use Rattle.desk_rules.proofs.Common.{◌≡◌, take, lengths}
use Rattle.desk_rules.proofs.moments.total_length.Given as goal

abbrev pub invariant-loop-id : goal.invariant-loop-id
invariant-loop-id l = l.total ≡ lengths l.images (take l.id-index l.ids)

use Rattle.site_types.proofs.Common.{◌≡◌, ◌+◌, map, take, drop, [], first_bad, key_stated}
use Rattle.site_types.proofs.keys.first_bad.Given as goal

abbrev pub invariant-loop-index : goal.invariant-loop-index
invariant-loop-index l = first_bad (map key_stated l.keys) (take l.index l.words) (l.at + l.index) (drop l.index l.words) ≡ first_bad (map key_stated l.keys) [] l.at l.words

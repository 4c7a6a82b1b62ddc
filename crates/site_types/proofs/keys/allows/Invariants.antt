use Rattle.site_types.proofs.Common.{◌≡◌, map, drop, allows, key_stated}
use Rattle.site_types.proofs.keys.allows.Given as goal

abbrev pub invariant-loop-key : goal.invariant-loop-key
invariant-loop-key l = allows (map key_stated (drop l.key-index l.keys)) l.name l.value ≡ allows (map key_stated l.keys) l.name l.value

use Rattle.vault_ledger.proofs.UnitPools.{added_size, added_slots}
use Rattle.vault_ledger.proofs.unit_pools.new_pool.Goals as goal

pub new-requires-clause-size : goal.new-requires-clause-size
new-requires-clause-size c = added_size _ _ _ _ _ _ _ _ c.requires.formed c.in-UnitAdd.is _ c.in_ok-first-in-UnitAdd.ensures _ c.unwrap_or-size.ensures

pub new-requires-clause-some : goal.new-requires-clause-some
new-requires-clause-some c = (added_slots _ _ _ _ _ _ _ _ c.requires.formed c.in-UnitAdd.is _ c.in_ok-first-in-UnitAdd.ensures _ c.unwrap_or-slots.ensures).0

pub new-requires-clause-few : goal.new-requires-clause-few
new-requires-clause-few c = (added_slots _ _ _ _ _ _ _ _ c.requires.formed c.in-UnitAdd.is _ c.in_ok-first-in-UnitAdd.ensures _ c.unwrap_or-slots.ensures).1

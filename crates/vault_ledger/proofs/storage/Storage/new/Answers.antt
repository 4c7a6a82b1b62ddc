use Rattle.std.proofs.Common.{◌∙◌, List, [], ◌∷◌, ap}
use Rattle.site_types.specs.declared.unit.Unit.{Unit as StorageUnit}
use Rattle.segment_pool.specs.Slots.{PoolState}
use Rattle.vault_ledger.proofs.NewStorages.{new_followed}
use Rattle.vault_ledger.proofs.storage.Storage.new.Goals as goal

pub returns : goal.returns
returns c =
    let pool_of : StorageUnit → List PoolState = λ u. record { file = 2; size = u.segment; slots = u.slots; table = [] } ∷ [] in
    new_followed _ (c.in_ok-from_array.ensures.items ∙ ap (λ (p : PoolState). p ∷ []) c.in_ok-pool.ensures ∙ ap pool_of c.in_ok-first.ensures) c.new-2.ensures

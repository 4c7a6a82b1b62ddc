-- The storage of a new vault follows the ledger of a new vault.
use Rattle.desk_model.proofs.Common.{◌≡◌, zero, suc, [], ◌∷◌, refl, sym, ap, subst, arith, Option, Some, None, slice_get, Contains, BackupId, StorageUnit, disk0}
use Rattle.segment_pool.specs.Slots.{PoolState}
use Rattle.copy_fragments.specs.Copies.{Copy}
use Rattle.vault_ledger.specs.Copies.{copy_of}
use Rattle.vault_ledger.specs.Ledger.{new_ledger}
use Rattle.vault_ledger.specs.Storage.{ArePools, Follows, IsCopyIn, IsUnitPool, StorageState}
use Rattle.vault_ledger.proofs.JournalLedgers.{new_kept}
use Rattle.vault_ledger.proofs.UnitPools.{holds_none}

-- the pool of the first unit, which holds nothing
abbrev pub first_pool : PoolState
first_pool = record { file = 2; size = 131072; slots = 8388608; table = [] }

abbrev HasPool : StorageUnit → Type 0
HasPool u = (p : PoolState) × (slice_get (first_pool ∷ []) u.number ≡ Some p) × IsUnitPool new_ledger u p

only_first : (u : StorageUnit) → Contains (disk0 ∷ []) u → disk0 ≡ u
only_first u (zero, lt, is) = is
only_first u (suc k, lt, is) = absurd (omega arith)

as_many : (p : PoolState) → Some first_pool ≡ Some p → p.slots ≡ disk0.slots
as_many p is = let same : first_pool ≡ p = cc is in ap (λ (q : PoolState). q.slots) (sym same)

pools_new : ArePools new_ledger (first_pool ∷ [])
pools_new = record {
  have = record {
    long = omega arith;
    each = λ u among. subst HasPool (only_first u among) (first_pool, refl, record { file = refl; size = refl; holds = holds_none first_pool refl });
  };
  slots = λ u p among. subst (λ (v : StorageUnit). slice_get (first_pool ∷ []) v.number ≡ Some p → p.slots ≡ v.slots) (only_first u among) (as_many p);
  count = refl;
}

pub new_followed : (storage : StorageState) → storage.pools ≡ first_pool ∷ [] → ((id : BackupId) → copy_of id storage.copies ≡ None) → Follows new_ledger storage
new_followed storage pools none = record {
  order = new_kept;
  pools = subst (ArePools new_ledger) (sym pools) pools_new;
  copies = λ id. subst (λ (c : Option Copy). IsCopyIn new_ledger c None) (sym (none id)) tt;
  few = λ unit. omega arith;
  placed = λ p (k, lt, is). absurd (omega (arith, lt));
}

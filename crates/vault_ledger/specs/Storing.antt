-- What the steps of storing a backup leave.
use Rattle.std.specs.Prelude.{◌≡◌, ℕ, List, Some}
use Rattle.site_types.specs.declared.id.BackupId.{BackupId}
use Rattle.site_types.specs.declared.unit.Unit.{Unit as StorageUnit}
use Rattle.vault_disk.specs.Disk.{Disk}
use Rattle.segment_pool.specs.Slots.{PoolState}
use Rattle.copy_fragments.specs.Copies.{Copy}
use Rattle.pool_journal.specs.declared.entry.WholeImage.{WholeImage}
use Rattle.vault_ledger.specs.Copies.{Sets, copy_of}
use Rattle.vault_ledger.specs.Ledger.{Ledger}
use Rattle.vault_ledger.specs.Storage.{IsStored, IsUnstored}

-- the copy of an image on a unit, in these slots
abbrev pub copy_on : StorageUnit → WholeImage → List ℕ → Copy
copy_on unit w slots = record { slots = slots; size = unit.segment; per_fragment = unit.fragment; length = w.length }

-- each image has the copy that it had
abbrev pub AreSameCopies : List (BackupId × Copy) → List (BackupId × Copy) → Type 0
AreSameCopies old new = (id : BackupId) → copy_of id new ≡ copy_of id old

-- the bytes are in the pools, and the record in the journal: with its copy among the others the backup is stored
pub record IsSealedIn (l : Ledger) (w : WholeImage) (unit : StorageUnit) (bytes : List ℕ) (old new : Disk) (end end' : ℕ) (copies : List (BackupId × Copy)) (pools : List PoolState) (slots : List ℕ) : Type 0 where
  pub stored : (with_copy : List (BackupId × Copy)) → Sets w.id (Some (copy_on unit w slots)) copies with_copy → IsStored l w bytes old new end end' (record { pools = pools; copies = with_copy })

-- they aren't: with the copies that there were it is refused
pub record IsUnsealedIn (l : Ledger) (old new : Disk) (end end' : ℕ) (copies : List (BackupId × Copy)) (pools : List PoolState) : Type 0 where
  pub unstored : (same_copies : List (BackupId × Copy)) → AreSameCopies copies same_copies → IsUnstored l old new end end' (record { pools = pools; copies = same_copies })

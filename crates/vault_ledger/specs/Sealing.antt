-- What storing a backup takes, and what it writes.
use Rattle.std.specs.Prelude.{◌≡◌, ℕ, ◌+◌, ◌*◌, ◌≤◌, ◌<◌, ◌++◌, true, List, [], length, max, Some}
use Rattle.policy_book.specs.Lists.{has}
use Rattle.policy_book.specs.Book.{unit_name}
use Rattle.vault_disk.specs.Disk.{Disk, Image as DiskImage}
use Rattle.segment_pool.specs.Slots.{PoolState, number_held}
use Rattle.segment_pool.specs.declared.fault.PoolFault.{PoolFault}
use Rattle.segment_pool.specs.declared.fault.PoolFault.TheVariants as fault
use Rattle.desk_model.specs.State.{State, stored_on}
use Rattle.desk_model.specs.Pieces.{pieces, with_pieces}
use Rattle.desk_model.specs.Backups.{sealed, unit_at}
use Rattle.vault_ledger.specs.Fitting.{whole_entry, whole_unit}
use Rattle.vault_ledger.specs.Ledger.{Ledger, are_true, backup_fits, live_on, named_on, pool_file, recorded, segment_of, state_over, with_backup}
use Rattle.vault_ledger.specs.Keeping.{KeptLedger, SaysLedger}
use Rattle.vault_ledger.specs.Pools.{HoldsLive}
use Rattle.pool_journal.specs.Rooms.{RoomState}
use Rattle.pool_journal.specs.declared.entry.Entry.TheVariants as entry
use Rattle.pool_journal.specs.declared.entry.WholeImage.{WholeImage}
use Rattle.pool_journal.specs.declared.segments.Segments.{Segments}

-- empty memory for the record of a backup of so many pieces, each of which may be new
pub record HasRoom (count : ℕ) (room : RoomState) : Type 0 where
  pub empty : room.bytes ≡ []
  pub size : 313 + 44 * count ≤ room.size

-- a backup's segments fit the ledger, and with them the pools are true; its unit's pool is this file
pub record IsToRecord (l : Ledger) (w : WholeImage) (segments : Segments) (file : ℕ) (seen : DiskImage) : Type 0 where
  pub fits : backup_fits l w segments ≡ true
  pub is_true : are_true seen (with_backup w segments l) (with_backup w segments l).outline.stored ≡ true
  pub file_is : file ≡ pool_file (whole_unit l.outline w) l.outline

-- the pool has slots for these beside the pieces that it holds, where there is one
abbrev pub IsWithin : PoolState → List (List ℕ) → Type 0
IsWithin pool more = 1 ≤ length more → number_held pool + length more ≤ pool.slots

-- the state after a backup of these bytes
abbrev pub state_sealed : State → WholeImage → List ℕ → State
state_sealed s w bytes = sealed (record { entry = whole_entry s.site.book w; bytes = bytes }) (whole_unit s w) s

-- the pool is that of the unit of a backup, and follows its ledger
pub record IsPoolFor (l : Ledger) (w : WholeImage) (pool : PoolState) : Type 0 where
  pub there : has unit_name (whole_unit l.outline w) l.outline.site.book.units ≡ true
  pub file : pool.file ≡ pool_file (whole_unit l.outline w) l.outline
  pub size : pool.size ≡ segment_of (whole_unit l.outline w) l.outline
  pub holds : HoldsLive (live_on (whole_unit l.outline w) l.live) (named_on (whole_unit l.outline w) l.placements) pool

-- the pieces that are stored on its unit, and those that will be with its bytes
abbrev pub pieces_before : State → WholeImage → List (List ℕ)
pieces_before s w = stored_on (whole_unit s w) s.stored

abbrev pub pieces_after : State → WholeImage → List ℕ → List (List ℕ)
pieces_after s w bytes = with_pieces (pieces_before s w) (pieces (unit_at (whole_unit s w) s.site.book).segment bytes)

-- there are slots for the pieces, where one is new
abbrev pub HasSlots : ℕ → State → WholeImage → List ℕ → Type 0
HasSlots slots s w bytes = length (pieces_before s w) < length (pieces_after s w bytes) → length (pieces_after s w bytes) ≤ slots

-- when a backup may be refused over a vault whose ledger is known: some of its pieces are new, and with them there are more than the unit has slots
abbrev pub SealingFails : ℕ → State → WholeImage → List ℕ → PoolFault → Type 0
SealingFails slots s w bytes fault.NoMemory = Unit {0}
SealingFails slots s w bytes fault.DiskFault = Unit {0}
SealingFails slots s w bytes (fault.Damaged recorded found) = ⊥
SealingFails slots s w bytes (fault.Full count) = (length (pieces_before s w) < length (pieces_after s w bytes)) × (slots < length (pieces_after s w bytes)) × (count ≡ max slots (length (pieces_before s w)) + 1)

-- A backup of these bytes was sealed: its record fits and the pool has its segments. Where the ledger was known of the disk the next one is, and stands for the state after the backup.
pub record IsSealed (l : Ledger) (w : WholeImage) (bytes : List ℕ) (old new : Disk) (end end' : ℕ) (pool : PoolState) (slots : List ℕ) : Type 0 where
  pub segments : Segments
  pub pieces_are : segments.pieces ≡ slots
  pub fits : recorded l (entry.BackupSealed w segments) ≡ Some (with_backup w segments l)
  pub holds : HoldsLive (live_on (whole_unit l.outline w) l.live ++ segments.added) (named_on (whole_unit l.outline w) l.placements ++ slots) pool
  pub says : old.tells → SaysLedger old end l → SaysLedger new end' (with_backup w segments l)
  pub kept : old.tells → KeptLedger old end l → KeptLedger new end' (with_backup w segments l) × (state_over new.seen (with_backup w segments l) ≡ state_sealed (state_over old.seen l) w bytes)

-- It was refused, and the disk didn't fail: the ledger is known as before, with its state.
pub record IsUnsealed (l : Ledger) (old new : Disk) (end end' : ℕ) : Type 0 where
  pub says : old.tells → SaysLedger old end l → SaysLedger new end' l
  pub kept : old.tells → KeptLedger old end l → KeptLedger new end' l × (state_over new.seen l ≡ state_over old.seen l)

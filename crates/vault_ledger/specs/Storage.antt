-- What is known of where the bytes of images stand, beside the ledger that it follows: the pools of the units, and the copies of the images.
use Rattle.std.specs.Prelude.{◌≡◌, ◌≤◌, ℕ, ◌+◌, ◌*◌, Bool, true, false, List, [], ◌∷◌, length, Option, Some, None, unwrap_or, Contains}
use Rattle.std.specs.List.{slice_get}
use Rattle.site_types.specs.declared.id.BackupId.{BackupId}
use Rattle.site_types.specs.declared.unit.Unit.{Unit as StorageUnit}
use Rattle.site_types.specs.declared.image.CopyRecord.{CopyRecord}
use Rattle.site_types.specs.declared.image.ImageRecord.{ImageRecord}
use Rattle.site_types.specs.declared.request.Request.{Request}
use Rattle.site_types.specs.declared.request.Request.TheVariants as request
use Rattle.sha2.specs.Sha256.{sha256}
use Rattle.vault_disk.specs.Disk.{Disk, Image as DiskImage}
use Rattle.segment_pool.specs.Slots.{PoolState}
use Rattle.copy_fragments.specs.Copies.{Copy}
use Rattle.copy_fragments.specs.declared.whole_copy.CopyFault.{CopyFault}
use Rattle.copy_fragments.specs.declared.whole_copy.CopyFault.TheVariants as fault
use Rattle.pool_journal.specs.declared.entry.Entry.TheVariants as entry
use Rattle.pool_journal.specs.declared.entry.WholeImage.{WholeImage}
use Rattle.pool_journal.specs.declared.segments.NewSegment.{NewSegment}
use Rattle.pool_journal.specs.declared.segments.Segments.{Segments}
use Rattle.policy_book.specs.Book.{Book, unit_name}
use Rattle.policy_book.specs.Lists.{has}
use Rattle.desk_model.specs.State.{Image, image_named}
use Rattle.desk_model.specs.Pieces.{piece_limit}
use Rattle.desk_model.specs.Backups.{unit_at}
use Rattle.vault_ledger.specs.Copies.{copy_of}
use Rattle.vault_ledger.specs.Fitting.{image_fits, whole_unit}
use Rattle.vault_ledger.specs.Keeping.{KeptLedger, SaysLedger}
use Rattle.vault_ledger.specs.Ledger.{Ledger, Placement, is_whole, live_on, named_on, piece_in, pool_file, recorded, segment_of, slots_of, state_over, with_backup}
use Rattle.vault_ledger.specs.Pools.{HoldsLive}
use Rattle.vault_ledger.specs.Sealing.{state_sealed}
use Rattle.vault_ledger.specs.Wellformed.{IsLedger}

-- the pools by the numbers of their units, and the copies by the ids of their images
pub record StorageState : Type 0 where
  pub pools : List PoolState
  pub copies : List (BackupId × Copy)

-- the pool is that of a unit: in its file, with its segment size, and with its live slots, each counted as often as kept copies name it
pub record IsUnitPool (l : Ledger) (unit : StorageUnit) (pool : PoolState) : Type 0 where
  pub file : pool.file ≡ 2 + unit.number
  pub size : pool.size ≡ unit.segment
  pub holds : HoldsLive (live_on unit.name l.live) (named_on unit.name l.placements) pool

-- each unit of the book has its pool, at its number
pub record HavePools (l : Ledger) (pools : List PoolState) : Type 0 where
  pub long : length l.outline.site.book.units ≤ length pools
  pub each : (unit : StorageUnit) → Contains l.outline.site.book.units unit → (pool : PoolState) × (slice_get pools unit.number ≡ Some pool) × IsUnitPool l unit pool

-- it may hold as many pieces as the unit's setting says, and there are no other pools
pub record ArePools (l : Ledger) (pools : List PoolState) : Type 0 where
  pub have : HavePools l pools
  pub slots : (unit : StorageUnit) (pool : PoolState) → Contains l.outline.site.book.units unit → slice_get pools unit.number ≡ Some pool → pool.slots ≡ unit.slots
  pub count : length pools ≡ length l.outline.site.book.units

-- a copy of an image, as a ledger has it
abbrev pub copy_for : Ledger → ImageRecord → CopyRecord → Copy
copy_for l image copy = record {
  slots = slots_of image.id copy.number l.placements;
  size = segment_of copy.unit l.outline;
  per_fragment = (unit_at copy.unit l.outline.site.book).fragment;
  length = image.length;
}

abbrev pub IsCopyIn : Ledger → Option Copy → Option Image → Type 0
IsCopyIn l None None = Unit {0}
IsCopyIn l None (Some image) = ⊥
IsCopyIn l (Some copy) None = ⊥
IsCopyIn l (Some copy) (Some image) = (of : CopyRecord) × (image.entry.copies ≡ of ∷ []) × (copy ≡ copy_for l image.entry of)

-- each image has its copy, and no others have one
abbrev pub AreCopies : Ledger → List (BackupId × Copy) → Type 0
AreCopies l copies = (id : BackupId) → IsCopyIn l (copy_of id copies) (image_named id l.outline.images)

-- the ledger is in order, the pools and the copies are those of it, copies name no more slots than so many images may have, and each stands on a unit of the book
pub record Follows (l : Ledger) (storage : StorageState) : Type 0 where
  pub order : IsLedger l
  pub pools : ArePools l storage.pools
  pub copies : AreCopies l storage.copies
  pub few : (unit : List ℕ) → length (named_on unit l.placements) ≤ length l.outline.images * piece_limit
  pub placed : (p : Placement) → Contains l.placements p → has unit_name p.unit l.outline.site.book.units ≡ true

-- A change of the site.

-- the pool of the unit that a request adds to a book
abbrev pub pool_added : Request → Book → Option PoolState
pool_added (request.UnitAdd name capacity segment fragment slots high low) book = Some (record { file = 2 + length book.units; size = unwrap_or segment 131072; slots = unwrap_or slots 8388608; table = [] })
pool_added _ book = None

-- A backup.

-- a backup's image fits a ledger, and goes to this unit
pub record IsUnitFor (l : Ledger) (w : WholeImage) (unit : StorageUnit) : Type 0 where
  pub fits : image_fits l.outline w ≡ true
  pub unit_is : unit ≡ unit_at (whole_unit l.outline w) l.outline.site.book

-- whether a backup's segments fit, and what is known then
abbrev pub IsTaken : Ledger → WholeImage → Segments → StorageState → Bool → Type 0
IsTaken l w segments storage true = (recorded l (entry.BackupSealed w segments) ≡ Some (with_backup w segments l)) × Follows (with_backup w segments l) storage
IsTaken l w segments storage false = recorded l (entry.BackupSealed w segments) ≡ None

-- the backup of these bytes was stored and recorded: the ledger has it, and where it was known of the disk it still is, and stands for the state after the backup
pub record IsStored (l : Ledger) (w : WholeImage) (bytes : List ℕ) (old new : Disk) (end end' : ℕ) (storage : StorageState) : Type 0 where
  pub segments : Segments
  pub follows : Follows (with_backup w segments l) storage
  pub says : old.tells → SaysLedger old end l → SaysLedger new end' (with_backup w segments l)
  pub kept : old.tells → KeptLedger old end l → KeptLedger new end' (with_backup w segments l) × (state_over new.seen (with_backup w segments l) ≡ state_sealed (state_over old.seen l) w bytes)

-- it was refused: the ledger is as it was, and where it was known of the disk it still is, and stands for the same state
pub record IsUnstored (l : Ledger) (old new : Disk) (end end' : ℕ) (storage : StorageState) : Type 0 where
  pub follows : Follows l storage
  pub says : old.tells → SaysLedger old end l → SaysLedger new end' l
  pub kept : old.tells → KeptLedger old end l → KeptLedger new end' l × (state_over new.seen l ≡ state_over old.seen l)

-- A restore.

-- an image of the ledger, whose one copy is on this unit
pub record IsCopyOn (l : Ledger) (id : BackupId) (unit : StorageUnit) (image : Image) (copy : CopyRecord) : Type 0 where
  pub image_is : image_named id l.outline.images ≡ Some image
  pub only : image.entry.copies ≡ copy ∷ []
  pub unit_is : unit ≡ unit_at copy.unit l.outline.site.book

-- a live slot in which a piece of the copy stands
pub record IsPieceOf (l : Ledger) (image : ImageRecord) (copy : CopyRecord) (s : NewSegment) : Type 0 where
  pub live : Contains (live_on copy.unit l.live) s
  pub named : Contains (slots_of image.id copy.number l.placements) s.slot

-- each piece of the copy has its recorded length and digest
abbrev pub IsWholeOn : DiskImage → Ledger → ImageRecord → CopyRecord → Type 0
IsWholeOn c l image copy = (s : NewSegment) → IsPieceOf l image copy s → is_whole (c (pool_file copy.unit l.outline)) (segment_of copy.unit l.outline) s ≡ true

-- the bytes of a piece of the copy are fewer than recorded, or have another digest than recorded; these are the two digests
pub record IsDamagedOn (c : DiskImage) (l : Ledger) (image : ImageRecord) (copy : CopyRecord) (recorded found : List ℕ) : Type 0 where
  pub segment : NewSegment
  pub piece : IsPieceOf l image copy segment
  pub broken : is_whole (c (pool_file copy.unit l.outline)) (segment_of copy.unit l.outline) segment ≡ false
  pub recorded_is : recorded ≡ segment.digest
  pub found_is : found ≡ sha256 (piece_in (c (pool_file copy.unit l.outline)) (segment_of copy.unit l.outline) segment)

-- when a copy may be refused over a vault that tells
abbrev pub ReadingFails : DiskImage → Ledger → ImageRecord → CopyRecord → CopyFault → Type 0
ReadingFails c l image copy fault.NoMemory = Unit {0}
ReadingFails c l image copy fault.DiskFault = Unit {0}
ReadingFails c l image copy (fault.Damaged recorded found) = IsDamagedOn c l image copy recorded found

-- What a vault's journal says, and what it stands for with its pools. The journal has no bytes of images: it has the slots in which their pieces stand, and the pools' files have the bytes.
use Rattle.std.specs.Prelude.{ℕ, ◌+◌, ◌-◌, ◌*◌, ◌==◌, Bool, true, ◌&&◌, not, nat_le, nat_lt, min, if◌then◌else◌, List, [], ◌∷◌, ◌++◌, length, take, drop, map, filter, Option, Some, None, find, flat_map, option_and_then, option_map, Result, Ok, Err}
use Rattle.std.specs.List.{list_any}
use Rattle.std.specs.Option.{option_map_or}
use Rattle.std.specs.Result.{result_ok}
use Rattle.std.specs.Str.{bytes_eq}
use Rattle.sha2.specs.Sha256.{sha256}
use Rattle.site_types.specs.declared.id.BackupId.{BackupId}
use Rattle.site_types.specs.declared.image.CopyRecord.{CopyRecord}
use Rattle.site_types.specs.declared.image.ImageRecord.{ImageRecord}
use Rattle.vault_disk.specs.Disk.{Image as DiskImage}
use Rattle.pool_journal.specs.declared.entry.Entry.{Entry}
use Rattle.pool_journal.specs.declared.entry.Entry.TheVariants as entry
use Rattle.pool_journal.specs.declared.entry.WholeImage.{WholeImage}
use Rattle.pool_journal.specs.Records.{Found, Reading, found, broken, foreign, reading}
use Rattle.pool_journal.specs.declared.segments.NewSegment.{NewSegment}
use Rattle.pool_journal.specs.declared.segments.Segments.{Segments}
use Rattle.image_catalogue.specs.Images.{same_id}
use Rattle.desk_model.specs.State.{State, Image, Stored, initial}
use Rattle.desk_model.specs.Backups.{sealed, unit_at}
use Rattle.vault_ledger.specs.Fitting.{image_fits, settled, whole_entry, whole_unit}

-- where the pieces of a kept copy stand: the slots of its unit's pool, in the order of the pieces
pub record Placement : Type 0 where
  pub id : BackupId
  pub copy : ℕ
  pub unit : List ℕ
  pub slots : List ℕ

-- a live slot of a unit's pool, with the length and the digest of its piece
pub record LiveSlot : Type 0 where
  pub unit : List ℕ
  pub segment : NewSegment

-- the state without bytes, those of images and those of sets; where the pieces of copies stand; and the live slots, in the order in which they were recorded
pub record Ledger : Type 0 where
  pub outline : State
  pub placements : List Placement
  pub live : List LiveSlot

-- that of a new vault
abbrev pub new_ledger : Ledger
new_ledger = record { outline = initial; placements = []; live = [] }

-- The segments of a record.

-- the live slots of a unit
abbrev pub live_on : List ℕ → List LiveSlot → List NewSegment
live_on unit live = map (λ s. s.segment) (filter (λ s. bytes_eq s.unit unit) live)

-- the slots that kept copies name on a unit, each as often as it is named
abbrev pub named_on : List ℕ → List Placement → List ℕ
named_on unit placements = flat_map (λ p. p.slots) (filter (λ p. bytes_eq p.unit unit) placements)

-- how many slots a pool may have
abbrev pub slot_limit : ℕ
slot_limit = 16777216

abbrev pub has_slot : ℕ → List NewSegment → Bool
has_slot slot known = list_any (λ s. s.slot == slot) known

-- new segments name distinct slots below the limit that aren't live, with lengths from 1 to the segment size
abbrev pub added_fit : ℕ → List NewSegment → List NewSegment → Bool
added_fit size known [] = true
added_fit size known (s ∷ more) = nat_lt s.slot slot_limit && nat_le 1 s.length && nat_le s.length size && not (has_slot s.slot known) && added_fit size (known ++ s ∷ []) more

-- a live slot has a piece of this length
abbrev pub has_piece : ℕ → ℕ → List NewSegment → Bool
has_piece slot n known = list_any (λ s. s.slot == slot && s.length == n) known

-- pieces name live slots, whose lengths are those of the pieces of so many bytes
abbrev pub pieces_fit : ℕ → List NewSegment → ℕ → List ℕ → Bool
pieces_fit size known n [] = n == 0
pieces_fit size known n (slot ∷ slots) = nat_lt 0 n && has_piece slot (min size n) known && pieces_fit size known (n - size) slots

-- the segments of a record fit the live slots of their unit, and spell so many bytes
abbrev pub segments_fit : ℕ → List NewSegment → ℕ → Segments → Bool
segments_fit size known n segments = added_fit size known segments.added && pieces_fit size (known ++ segments.added) n segments.pieces

-- Records.

-- the segment size of a unit
abbrev pub segment_of : List ℕ → State → ℕ
segment_of unit s = (unit_at unit s.site.book).segment

-- a backup fits where its image does, and its segments
abbrev pub backup_fits : Ledger → WholeImage → Segments → Bool
backup_fits l w segments = image_fits l.outline w && segments_fit (segment_of (whole_unit l.outline w) l.outline) (live_on (whole_unit l.outline w) l.live) w.length segments

abbrev pub with_backup : WholeImage → Segments → Ledger → Ledger
with_backup w segments l =
    let unit = whole_unit l.outline w in
    record {
      outline = sealed (record { entry = whole_entry l.outline.site.book w; bytes = [] }) unit l.outline;
      placements = record { id = w.id; copy = 1; unit = unit; slots = segments.pieces } ∷ l.placements;
      live = l.live ++ map (λ s. record { unit = unit; segment = s }) segments.added;
    }

abbrev pub with_outline : Ledger → State → Ledger
with_outline l s = record l { outline = s }

-- the ledger after one record, where it fits; a copy of an image fits in none until there are requests that make one
abbrev pub recorded : Ledger → Entry → Option Ledger
recorded l (entry.Settings lines) = option_map (with_outline l) (settled l.outline lines)
recorded l (entry.BackupSealed image segments) = if backup_fits l image segments then Some (with_backup image segments l) else None
recorded l (entry.CopySealed id copy completed segments) = None

-- the ledger after these records, or the offset of the first that doesn't fit
abbrev pub recorded_from : ℕ → Option Ledger → List Found → Result Ledger ℕ
recorded_from at None fs = Err at
recorded_from at (Some l) [] = Ok l
recorded_from at (Some l) (f ∷ fs) = recorded_from f.at (recorded l f.is) fs

abbrev pub all_recorded : List Found → Result Ledger ℕ
all_recorded fs = recorded_from 0 (Some new_ledger) fs

-- the ledger, and an error behind it
abbrev pub unless_before : ℕ → Result Ledger ℕ → Result Ledger ℕ
unless_before at (Ok l) = Err at
unless_before at (Err earlier) = Err earlier

-- the ledger of a journal, or the offset at which it is no vault's: of its first record that is broken or doesn't fit
abbrev pub ledger_of : Reading → Result Ledger ℕ
ledger_of (found fs) = all_recorded fs
ledger_of (broken fs at) = unless_before at (all_recorded fs)
ledger_of (foreign at) = Err at

-- what an image of a disk reads as
abbrev pub journal_reads : DiskImage → Result Ledger ℕ
journal_reads c = ledger_of (reading (c 0))

-- Bytes.

-- the file of a unit's pool
abbrev pub pool_file : List ℕ → State → ℕ
pool_file unit s = 2 + (unit_at unit s.site.book).number

-- a piece in a pool's file
abbrev pub piece_in : List ℕ → ℕ → NewSegment → List ℕ
piece_in file size s = take s.length (drop (s.slot * size) file)

-- so many bytes that pieces in these slots spell
abbrev pub spelled : List ℕ → ℕ → ℕ → List ℕ → List ℕ
spelled file size n [] = []
spelled file size n (slot ∷ slots) = take (min size n) (drop (slot * size) file) ++ spelled file size (n - size) slots

-- the pieces of a unit's live slots
abbrev pub pieces_on : DiskImage → Ledger → List ℕ → List (List ℕ)
pieces_on c l unit = map (piece_in (c (pool_file unit l.outline)) (segment_of unit l.outline)) (live_on unit l.live)

-- the slots of a copy
abbrev pub slots_of : BackupId → ℕ → List Placement → List ℕ
slots_of id copy placements = option_map_or (λ p. p.slots) (find (λ p. same_id p.id id && p.copy == copy) placements) []

-- the bytes of an image are those of its first copy
abbrev pub bytes_by : DiskImage → Ledger → ImageRecord → List CopyRecord → List ℕ
bytes_by c l image [] = []
bytes_by c l image (copy ∷ copies) = spelled (c (pool_file copy.unit l.outline)) (segment_of copy.unit l.outline) image.length (slots_of image.id copy.number l.placements)

abbrev pub image_over : DiskImage → Ledger → Image → Image
image_over c l image = record { entry = image.entry; bytes = bytes_by c l image.entry image.entry.copies }

abbrev pub set_over : DiskImage → Ledger → Stored → Stored
set_over c l set = record { unit = set.unit; pieces = pieces_on c l set.unit }

-- the state of a ledger, with the bytes that the pools' files have
abbrev pub state_over : DiskImage → Ledger → State
state_over c l = record (l.outline) { images = map (image_over c l) l.outline.images; stored = map (set_over c l) l.outline.stored }

-- The pools.

-- a live slot's bytes have its length and digest
abbrev pub is_whole : List ℕ → ℕ → NewSegment → Bool
is_whole file size s = (length (piece_in file size s) == s.length) && bytes_eq (sha256 (piece_in file size s)) s.digest

-- each of them
abbrev pub are_whole : List ℕ → ℕ → List NewSegment → Bool
are_whole file size [] = true
are_whole file size (s ∷ more) = is_whole file size s && are_whole file size more

-- no two are equal
abbrev pub are_distinct : List (List ℕ) → Bool
are_distinct [] = true
are_distinct (piece ∷ more) = not (list_any (λ p. bytes_eq p piece) more) && are_distinct more

abbrev pub is_true_unit : DiskImage → Ledger → List ℕ → Bool
is_true_unit c l unit = are_whole (c (pool_file unit l.outline)) (segment_of unit l.outline) (live_on unit l.live) && are_distinct (pieces_on c l unit)

-- the bytes of each live slot have its length and digest, and no two live slots of a unit have equal bytes
abbrev pub are_true : DiskImage → Ledger → List Stored → Bool
are_true c l [] = true
are_true c l (set ∷ sets) = is_true_unit c l set.unit && are_true c l sets

abbrev pub state_where : DiskImage → Ledger → Option State
state_where c l = if are_true c l l.outline.stored then Some (state_over c l) else None

-- the durable state that an image of a disk stands for
abbrev pub stands : DiskImage → Option State
stands c = option_and_then (state_where c) (result_ok (journal_reads c))

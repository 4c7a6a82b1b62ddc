-- Entries, as they are spelled in a record's body, and as they are read from it.
use Rattle.std.specs.Prelude.{◌≡◌, ◌≢◌, ℕ, ◌+◌, ◌^◌, ◌<◌, ◌≤◌, ◌==◌, if◌then◌else◌, true, List, [], ◌∷◌, ◌++◌, length, Option, Some, None, option_map, option_and_then, Result, Ok, Err}
use Rattle.std.specs.Int.{w16, w32, w64, to_be_bytes}
use Rattle.site_types.specs.Names.{is_name}
pub use Rattle.site_types.specs.declared.id.BackupId.{BackupId}
use Rattle.pool_journal.specs.Fields.{string, strings, kind_code, base_code, Field, byte_field, short_field, long_field, string_field, counted_field, name_field, kind_field, base_field, both, Kind, Base, FieldFault, Broken, NoMemory}
pub use Rattle.pool_journal.specs.declared.entry.Entry.{Entry}
pub use Rattle.pool_journal.specs.declared.entry.WholeImage.{WholeImage}
pub use Rattle.pool_journal.specs.declared.segments.Segments.{Segments}
use Rattle.pool_journal.specs.Segments.{spelled_segments, segments_field, taken_by, AreCounted, GrowsFor, SegmentsFit}
use Rattle.site_types.specs.declared.image.Base.TheVariants as base
use Rattle.pool_journal.specs.declared.entry.Entry.TheVariants as entry

-- how an entry is spelled, which is the body of its record: its kind, and its fields
abbrev pub spelled_id : BackupId → List ℕ
spelled_id id = string id.client ++ to_be_bytes w64 id.time

abbrev pub spelled_names : List ℕ → List ℕ → List ℕ
spelled_names policy schedule = string policy ++ string schedule

abbrev pub spelled_kind_and_base : Kind → Base → List ℕ
spelled_kind_and_base kind base = kind_code kind ∷ to_be_bytes w64 (base_code base)

abbrev pub spelled_lifecycle : List ℕ → ℕ → List ℕ
spelled_lifecycle lifecycle version = string lifecycle ++ to_be_bytes w16 version

abbrev pub spelled_longs : ℕ → ℕ → List ℕ
spelled_longs completed length = to_be_bytes w64 completed ++ to_be_bytes w64 length

abbrev pub spelled_image : WholeImage → List ℕ
spelled_image image =
    spelled_id image.id ++ spelled_names image.policy image.schedule ++ spelled_kind_and_base image.kind image.base ++ spelled_lifecycle image.lifecycle image.version ++ spelled_longs image.completed image.length

-- the lines behind their number
abbrev pub spelled_settings : List (List ℕ) → List ℕ
spelled_settings lines = to_be_bytes w32 (length lines) ++ strings lines

-- the copy's number and its completion
abbrev pub spelled_copy : ℕ → ℕ → List ℕ
spelled_copy copy completed = copy ∷ to_be_bytes w64 completed

abbrev pub spelled_entry : Entry → List ℕ
spelled_entry (entry.Settings lines) = 1 ∷ spelled_settings lines
spelled_entry (entry.BackupSealed image segments) = 2 ∷ spelled_image image ++ spelled_segments segments
spelled_entry (entry.CopySealed id copy completed segments) = 3 ∷ spelled_id id ++ spelled_copy copy completed ++ spelled_segments segments

-- what stands behind the gate of a record with this body, with the closed gate of the next
abbrev pub staged_record : List ℕ → List ℕ
staged_record body = to_be_bytes w32 (length body) ++ body ++ 0 ∷ []

-- how it is read
abbrev pub id_made : (List ℕ × ℕ) × List ℕ → BackupId × List ℕ
id_made (p, rest) = (record { client = p.0; time = p.1 }, rest)

abbrev pub id_field : Field BackupId
id_field bytes = option_map id_made (both name_field long_field bytes)

abbrev pub made_under_field : Field (List ℕ × List ℕ)
made_under_field = both name_field name_field

abbrev pub taken_as_field : Field (Kind × Base)
taken_as_field = both kind_field base_field

abbrev pub version_field : Field (List ℕ × ℕ)
version_field = both name_field short_field

abbrev pub moments_field : Field (ℕ × ℕ)
moments_field = both long_field long_field

abbrev pub image_made : BackupId → List ℕ × List ℕ → Kind × Base → List ℕ × ℕ → ℕ × ℕ → WholeImage
image_made id under taken version moments = record {
  id = id;
  policy = under.0;
  schedule = under.1;
  kind = taken.0;
  base = taken.1;
  lifecycle = version.0;
  version = version.1;
  completed = moments.0;
  length = moments.1;
}

abbrev pub whole_image_field : Field WholeImage
whole_image_field bytes =
    option_and_then (λ a. option_and_then (λ b. option_and_then (λ c. option_and_then (λ d. option_and_then (λ e. Some (image_made a.0 b.0 c.0 d.0 e.0, e.1)) (moments_field d.1)) (version_field c.1)) (taken_as_field b.1))
    (made_under_field a.1)) (id_field bytes)

abbrev pub settings_field : Field (List (List ℕ))
settings_field = counted_field string_field

abbrev pub backup_field : Field (WholeImage × Segments)
backup_field = both whole_image_field segments_field

abbrev pub copied_as_field : Field (ℕ × ℕ)
copied_as_field = both byte_field long_field

abbrev pub copy_field : Field (BackupId × (ℕ × ℕ))
copy_field = both id_field copied_as_field

abbrev pub stored_copy_field : Field ((BackupId × (ℕ × ℕ)) × Segments)
stored_copy_field = both copy_field segments_field

-- the entries that these make
abbrev pub backup_entry : WholeImage × Segments → Entry
backup_entry p = entry.BackupSealed p.0 p.1

abbrev pub copy_entry : (BackupId × (ℕ × ℕ)) × Segments → Entry
copy_entry p = entry.CopySealed p.0.0 p.0.1.0 p.0.1.1 p.1

-- an entry behind which nothing stands
abbrev pub alone : {A : Type 0} → (A → Entry) → A × List ℕ → Option Entry
alone made (fields, []) = Some (made fields)
alone made (fields, byte ∷ bytes) = None

abbrev pub of_kind : ℕ × List ℕ → Option Entry
of_kind (kind, rest) =
    if kind == 1 then option_and_then (alone entry.Settings) (settings_field rest)
    else (if kind == 2 then option_and_then (alone backup_entry) (backup_field rest)
    else (if kind == 3 then option_and_then (alone copy_entry) (stored_copy_field rest)
    else None))

-- the entry that a record's body spells, where it spells one
abbrev pub entry_of : List ℕ → Option Entry
entry_of body = option_and_then of_kind (byte_field body)

-- lines whose lengths fit into two bytes, and their number into four
abbrev pub AllShort : List (List ℕ) → Type 0
AllShort [] = Unit {0}
AllShort (line ∷ lines) = (length line < 2 ^ 16) × AllShort lines

abbrev pub AreLines : List (List ℕ) → Type 0
AreLines lines = (length lines < 2 ^ 32) × AllShort lines

-- An entry that can be spelled. Of settings the lines are short, and of segments the numbers fit into four bytes. A base is no moment 0, which spells none.
abbrev pub IsFormed : Entry → Type 0
IsFormed (entry.Settings lines) = AreLines lines
IsFormed (entry.BackupSealed image segments) = AreCounted segments × (image.base ≢ base.Time 0)
IsFormed (entry.CopySealed id copy completed segments) = AreCounted segments

-- an entry whose record can be written
abbrev pub IsWritable : Entry → Type 0
IsWritable e = (length (spelled_entry e) < 2 ^ 32) × IsFormed e

-- an entry was read: the one that the body spells
abbrev pub IsEntry : Result Entry FieldFault → List ℕ → Type 0
IsEntry (Ok e) body = entry_of body ≡ Some e
IsEntry (Err (Broken left)) body = entry_of body ≡ None
IsEntry (Err NoMemory) body = Unit {0}

-- an entry behind which this stands was taken as one behind which nothing may stand
abbrev pub IsAlone : Result Entry FieldFault → Entry → List ℕ → Type 0
IsAlone (Ok taken) e rest = (rest ≡ []) × (taken ≡ e)
IsAlone (Err (Broken left)) e rest = rest ≢ []
IsAlone (Err NoMemory) e rest = ⊥

-- the fields of an entry have the ranges of their types: names are names, and numbers fit
abbrev pub IsNamed : List ℕ → Type 0
IsNamed name = is_name name ≡ true

pub record IdFits (id : BackupId) : Type 0 where
  pub client : IsNamed id.client
  pub time : id.time < 2 ^ 64

pub record CopyFits (id : BackupId) (copy completed : ℕ) : Type 0 where
  pub named : IdFits id
  pub number : copy < 2 ^ 8
  pub moment : completed < 2 ^ 64

pub record ImageFits (image : WholeImage) : Type 0 where
  pub id : IdFits image.id
  pub policy : IsNamed image.policy
  pub schedule : IsNamed image.schedule
  pub base : base_code image.base < 2 ^ 64
  pub lifecycle : IsNamed image.lifecycle
  pub version : image.version < 2 ^ 16
  pub completed : image.completed < 2 ^ 64
  pub length : image.length < 2 ^ 64

abbrev pub IsSpellable : Entry → Type 0
IsSpellable (entry.Settings lines) = Unit {0}
IsSpellable (entry.BackupSealed image segments) = ImageFits image × SegmentsFit segments
IsSpellable (entry.CopySealed id copy completed segments) = CopyFits id copy completed × SegmentsFit segments

-- The fields of an entry are short. With the kind their numbers and lengths take 44 bytes in an image and 20 in a copy; an image has four names and a copy one, of at most 64 bytes each. The segments stand behind them.
abbrev pub HasShortFields : Entry → Type 0
HasShortFields (entry.Settings lines) = Unit {0}
HasShortFields (entry.BackupSealed image segments) = length (spelled_entry (entry.BackupSealed image segments)) ≤ 300 + taken_by segments
HasShortFields (entry.CopySealed id copy completed segments) = length (spelled_entry (entry.CopySealed id copy completed segments)) ≤ 84 + taken_by segments

-- a length grew for this entry by no more than it may; of the entries without segments nothing is said
abbrev pub Grows : Entry → ℕ → ℕ → Type 0
Grows (entry.Settings lines) old new = Unit {0}
Grows (entry.BackupSealed image segments) old new = GrowsFor segments old new
Grows (entry.CopySealed id copy completed segments) old new = GrowsFor segments old new

-- these bytes are the record of an entry that can be written, and that is read as it is spelled
pub record IsStaged (e : Entry) (bytes : List ℕ) : Type 0 where
  pub writable : IsWritable e
  pub spellable : IsSpellable e
  pub is : bytes ≡ staged_record (spelled_entry e)

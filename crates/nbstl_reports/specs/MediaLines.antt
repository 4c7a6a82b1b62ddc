-- The fragments of an image's copies.
use Rattle.std.specs.Prelude.{ℕ, ◌+◌, ◌-◌, ◌*◌, ◌==◌, min, if◌then◌else◌, List, [], ◌∷◌, map, find, Option, Some, None}
use Rattle.std.specs.Fmt.{decimal}
use Rattle.std.specs.Int.{div_ceil}
use Rattle.std.specs.List.{flat_map, range_with_len}
use Rattle.std.specs.Str.{bytes_eq}
use Rattle.site_types.specs.Ids.{id_text}
use Rattle.site_types.specs.declared.image.CopyRecord.{CopyRecord}
use Rattle.site_types.specs.declared.image.ImageRecord.{ImageRecord}
use Rattle.site_types.specs.declared.unit.Unit.{Unit as StorageUnit}
use Rattle.nbstl_reports.specs.Lines.{lines}

-- the unit of this name
abbrev pub unit_named : List ℕ → List StorageUnit → Option StorageUnit
unit_named name units = find (λ unit. bytes_eq unit.name name) units

-- a fragment is a run of so many segments, so a whole one has so many bytes
abbrev pub fragment_size : StorageUnit → ℕ
fragment_size unit = unit.segment * unit.fragment

-- how many fragments of this size so many bytes have, where the last may have fewer and has at least one: no bytes have none, and a size of 0, which no unit has, gives none
abbrev pub fragment_count : ℕ → ℕ → ℕ
fragment_count size length = if size == 0 then 0 else div_ceil length size

-- the bytes of the fragment that stands behind so many others
abbrev pub fragment_length : ℕ → ℕ → ℕ → ℕ
fragment_length size length before = min size (length - before * size)

-- ID COPY FRAGMENT UNIT LENGTH, with fragments from 1
abbrev pub fragment_fields : ImageRecord → CopyRecord → ℕ → ℕ → List (List ℕ)
fragment_fields image copy size before =
    id_text image.id
    ∷ decimal copy.number
    ∷ decimal (before + 1)
    ∷ copy.unit
    ∷ decimal (fragment_length size image.length before)
    ∷ []

-- those of a copy, as its unit cuts it; a copy on a unit that isn't there has none
abbrev pub fragments_of : ImageRecord → CopyRecord → Option StorageUnit → List (List (List ℕ))
fragments_of image copy None = []
fragments_of image copy (Some unit) =
    map (fragment_fields image copy (fragment_size unit)) (range_with_len 0 (fragment_count (fragment_size unit) image.length))

-- a line for each fragment of each kept copy
abbrev pub media_lines : ImageRecord → List StorageUnit → List ℕ
media_lines image units = lines (flat_map (λ copy. fragments_of image copy (unit_named copy.unit units)) image.copies)

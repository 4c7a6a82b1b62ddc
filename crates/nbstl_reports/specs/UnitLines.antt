-- The units, and what is stored on them.
use Rattle.std.specs.Prelude.{ℕ, ◌+◌, List, [], ◌∷◌, map, count_by}
use Rattle.std.specs.Fmt.{decimal}
use Rattle.std.specs.List.{zip}
use Rattle.std.specs.Str.{bytes_eq}
use Rattle.site_types.specs.declared.image.ImageRecord.{ImageRecord}
use Rattle.site_types.specs.declared.unit.Unit.{Unit as StorageUnit}
use Rattle.image_catalogue.specs.Images.{used}
use Rattle.nbstl_reports.specs.declared.units.StoredSize.{StoredSize}
use Rattle.nbstl_reports.specs.Lines.{lines}

-- NAME USED CAPACITY HIGH LOW
abbrev pub unit_fields : List ImageRecord → StorageUnit → List (List ℕ)
unit_fields images unit =
    unit.name
    ∷ decimal (used unit.name images)
    ∷ decimal unit.capacity
    ∷ decimal unit.high
    ∷ decimal unit.low
    ∷ []

-- a line for each unit
abbrev pub unit_lines : List StorageUnit → List ImageRecord → List ℕ
unit_lines units images = lines (map (unit_fields images) units)

-- how many kept copies the images have on a unit
abbrev pub copies_on : List ℕ → List ImageRecord → ℕ
copies_on unit [] = 0
copies_on unit (image ∷ images) = count_by (λ copy. bytes_eq copy.unit unit) image.copies + copies_on unit images

-- NAME SEGMENTS BYTES COPIES USED
abbrev pub stats_fields : List ImageRecord → StorageUnit × StoredSize → List (List ℕ)
stats_fields images entry =
    entry.0.name
    ∷ decimal entry.1.segments
    ∷ decimal entry.1.bytes
    ∷ decimal (copies_on entry.0.name images)
    ∷ decimal (used entry.0.name images)
    ∷ []

-- a line for each unit, with what is stored at the same place
abbrev pub stats_lines : List StorageUnit → List ImageRecord → List StoredSize → List ℕ
stats_lines units images stored = lines (map (stats_fields images) (zip units stored))

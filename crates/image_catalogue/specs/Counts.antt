-- The bytes that kept copies have on each unit, as they are counted.
use Rattle.std.specs.Prelude.{◌≡◌, ◌<◌, ℕ, Bool, true, false, if◌then◌else◌, List, [], ◌∷◌, length, Option, MatchOption, bytes_eq}
use Rattle.std.specs.List.{HoldsAt, AllWithin}
pub use Rattle.image_catalogue.specs.declared.unit_bytes.UnitBytes.{UnitBytes}
use Rattle.image_catalogue.specs.Images.{used, ImageRecord}

-- an entry is one of this unit
abbrev pub is_of : List ℕ → UnitBytes → Bool
is_of unit entry = bytes_eq entry.unit unit

-- no entry before this place is of the unit
abbrev pub NoneBefore : List UnitBytes → List ℕ → ℕ → Type 0
NoneBefore entries unit i = AllWithin (λ (entry : UnitBytes). is_of unit entry ≡ false) entries 0 i

-- the first entry of a unit stands here
abbrev pub IsFirst : List UnitBytes → List ℕ → ℕ → Type 0
IsFirst entries unit i =
    (i < length entries) × HoldsAt (λ (entry : UnitBytes). is_of unit entry ≡ true) entries i × NoneBefore entries unit i

abbrev pub IsEntryOf : List UnitBytes → List ℕ → Option ℕ → Type 0
IsEntryOf entries unit place = MatchOption place (NoneBefore entries unit (length entries)) (IsFirst entries unit)

-- the bytes of the first entry of a unit, and none where it has no entry
abbrev pub recorded : List ℕ → List UnitBytes → ℕ
recorded unit [] = 0
recorded unit (entry ∷ entries) = if is_of unit entry then entry.bytes else recorded unit entries

-- the entries tell of each unit how many bytes the images' kept copies have on it
abbrev pub Counts : List UnitBytes → List ImageRecord → Type 0
Counts entries images = (unit : List ℕ) → recorded unit entries ≡ used unit images

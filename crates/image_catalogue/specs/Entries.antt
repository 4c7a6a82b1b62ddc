-- What a catalogue's map keeps of its images.
use Rattle.std.specs.Prelude.{◌≡◌, List}
use Rattle.std.specs.List.{AllByRecursion}
use Rattle.image_catalogue.specs.Images.{BackupId, ImageRecord}

-- each image is kept under its id
abbrev pub KeysAreIds : List (BackupId × ImageRecord) → Type 0
KeysAreIds entries = AllByRecursion (λ entry. entry.0 ≡ entry.1.id) entries

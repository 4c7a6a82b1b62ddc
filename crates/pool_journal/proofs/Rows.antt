-- Worked rows of records, byte by byte.
use Rattle.pool_journal.proofs.Common.{◌≡◌, [], ◌∷◌, ◌++◌, length, replicate, refl, Full, List, Some, Segments, WholeImage, ℕ, broken, entry_of, header, reading, spelled_entry, spelled_image, staged_record}
use Rattle.std.specs.Prelude.{codes}
use Rattle.site_types.specs.declared.image.Base.TheVariants as base
use Rattle.pool_journal.specs.declared.entry.Entry.TheVariants as entry

-- an image of five bytes, under the built-in policy
abbrev hello : WholeImage
hello = record {
  id = record { client = codes "alpha"; time = 1000 };
  policy = codes "adhoc";
  schedule = codes "manual";
  kind = Full;
  base = base.None;
  lifecycle = codes "basic";
  version = 1;
  completed = 1000;
  length = 5;
}

-- its one segment, which is new in slot 3
abbrev stored : Segments
stored = record { added = record { slot = 3; length = 5; digest = replicate 32 9 } ∷ []; pieces = 3 ∷ [] }

-- with the header, the gate, the length and the next gate, 22 bytes, the journal has 139
backup_in_segments : length (spelled_entry (entry.BackupSealed hello stored)) ≡ 117
backup_in_segments = refl

backup_is_read : entry_of (spelled_entry (entry.BackupSealed hello stored)) ≡ Some (entry.BackupSealed hello stored)
backup_is_read = refl

copy_in_segments : spelled_entry (entry.CopySealed hello.id 2 1001 stored)
    ≡ 3 ∷ 0 ∷ 5 ∷ 97 ∷ 108 ∷ 112 ∷ 104 ∷ 97 ∷ 0 ∷ 0 ∷ 0 ∷ 0 ∷ 0 ∷ 0 ∷ 3 ∷ 232 ∷ 2 ∷ 0 ∷ 0 ∷ 0 ∷ 0 ∷ 0 ∷ 0 ∷ 3 ∷ 233 ∷ 0 ∷ 0 ∷ 0 ∷ 1 ∷ 0 ∷ 0 ∷ 0 ∷ 3 ∷ 0 ∷ 0 ∷ 0 ∷ 5 ∷ (replicate 32 9 ++ 0 ∷ 0 ∷ 0 ∷ 1 ∷ 0 ∷ 0 ∷ 0 ∷ 3 ∷ [])
copy_in_segments = refl

copy_is_read : entry_of (spelled_entry (entry.CopySealed hello.id 2 1001 stored)) ≡ Some (entry.CopySealed hello.id 2 1001 stored)
copy_is_read = refl

-- An image that stands whole in its record, which is of kind 7, is none, as no record of an unknown kind is: the journal is broken at its gate.
abbrev whole_body : List ℕ
whole_body = 7 ∷ spelled_image hello ++ codes "hello"

whole_image_is_broken : reading (header ++ 165 ∷ staged_record whole_body) ≡ broken [] 16
whole_image_is_broken = refl

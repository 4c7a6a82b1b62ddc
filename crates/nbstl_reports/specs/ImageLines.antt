-- The list of images.
use Rattle.std.specs.Prelude.{ℕ, List, [], ◌∷◌, map}
use Rattle.std.specs.Borrow.{Bor}
use Rattle.std.specs.Fmt.{decimal}
use Rattle.std.specs.List.{join_with_byte}
use Rattle.site_types.specs.Ids.{id_text}
use Rattle.site_types.specs.Values.{kind_text}
use Rattle.site_types.specs.declared.image.CopyRecord.{CopyRecord}
use Rattle.site_types.specs.declared.image.ImageRecord.{ImageRecord}
use Rattle.nbstl_reports.specs.Lines.{lines}

-- the numbers of the kept copies, with commas between them
abbrev pub copies_text : List CopyRecord → List ℕ
copies_text copies = join_with_byte 44 (map (λ copy. decimal copy.number) copies)

-- ID POLICY SCHEDULE KIND LIFECYCLE VERSION LENGTH PRIMARY COPIES
abbrev pub image_fields : ImageRecord → List (List ℕ)
image_fields image =
    id_text image.id
    ∷ image.policy
    ∷ image.schedule
    ∷ kind_text image.kind
    ∷ image.lifecycle
    ∷ decimal image.version
    ∷ decimal image.length
    ∷ decimal image.primary
    ∷ copies_text image.copies
    ∷ []

-- a line for each image
abbrev pub image_lines : List ImageRecord → List ℕ
image_lines images = lines (map image_fields images)

-- the images that references point to
abbrev pub listed : List (Bor ImageRecord) → List ImageRecord
listed images = map (λ image. image.now) images

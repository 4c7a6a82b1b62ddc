-- What a decision sees of a state: its site and what the catalogue has of its images.
use Rattle.std.specs.Prelude.{ℕ, ◌+◌, ◌++◌, Bool, List, [], ◌∷◌, map, codes, replicate, Option, Some, None}
use Rattle.site_types.specs.Ids.{id_text}
use Rattle.desk_rules.specs.Decisions.{Answer, Done, ImageRecord, Site}
use Rattle.site_types.specs.declared.id.BackupId.{BackupId}
use Rattle.image_catalogue.specs.Images.{record_named, used}
use Rattle.policy_book.specs.Book.{Policy}
use Rattle.desk_model.specs.Backups.{Asked, backup_unit, new_time, room_refusals, schedule_chosen, unit_at}
use Rattle.desk_model.specs.State.{State, Image}

-- an image of which the number of its bytes is known
abbrev pub blank : ImageRecord → Image
blank entry = record { entry = entry; bytes = replicate entry.length 0 }

-- one of the states that have this site and these images
abbrev pub seen : Site → List ImageRecord → State
seen site images = record { site = site; images = map blank images; stored = []; jobs = []; next_job = 1 }

-- the refusals of a backup's schedule, unit and time under a policy
abbrev pub room_under : Policy → Asked → List ImageRecord → ℕ → State → List (Bool × Answer)
room_under policy asked images moment s =
    let unit = unit_at (backup_unit policy s.site.book) s.site.book in
    room_refusals asked policy (schedule_chosen asked.schedule policy) unit (used unit.name images) moment s

-- how many bytes the images with these ids have together, as the catalogue has it
abbrev pub length_of : Option ImageRecord → ℕ
length_of None = 0
length_of (Some image) = image.length

abbrev pub lengths : List ImageRecord → List BackupId → ℕ
lengths images [] = 0
lengths images (id ∷ ids) = length_of (record_named id images) + lengths images ids

-- what a backup is answered that is made
abbrev pub backup_answer : Asked → ℕ → State → Answer
backup_answer asked moment s = Done (id_text (record { client = asked.client; time = new_time asked.client moment s }) ++ codes "\n")

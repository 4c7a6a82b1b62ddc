-- The state of the desk.
use Rattle.std.specs.Prelude.{ℕ, Bool, if◌then◌else◌, List, [], ◌∷◌, codes, map, Option, find}
use Rattle.std.specs.List.{list_any}
use Rattle.std.specs.Str.{bytes_eq}
use Rattle.site_types.specs.declared.id.BackupId.{BackupId}
use Rattle.site_types.specs.declared.image.ImageRecord.{ImageRecord}
use Rattle.site_types.specs.declared.image.Kind.{Kind}
use Rattle.site_types.specs.declared.image.Base.{Base}
use Rattle.image_catalogue.specs.Images.{same_id, is_before}
use Rattle.desk_model.specs.declared.site.Site.{Site}
use Rattle.desk_model.specs.Site.{initial_site}
use Rattle.desk_model.specs.Pieces.{with_pieces}

-- an image: what the catalogue has of it, and its bytes
pub record Image : Type 0 where
  pub entry : ImageRecord
  pub bytes : List ℕ

-- the distinct pieces that are stored on a unit
pub record Stored : Type 0 where
  pub unit : List ℕ
  pub pieces : List (List ℕ)

-- an open job: a backup or a duplication with its bytes so far, or a restore of its copy's bytes up to a position
pub data Job : Type 0 where
  backup : (id : BackupId) (policy schedule : List ℕ) (kind : Kind) (base : Base) (lifecycle : List ℕ) (version : ℕ) (bytes : List ℕ) → Job
  duplication : (id : BackupId) (operation : ℕ) (bytes : List ℕ) → Job
  restore : (unit bytes : List ℕ) (position : ℕ) → Job

-- images by client and time, the pieces of units in the order in which they were added, open jobs by number
pub record State : Type 0 where
  pub site : Site
  pub images : List Image
  pub stored : List Stored
  pub jobs : List (ℕ × Job)
  pub next_job : ℕ

-- the state of a new vault
abbrev pub initial : State
initial = record { site = initial_site; images = []; stored = record { unit = codes "disk0"; pieces = [] } ∷ []; jobs = []; next_job = 1 }

-- what outlives a stop: the state without its jobs
abbrev pub durable : State → State
durable s = record s { jobs = []; next_job = 1 }

-- an image at its place
abbrev pub with_image : Image → List Image → List Image
with_image new [] = new ∷ []
with_image new (i ∷ images) = if is_before new.entry.id i.entry.id then new ∷ i ∷ images else i ∷ with_image new images

-- what the catalogue has of them
abbrev pub entries : List Image → List ImageRecord
entries images = map (λ i. i.entry) images

abbrev pub has_image : BackupId → List Image → Bool
has_image id images = list_any (λ i. same_id i.entry.id id) images

abbrev pub image_named : BackupId → List Image → Option Image
image_named id images = find (λ i. same_id i.entry.id id) images

-- pieces that a unit's set lacks are added to it
abbrev pub with_stored : List ℕ → List (List ℕ) → List Stored → List Stored
with_stored unit more [] = []
with_stored unit more (s ∷ sets) = if bytes_eq s.unit unit then record { unit = s.unit; pieces = with_pieces s.pieces more } ∷ sets else s ∷ with_stored unit more sets

-- the pieces that are stored on a unit
abbrev pub stored_on : List ℕ → List Stored → List (List ℕ)
stored_on unit [] = []
stored_on unit (set ∷ sets) = if bytes_eq set.unit unit then set.pieces else stored_on unit sets

-- The images of a catalogue, by client and then by time.
use Rattle.std.specs.Prelude.{◌≡◌, ℕ, ◌+◌, Bool, ◌&&◌, ◌==◌, not, if◌then◌else◌, List, [], ◌∷◌, length, filter, find, Option, AllPairs, bytes_eq, nat_le, reverse, true}
use Rattle.std.specs.Cmp.Lexicographic.{slice_cmp}
use Rattle.std.specs.Ordering.{is_lt, then_cmp, nat_cmp}
pub use Rattle.site_types.specs.declared.id.BackupId.{BackupId}
pub use Rattle.site_types.specs.declared.image.CopyRecord.{CopyRecord}
pub use Rattle.site_types.specs.declared.image.ImageRecord.{ImageRecord}

abbrev pub same_id : BackupId → BackupId → Bool
same_id a b = bytes_eq a.client b.client && (a.time == b.time)

-- by client, and then by time
abbrev pub is_before : BackupId → BackupId → Bool
is_before a b = is_lt (then_cmp (λ x y. slice_cmp nat_cmp x.client y.client) (λ x y. nat_cmp x.time y.time) a b)

-- an image at its place
abbrev pub with_record : ImageRecord → List ImageRecord → List ImageRecord
with_record new [] = new ∷ []
with_record new (i ∷ images) = if is_before new.id i.id then new ∷ i ∷ images else i ∷ with_record new images

-- the image of this id
abbrev pub record_named : BackupId → List ImageRecord → Option ImageRecord
record_named id images = find (λ i. same_id i.id id) images

-- all but the image of this id
abbrev pub without_record : BackupId → List ImageRecord → List ImageRecord
without_record id images = filter (λ i. not (same_id i.id id)) images

-- the images stand by id, each id once
abbrev pub AreById : List ImageRecord → Type 0
AreById images = AllPairs (λ a b. is_before a.id b.id ≡ true) images

-- the bytes of an image's kept copies on a unit
abbrev pub bytes_on : List ℕ → ℕ → List CopyRecord → ℕ
bytes_on unit size [] = 0
bytes_on unit size (copy ∷ copies) = (if bytes_eq copy.unit unit then size else 0) + bytes_on unit size copies

-- the bytes of all kept copies on a unit, before equal segments are stored once
abbrev pub used : List ℕ → List ImageRecord → ℕ
used unit [] = 0
used unit (i ∷ images) = bytes_on unit i.length i.copies + used unit images

-- the first image of a client, which is its earliest
abbrev pub first_of_client : List ℕ → List ImageRecord → Option ImageRecord
first_of_client client images = find (λ i. bytes_eq i.id.client client) images

-- the first image that was made under a policy
abbrev pub first_under : List ℕ → List ImageRecord → Option ImageRecord
first_under policy images = find (λ i. bytes_eq i.policy policy) images

-- a client's images that were made no later than a moment, the latest first
abbrev pub is_made_by : List ℕ → ℕ → ImageRecord → Bool
is_made_by client moment image = bytes_eq image.id.client client && nat_le image.id.time moment

abbrev pub latest_first : List ℕ → ℕ → List ImageRecord → List ImageRecord
latest_first client moment images = reverse (filter (is_made_by client moment) images)

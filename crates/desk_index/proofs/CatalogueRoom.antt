-- Room in a catalogue.
use Rattle.std.proofs.Common.{◌≡◌, ◌<◌, ℕ, List, length, Bool, true, Some, None, refl, sym, ◌∙◌, ap, arith}
use Rattle.std.specs.Prelude.{Option, ◌&&◌, not, nat_lt, is_some, is_none}
use Rattle.std.proofs.lemmas.Bool.Decides.{nat_tests}
use Rattle.std.proofs.lemmas.List.{length-map}
use Rattle.site_types.specs.declared.id.BackupId.{BackupId}
use Rattle.site_types.specs.declared.image.ImageRecord.{ImageRecord}
use Rattle.image_catalogue.specs.Images.{record_named}
use Rattle.desk_model.specs.State.{Image, entries, has_image}
use Rattle.desk_model.specs.Backups.{image_limit}
use Rattle.desk_model.proofs.ImageLists.{has_entry}

none_not : {A : Type 0} (o : Option A) → is_none o ≡ not (is_some o)
none_not None = refl
none_not (Some a) = refl

entries_length : (images : List Image) → length (entries images) ≡ length images
entries_length images = length-map images (λ i. i.entry)

-- an image isn't there, and there is room for it
has_room : (id : BackupId) (images : List Image) (catalogue : List ImageRecord) → entries images ≡ catalogue → (nat_lt (length catalogue) image_limit && is_none (record_named id catalogue)) ≡ (nat_lt (length images) image_limit && not (has_image id images))
has_room id images catalogue listed =
    λ i. nat_lt (count i) image_limit && (ap (λ (l : List ImageRecord). is_none (record_named id l)) (sym listed) ∙ none_not (record_named id (entries images)) ∙ ap (λ (b : Bool). not b) (has_entry id images)) i
  where
    count : length catalogue ≡ length images
    count = ap (λ (l : List ImageRecord). length l) (sym listed) ∙ entries_length images

pub has_room_so : (id : BackupId) (images : List Image) (catalogue : List ImageRecord) (count : ℕ) (new : Bool) → entries images ≡ catalogue → count ≡ length catalogue → count < image_limit → new ≡ is_none (record_named id catalogue) → new ≡ (nat_lt (length images) image_limit && not (has_image id images))
has_room_so id images catalogue count new listed count_is below new_is =
    let few : nat_lt (length catalogue) image_limit ≡ true = grind (arith, nat_tests, count_is, below) in
    new_is ∙ (λ i. sym few i && is_none (record_named id catalogue)) ∙ has_room id images catalogue listed

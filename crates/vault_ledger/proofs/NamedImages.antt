-- Which image an id has, where there is one more.
use Rattle.desk_model.proofs.Common.{◌≡◌, ◌∙◌, Bool, true, false, List, [], ◌∷◌, refl, sym, ap, Option, Some, if◌then◌else◌, ◌&&◌, false≢true, or_parts, BackupId, same_id, is_before, Image, has_image, image_named, with_image}
use Rattle.std.specs.BTreeMap.{is_at}
use Rattle.std.specs.Cmp.{tied_then, unsigned_tied}
use Rattle.std.specs.Cmp.Lexicographic.{slice_cmp}
use Rattle.std.specs.Ordering.{nat_cmp}
use Rattle.std.proofs.lemmas.Map.Text.{is_eq-slice_cmp}
use Rattle.desk_model.proofs.ImageLists.{same_is, same_self}
use Rattle.vault_ledger.specs.Copies.{id_cmp}

-- a key is found where it is the same id
pub at_same : (id key : BackupId) → is_at (id_cmp id) key ≡ same_id id key
at_same id key = sym (tied_then (slice_cmp nat_cmp id.client key.client) (nat_cmp id.time key.time)) ∙ (λ j. is_eq-slice_cmp id.client key.client j && unsigned_tied id.time key.time j)

-- what is found has the id
pub named_id : (id : BackupId) (images : List Image) (image : Image) → image_named id images ≡ Some image → image.entry.id ≡ id
named_id id [] image is = absurd (cc is)
named_id id (i ∷ images) image is = at (same_id i.entry.id id) refl (named_id id images image) is
  where
    at : (b : Bool) → same_id i.entry.id id ≡ b → (image_named id images ≡ Some image → image.entry.id ≡ id) → (if b then Some i else image_named id images) ≡ Some image → image.entry.id ≡ id
    at true same later here =
        let found : i ≡ image = cc here in
        ap (λ (x : Image). x.entry.id) (sym found) ∙ same_is i.entry.id id same
    at false differs later there = later there

-- a new image has its id, and the others have theirs
pub named_with : (new : Image) (images : List Image) → has_image new.entry.id images ≡ false → (id : BackupId) → image_named id (with_image new images) ≡ (if same_id new.entry.id id then Some new else image_named id images)
named_with new [] fresh id = refl
named_with new (i ∷ images) fresh id =
    let parts = or_parts (same_id i.entry.id new.entry.id) (has_image new.entry.id images) fresh in
    at parts.0 (is_before new.entry.id i.entry.id) (named_with new images parts.1 id)
  where
    never : same_id i.entry.id new.entry.id ≡ false → same_id i.entry.id id ≡ true → same_id new.entry.id id ≡ true → ⊥
    never apart one two =
        let same : i.entry.id ≡ new.entry.id = same_is i.entry.id id one ∙ sym (same_is new.entry.id id two) in
        false≢true (sym apart ∙ ap (λ (x : BackupId). same_id x new.entry.id) same ∙ same_self new.entry.id)

    swapped : same_id i.entry.id new.entry.id ≡ false → (a b : Bool) → same_id i.entry.id id ≡ a → same_id new.entry.id id ≡ b → (if a then Some i else (if b then Some new else image_named id images)) ≡ (if b then Some new else (if a then Some i else image_named id images))
    swapped apart true true one two = absurd (never apart one two)
    swapped apart true false one two = refl
    swapped apart false b one two = refl

    at : same_id i.entry.id new.entry.id ≡ false → (b : Bool) → image_named id (with_image new images) ≡ (if same_id new.entry.id id then Some new else image_named id images)
        → image_named id (if b then new ∷ i ∷ images else i ∷ with_image new images) ≡ (if same_id new.entry.id id then Some new else image_named id (i ∷ images))
    at apart true later = refl
    at apart false later =
        ap (λ (o : Option Image). if same_id i.entry.id id then Some i else o) later
        ∙ swapped apart (same_id i.entry.id id) (same_id new.entry.id id) refl refl

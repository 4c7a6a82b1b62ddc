-- Images by their ids.
use Rattle.desk_model.proofs.Common.{◌≡◌, ◌<◌, ◌+◌, ◌∙◌, ℕ, zero, suc, Bool, true, false, List, [], ◌∷◌, length, get_or, refl, sym, ap, subst, arith, Some, None, is_some, cond, if◌then◌else◌, ◌==◌, ◌&&◌, ◌||◌, Contains, bytes_eq, All, false≢true, and_parts, nat_tests, length-map, get_or-map, bytes_eq-Decides, BackupId, AreById, same_id, is_before, record_named, with_record, Image, has_image, image_named, with_image, entries}
use Rattle.std.specs.Cmp.{IsTotalOrder, tied_then, unsigned_tied}
use Rattle.std.specs.Cmp.Lexicographic.{slice_cmp}
use Rattle.std.specs.Ordering.{nat_cmp, is_eq, is_lt, ordering_reverse}
use Rattle.std.specs.declared.cmp.Ordering.{Ordering}
use Rattle.std.specs.declared.cmp.Ordering.TheVariants.{Less, Equal, Greater}
use Rattle.std.proofs.lemmas.Cmp.{nat_list_cmp_total, nat_cmp_total, then_total, on_total, tied_itself}
use Rattle.std.proofs.lemmas.List.Kept.{AllPairs-cons}
use Rattle.std.proofs.lemmas.Map.Text.{is_eq-slice_cmp}
use Rattle.site_types.specs.declared.image.ImageRecord.{ImageRecord}
use Rattle.image_catalogue.proofs.ImageLemmas.{none_found, length_with}
use Rattle.image_catalogue.proofs.EntryLemmas.{id_cmp}

-- the same ids are equal
pub same_is : (a b : BackupId) → same_id a b ≡ true → a ≡ b
same_is a b same =
    let parts = and_parts (bytes_eq a.client b.client) (a.time == b.time) same in
    let client : a.client ≡ b.client = (bytes_eq-Decides a.client b.client).0 parts.0 in
    let time : a.time ≡ b.time = grind (arith, nat_tests, parts.1) in
    λ i. record { client = client i; time = time i }

pub same_self : (a : BackupId) → same_id a a ≡ true
same_self a =
    let client : bytes_eq a.client a.client ≡ true = (bytes_eq-Decides a.client a.client).1 refl in
    let time : (a.time == a.time) ≡ true = grind (arith, nat_tests) in
    λ i. client i && time i

-- The order of ids.

ids_total : IsTotalOrder id_cmp
ids_total = then_total (on_total (λ (id : BackupId). id.client) nat_list_cmp_total) (on_total (λ (id : BackupId). id.time) nat_cmp_total)

is_less : (o : Ordering) → is_lt o ≡ true → o ≡ Less
is_less Less is = refl
is_less Equal is = absurd (false≢true is)
is_less Greater is = absurd (false≢true is)

before_differs : (a b : BackupId) → is_before a b ≡ true → same_id a b ≡ false
before_differs a b before = at (same_id a b) refl
  where
    at : (x : Bool) → same_id a b ≡ x → x ≡ false
    at true same = absurd (false≢true (sym (ap is_lt (tied_itself ids_total a)) ∙ ap (λ (c : BackupId). is_before a c) (same_is a b same) ∙ before))
    at false is = refl

-- one of two different ids is before the other
before_back : (a b : BackupId) → is_before a b ≡ false → same_id b a ≡ false → is_before b a ≡ true
before_back a b not_before differs = at (id_cmp b a) refl
  where
    at : (o : Ordering) → id_cmp b a ≡ o → is_lt o ≡ true
    at Less is = refl
    at Equal is =
        let alike : is_eq (id_cmp b a) ≡ same_id b a = sym (tied_then (slice_cmp nat_cmp b.client a.client) (nat_cmp b.time a.time)) ∙ (λ j. is_eq-slice_cmp b.client a.client j && unsigned_tied b.time a.time j) in
        absurd (false≢true (sym differs ∙ sym alike ∙ ap is_eq is))
    at Greater is = absurd (false≢true (sym not_before ∙ ap is_lt (ids_total.antisymm a b ∙ ap ordering_reverse is)))

-- The list with one image more.

pub entries-with : (new : Image) (images : List Image) → entries (with_image new images) ≡ with_record new.entry (entries images)
entries-with new [] = refl
entries-with new (i ∷ images) = at (is_before new.entry.id i.entry.id) (entries-with new images)
  where
    at : (b : Bool) → entries (with_image new images) ≡ with_record new.entry (entries images)
        → entries (if b then new ∷ i ∷ images else i ∷ with_image new images) ≡ (if b then new.entry ∷ i.entry ∷ entries images else i.entry ∷ with_record new.entry (entries images))
    at true more = refl
    at false more = ap (λ (l : List ImageRecord). i.entry ∷ l) more

pub length-image : (new : Image) (images : List Image) → length (with_image new images) ≡ 1 + length images
length-image new images =
    sym (length-map (with_image new images) (λ (i : Image). i.entry)) ∙ ap length (entries-with new images) ∙ length_with (entries images) new.entry ∙ ap (λ (n : ℕ). 1 + n) (length-map images (λ (i : Image). i.entry))

-- an image is there exactly where the catalogue has it
pub has_entry : (id : BackupId) (images : List Image) → is_some (record_named id (entries images)) ≡ has_image id images
has_entry id [] = refl
has_entry id (i ∷ images) = at (same_id i.entry.id id) (has_entry id images)
  where
    at : (b : Bool) → is_some (record_named id (entries images)) ≡ has_image id images → is_some (if b then Some i.entry else record_named id (entries images)) ≡ (b || has_image id images)
    at true more = refl
    at false more = more

-- what holds of the images and of a new one holds of all
pub each-with : (P : Image → Type 0) (new : Image) (images : List Image) → P new → ((i : Image) → Contains images i → P i) → (i : Image) → Contains (with_image new images) i → P i
each-with P new [] here each i (zero, lt, is) = subst P is here
each-with P new [] here each i (suc k, lt, is) = absurd (omega arith)
each-with P new (x ∷ images) here each one among = at (is_before new.entry.id x.entry.id) (each-with P new images here (λ i there. each i (suc there.0, omega (arith, there.1), there.2))) one among
  where
    at : (b : Bool) → ((i : Image) → Contains (with_image new images) i → P i) → (i : Image) → Contains (if b then new ∷ x ∷ images else x ∷ with_image new images) i → P i
    at true more i (zero, lt, is) = subst P is here
    at true more i (suc k, lt, is) = each i (k, omega arith, is)
    at false more i (zero, lt, is) = each i (zero, omega arith, is)
    at false more i (suc k, lt, is) = more i (k, omega arith, is)

-- an image of an id that is there
pub has_one : (id : BackupId) (images : List Image) → has_image id images ≡ true → (i : Image) × Contains images i × (i.entry.id ≡ id)
has_one id [] there = absurd (false≢true there)
has_one id (x ∷ images) there = at (same_id x.entry.id id) refl (has_one id images) there
  where
    at : (b : Bool) → same_id x.entry.id id ≡ b → (has_image id images ≡ true → (i : Image) × Contains images i × (i.entry.id ≡ id)) → (b || has_image id images) ≡ true → (i : Image) × Contains (x ∷ images) i × (i.entry.id ≡ id)
    at true same later here = (x, (0, omega arith, refl), same_is x.entry.id id same)
    at false differs later rest =
        let found = later rest in
        (found.0, (suc found.1.0, let lt = found.1.1 in omega (arith, lt), found.1.2), found.2)

-- an image whose record is one of theirs
pub of_entries : (images : List Image) (e : ImageRecord) → Contains (entries images) e → (i : Image) × Contains images i × (i.entry ≡ e)
of_entries [] e (k, lt, is) = absurd (omega arith)
of_entries (x ∷ images) e (zero, lt, is) = (x, (zero, omega arith, refl), is)
of_entries (x ∷ images) e (suc k, lt, is) =
    let found = of_entries images e (k, omega arith, is) in
    (found.0, (suc found.1.0, let inside = found.1.1 in omega (arith, inside), found.1.2), found.2)

-- They stay by id.

abbrev Before : ImageRecord → ImageRecord → Type 0
Before a b = is_before a.id b.id ≡ true

rest_by_id : (x : ImageRecord) (xs : List ImageRecord) → AreById (x ∷ xs) → AreById xs
rest_by_id x xs rising i j d below lt = rising (suc i) (suc j) d (omega arith) (omega arith)

all_with : (P : ImageRecord → Type 0) (new : ImageRecord) (xs : List ImageRecord) → P new → All P xs → All P (with_record new xs)
all_with P new [] here each zero d lt = here
all_with P new [] here each (suc k) d lt = absurd (omega arith)
all_with P new (x ∷ xs) here each k d lt = at (is_before new.id x.id) (all_with P new xs here (λ i e low. each (suc i) e (omega arith))) k d lt
  where
    at : (b : Bool) → All P (with_record new xs) → All P (if b then new ∷ x ∷ xs else x ∷ with_record new xs)
    at true more zero d lt = here
    at true more (suc k) d lt = each k d (omega arith)
    at false more zero d lt = each zero d (omega arith)
    at false more (suc k) d lt = more k d (omega arith)

pub ids_with : (new : ImageRecord) (xs : List ImageRecord) → record_named new.id xs ≡ None → AreById xs → AreById (with_record new xs)
ids_with new [] none rising = AllPairs-cons Before new [] (λ k d lt. absurd (omega arith)) rising
ids_with new (x ∷ xs) none rising =
    let absent = none_found (same_id x.id new.id) x (record_named new.id xs) none in
    at (is_before new.id x.id) refl absent.0 (ids_with new xs absent.1 (rest_by_id x xs rising))
  where
    first : is_before new.id x.id ≡ true → All (Before new) (x ∷ xs)
    first before zero d lt = before
    first before (suc k) d lt = ap is_lt (ids_total.trans new.id x.id (get_or xs k d).id (is_less _ before) (is_less _ (rising 0 (suc k) d (omega arith) (omega arith))))

    at : (b : Bool) → is_before new.id x.id ≡ b → same_id x.id new.id ≡ false → AreById (with_record new xs) → AreById (if b then new ∷ x ∷ xs else x ∷ with_record new xs)
    at true before differs later = AllPairs-cons Before new (x ∷ xs) (first before) rising
    at false after differs later = AllPairs-cons Before x (with_record new xs) (all_with (Before x) new xs (before_back new.id x.id after differs) (λ k d lt. rising 0 (suc k) d (omega arith) (omega arith))) later

-- each image is the one of its id
pub named_in : (images : List Image) (image : Image) → AreById (entries images) → Contains images image → image_named image.entry.id images ≡ Some image
named_in [] image rising (k, lt, is) = absurd (omega arith)
named_in (x ∷ images) image rising (zero, lt, is) =
    (λ j. cond ((ap (λ (y : Image). same_id x.entry.id y.entry.id) (sym is) ∙ same_self x.entry.id) j) (Some x) (image_named image.entry.id images)) ∙ ap (λ (y : Image). Some y) is
named_in (x ∷ images) image rising (suc k, lt, is) =
    let inside : k < length images = omega arith in
    let long = length-map images (λ (i : Image). i.entry) in
    let there : get_or (entries images) k image.entry ≡ image.entry = get_or-map (λ (i : Image). i.entry) images k image image.entry inside ∙ ap (λ (i : Image). i.entry) is in
    let before : is_before x.entry.id image.entry.id ≡ true = subst (λ (e : ImageRecord). is_before x.entry.id e.id ≡ true) there (rising 0 (suc k) image.entry (omega arith) (omega (arith, long))) in
    (λ j. cond (before_differs x.entry.id image.entry.id before j) (Some x) (image_named image.entry.id images)) ∙ named_in images image (rest_by_id x.entry (entries images) rising) (k, inside, is)

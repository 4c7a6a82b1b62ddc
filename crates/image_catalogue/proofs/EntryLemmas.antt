-- The entries of a map that keeps each image under its id, and the list of its images.
use Rattle.image_catalogue.proofs.Common.{◌≡◌, ◌<◌, ◌+◌, ◌&&◌, ℕ, zero, suc, List, [], ◌∷◌, length, get_or, Bool, true, false, cond, Option, Some, None, refl, sym, ◌∙◌, ap, arith, not, Ordering, Less, Equal, Greater, keys_of, values_of, lookup, remove_entry, same_id, AreById, bytes_on, record_named, used, with_record, without_record, BackupId, ImageRecord}
use Rattle.std.specs.BTreeMap.{is_at, insert_entry}
use Rattle.std.specs.Cmp.{IsTotalOrder, tied_then, unsigned_tied}
use Rattle.std.specs.Cmp.Lexicographic.{slice_cmp}
use Rattle.std.specs.List.{AllByRecursion}
use Rattle.std.specs.List.Sorted.{IsStrictlySortedBy}
use Rattle.std.specs.Ordering.{nat_cmp, is_eq, is_lt, match_ordering, ordering_reverse, then_cmp}
use Rattle.std.proofs.lemmas.Bool.{false≢true}
use Rattle.std.proofs.lemmas.Cmp.{nat_list_cmp_total, nat_cmp_total, then_total, on_total}
use Rattle.std.proofs.lemmas.Map.Text.{is_eq-slice_cmp}
use Rattle.std.proofs.lemmas.Option.{none-some, same_Some}
use Rattle.image_catalogue.specs.Entries.{KeysAreIds}
use Rattle.image_catalogue.proofs.ImageLemmas.{none_found, without_none}

-- The order of ids.

-- by client, and then by time
abbrev pub id_cmp : BackupId → BackupId → Ordering
id_cmp a b = then_cmp (λ x y. slice_cmp nat_cmp x.client y.client) (λ x y. nat_cmp x.time y.time) a b

-- whether a key is this id
abbrev pub at_id : BackupId → BackupId → Bool
at_id id = is_at (id_cmp id)

ids_total : IsTotalOrder id_cmp
ids_total = then_total (on_total (λ (id : BackupId). id.client) nat_list_cmp_total) (on_total (λ (id : BackupId). id.time) nat_cmp_total)

turned : (o : Ordering) → is_eq (ordering_reverse o) ≡ is_eq o
turned Less = refl
turned Equal = refl
turned Greater = refl

tied_same : (a b : BackupId) → is_eq (id_cmp a b) ≡ same_id a b
tied_same a b =
    sym (tied_then (slice_cmp nat_cmp a.client b.client) (nat_cmp a.time b.time))
    ∙ (λ j. is_eq-slice_cmp a.client b.client j && unsigned_tied a.time b.time j)

at_same : (id key : BackupId) → at_id id key ≡ same_id key id
at_same id key = ap is_eq (ids_total.antisymm id key) ∙ turned (id_cmp key id) ∙ tied_same key id

-- an id is that of an entry's key exactly where it is that of its image
at_image : (e : BackupId × ImageRecord) (id : BackupId) → e.0 ≡ e.1.id → at_id id e.0 ≡ same_id e.1.id id
at_image e id kept = at_same id e.0 ∙ ap (λ (key : BackupId). same_id key id) kept

-- The image of an id.

pub found : (es : List (BackupId × ImageRecord)) (id : BackupId) → KeysAreIds es → lookup (at_id id) es ≡ record_named id (values_of es)
found [] id kept = refl
found (e ∷ es) id kept =
    (λ j. cond (at_image e id kept.0 j) (Some e.1) (lookup (at_id id) es))
    ∙ ap (λ (rest : Option ImageRecord). cond (same_id e.1.id id) (Some e.1) rest) (found es id kept.1)

-- where no image has an id, neither the first key is that id nor one of the others
unnamed : (e : BackupId × ImageRecord) (es : List (BackupId × ImageRecord)) (id : BackupId) → e.0 ≡ e.1.id → record_named id (values_of (e ∷ es)) ≡ None → (is_eq (id_cmp id e.0) ≡ false) × (record_named id (values_of es) ≡ None)
unnamed e es id kept none =
    let absent = none_found (same_id e.1.id id) e.1 (record_named id (values_of es)) none in
    (at_image e id kept ∙ absent.0, absent.1)

-- One image more.

pub inserted : (es : List (BackupId × ImageRecord)) (new : ImageRecord) → KeysAreIds es → record_named new.id (values_of es) ≡ None → values_of (insert_entry id_cmp es new.id new) ≡ with_record new (values_of es)
inserted [] new kept none = refl
inserted (e ∷ es) new kept none =
    let absent = unnamed e es new.id kept.0 none in
    by_order (inserted es new kept.1 absent.1) (id_cmp new.id e.0) absent.0
    ∙ (λ j. cond (is_lt (id_cmp new.id (kept.0 j))) (new ∷ e.1 ∷ values_of es) (e.1 ∷ with_record new (values_of es)))
  where
    by_order : values_of (insert_entry id_cmp es new.id new) ≡ with_record new (values_of es) → (o : Ordering) → is_eq o ≡ false
        → values_of (match_ordering o ((new.id, new) ∷ e ∷ es) ((e.0, new) ∷ es) (e ∷ insert_entry id_cmp es new.id new)) ≡ cond (is_lt o) (new ∷ e.1 ∷ values_of es) (e.1 ∷ with_record new (values_of es))
    by_order later Less unlike = refl
    by_order later Equal unlike = absurd (false≢true (sym unlike))
    by_order later Greater unlike = ap (λ (rest : List ImageRecord). e.1 ∷ rest) later

pub kept_with : (es : List (BackupId × ImageRecord)) (new : ImageRecord) → KeysAreIds es → record_named new.id (values_of es) ≡ None → KeysAreIds (insert_entry id_cmp es new.id new)
kept_with [] new kept none = (refl, tt)
kept_with (e ∷ es) new kept none =
    let absent = unnamed e es new.id kept.0 none in
    by_order (kept_with es new kept.1 absent.1) (id_cmp new.id e.0) absent.0
  where
    by_order : KeysAreIds (insert_entry id_cmp es new.id new) → (o : Ordering) → is_eq o ≡ false → KeysAreIds (match_ordering o ((new.id, new) ∷ e ∷ es) ((e.0, new) ∷ es) (e ∷ insert_entry id_cmp es new.id new))
    by_order later Less unlike = (refl, kept)
    by_order later Equal unlike = absurd (false≢true (sym unlike))
    by_order later Greater unlike = (kept.0, later)

-- One image less.

pub removed : (es : List (BackupId × ImageRecord)) (id : BackupId) → KeysAreIds es → lookup (at_id id) (remove_entry (at_id id) es) ≡ None → values_of (remove_entry (at_id id) es) ≡ without_record id (values_of es)
removed [] id kept none = refl
removed (e ∷ es) id kept none =
    by_test (removed es id kept.1) (at_id id e.0) none
    ∙ (λ j. cond (not (at_image e id kept.0 j)) (e.1 ∷ without_record id (values_of es)) (without_record id (values_of es)))
  where
    by_test : (lookup (at_id id) (remove_entry (at_id id) es) ≡ None → values_of (remove_entry (at_id id) es) ≡ without_record id (values_of es))
        → (b : Bool) → lookup (at_id id) (cond b es (e ∷ remove_entry (at_id id) es)) ≡ None → values_of (cond b es (e ∷ remove_entry (at_id id) es)) ≡ cond (not b) (e.1 ∷ without_record id (values_of es)) (without_record id (values_of es))
    by_test later true none = sym (without_none (values_of es) id (sym (found es id kept.1) ∙ none))
    by_test later false none =
        ap (λ (rest : List ImageRecord). e.1 ∷ rest) (later (none_found (at_id id e.0) e.1 (lookup (at_id id) (remove_entry (at_id id) es)) none).1)

pub kept_without : (es : List (BackupId × ImageRecord)) (test : BackupId → Bool) → KeysAreIds es → KeysAreIds (remove_entry test es)
kept_without [] test kept = tt
kept_without (e ∷ es) test kept = by_test (kept_without es test kept.1) (test e.0)
  where
    by_test : KeysAreIds (remove_entry test es) → (b : Bool) → KeysAreIds (cond b es (e ∷ remove_entry test es))
    by_test later true = kept.1
    by_test later false = (kept.0, later)

pub used_without : (unit : List ℕ) (es : List (BackupId × ImageRecord)) (test : BackupId → Bool) (image : ImageRecord) → lookup test es ≡ Some image → used unit (values_of es) ≡ bytes_on unit image.length image.copies + used unit (values_of (remove_entry test es))
used_without unit [] test image is = absurd (none-some image is)
used_without unit (e ∷ es) test image is = by_test (used_without unit es test image) (test e.0) is
  where
    by_test : (lookup test es ≡ Some image → used unit (values_of es) ≡ bytes_on unit image.length image.copies + used unit (values_of (remove_entry test es)))
        → (b : Bool) → cond b (Some e.1) (lookup test es) ≡ Some image → used unit (values_of (e ∷ es)) ≡ bytes_on unit image.length image.copies + used unit (values_of (cond b es (e ∷ remove_entry test es)))
    by_test later true is = ap (λ (x : ImageRecord). bytes_on unit x.length x.copies + used unit (values_of es)) (same_Some e.1 image is)
    by_test later false is = omega (arith, later is)

-- The images are in the order of the keys.

each_after : (id : BackupId) (es : List (BackupId × ImageRecord)) → AllByRecursion (λ (key : BackupId). id_cmp id key ≡ Less) (keys_of es) → KeysAreIds es → (k : ℕ) (d : ImageRecord) → k < length (values_of es) → is_lt (id_cmp id (get_or (values_of es) k d).id) ≡ true
each_after id [] after kept k d lt = absurd (omega arith)
each_after id (e ∷ es) after kept zero d lt = ap is_lt (ap (id_cmp id) (sym kept.0) ∙ after.0)
each_after id (e ∷ es) after kept (suc k) d lt = each_after id es after.1 kept.1 k d (omega arith)

pub in_order : (es : List (BackupId × ImageRecord)) → IsStrictlySortedBy id_cmp (keys_of es) → KeysAreIds es → AreById (values_of es)
unfolding IsStrictlySortedBy
in_order [] sorted kept i j d below lt = absurd (omega arith)
in_order (e ∷ es) sorted kept zero zero d below lt = absurd (omega arith)
in_order (e ∷ es) sorted kept zero (suc j) d below lt =
    ap (λ (id : BackupId). is_lt (id_cmp id (get_or (values_of es) j d).id)) (sym kept.0) ∙ each_after e.0 es sorted.0 kept.1 j d (omega arith)
in_order (e ∷ es) sorted kept (suc i) zero d below lt = absurd (omega arith)
in_order (e ∷ es) sorted kept (suc i) (suc j) d below lt = in_order es sorted.1 kept.1 i j d (omega arith) (omega arith)

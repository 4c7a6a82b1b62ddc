-- A list of images with one more, or one less.
use Rattle.image_catalogue.proofs.Common.{◌≡◌, ◌+◌, ◌&&◌, eq-eqb, ℕ, List, [], ◌∷◌, length, Bool, true, false, cond, Option, Some, None, refl, sym, ◌∙◌, ap, arith, not, same_id, is_before, with_record, record_named, without_record, bytes_on, used, BackupId, ImageRecord}
use Rattle.std.proofs.lemmas.Option.{none-some}
use Rattle.std.proofs.lemmas.Slice.Eq.{bytes_eq-Decides}

-- neither the first passes nor one of the others
pub none_found : (b : Bool) (x : ImageRecord) (rest : Option ImageRecord) → cond b (Some x) rest ≡ None → (b ≡ false) × (rest ≡ None)
none_found true x rest none = absurd (none-some x (sym none))
none_found false x rest none = (refl, none)

-- An image at its place.

pub length_with : (xs : List ImageRecord) (new : ImageRecord) → length (with_record new xs) ≡ 1 + length xs
length_with [] new = refl
length_with (x ∷ xs) new = by_test (length_with xs new) (is_before new.id x.id)
  where
    by_test : length (with_record new xs) ≡ 1 + length xs → (b : Bool) → length (cond b (new ∷ x ∷ xs) (x ∷ with_record new xs)) ≡ 1 + length (x ∷ xs)
    by_test later true = omega arith
    by_test later false = omega arith

pub used_with : (unit : List ℕ) (xs : List ImageRecord) (new : ImageRecord) → used unit (with_record new xs) ≡ bytes_on unit new.length new.copies + used unit xs
used_with unit [] new = refl
used_with unit (x ∷ xs) new = by_test (used_with unit xs new) (is_before new.id x.id)
  where
    by_test : used unit (with_record new xs) ≡ bytes_on unit new.length new.copies + used unit xs → (b : Bool) → used unit (cond b (new ∷ x ∷ xs) (x ∷ with_record new xs)) ≡ bytes_on unit new.length new.copies + used unit (x ∷ xs)
    by_test later true = refl
    by_test later false = omega arith

-- All but one image.

pub without_none : (xs : List ImageRecord) (id : BackupId) → record_named id xs ≡ None → without_record id xs ≡ xs
without_none [] id none = refl
without_none (x ∷ xs) id none =
    let absent = none_found (same_id x.id id) x (record_named id xs) none in
    (λ j. cond (not (absent.0 j)) (x ∷ without_record id xs) (without_record id xs))
    ∙ ap (λ (rest : List ImageRecord). x ∷ rest) (without_none xs id absent.1)

-- A removal undoes an addition.

same_itself : (id : BackupId) → same_id id id ≡ true
same_itself id = λ j. (bytes_eq-Decides id.client id.client).1 refl j && eq-eqb id.time id.time refl j

pub undone : (xs : List ImageRecord) (new : ImageRecord) → record_named new.id xs ≡ None → without_record new.id (with_record new xs) ≡ xs
undone [] new none = λ j. cond (not (same_itself new.id j)) (new ∷ []) []
undone (x ∷ xs) new none =
    let absent = none_found (same_id x.id new.id) x (record_named new.id xs) none in
    by_test absent.0 (undone xs new absent.1) (is_before new.id x.id)
  where
    by_test : same_id x.id new.id ≡ false → without_record new.id (with_record new xs) ≡ xs → (b : Bool) → without_record new.id (cond b (new ∷ x ∷ xs) (x ∷ with_record new xs)) ≡ x ∷ xs
    by_test unlike later true =
        (λ j. cond (not (same_itself new.id j)) (new ∷ without_record new.id (x ∷ xs)) (without_record new.id (x ∷ xs)))
        ∙ without_none (x ∷ xs) new.id none
    by_test unlike later false =
        (λ j. cond (not (unlike j)) (x ∷ without_record new.id (with_record new xs)) (without_record new.id (with_record new xs)))
        ∙ ap (λ (rest : List ImageRecord). x ∷ rest) later

pub undone_as : (now after : List ImageRecord) (id : BackupId) → after ≡ without_record id now → (new : ImageRecord) (xs : List ImageRecord) → record_named new.id xs ≡ None → now ≡ with_record new xs → id ≡ new.id → after ≡ xs
undone_as now after id removed new xs none added same =
    removed ∙ ap (without_record id) added ∙ ap (λ (other : BackupId). without_record other (with_record new xs)) same ∙ undone xs new none

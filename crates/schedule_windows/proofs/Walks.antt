-- Walks over a list of windows, one after the other.
use Rattle.schedule_windows.proofs.Common.{◌≡◌, ◌+◌, ℕ, suc, ℤ, Bool, true, false, List, ◌∷◌, take, drop, refl, sym, ap, ◌∙◌, add-one, ◌||◌, slice_get, if◌then◌else◌, list_any, or_right, is_open, opened, start_if_open, first_open, WeekSpan}
use Rattle.std.specs.Prelude.{Some, Option, None}
use Rattle.std.proofs.Math.Seq.{drop-cons}
use Rattle.std.proofs.lemmas.List.Folds.{list_any_more, list_any_at}
use Rattle.std.proofs.lemmas.Option.{slice_get_within, get_or_from_slice_get}
use Rattle.schedule_windows.specs.declared.civil.Civil.{Civil}

-- one more element of a list
any_more : {X : Type 0} (p : X → Bool) (xs : List X) (i : ℕ) (x : X) → slice_get xs i ≡ Some x → list_any p (take (i + 1) xs) ≡ (list_any p (take i xs) || p x)
any_more p xs i x e = list_any_more p xs i x (slice_get_within xs i x e) ∙ ap (λ y. list_any p (take i xs) || p y) (get_or_from_slice_get xs i x x e)

pub any_neither : {X : Type 0} (p : X → Bool) (xs : List X) (i : ℕ) (x : X) → slice_get xs i ≡ Some x → list_any p (take i xs) ≡ false → p x ≡ false → list_any p (take (i + 1) xs) ≡ false
any_neither p xs i x e before here = any_more p xs i x e ∙ (λ j. before j || here j)

pub any_last : {X : Type 0} (p : X → Bool) (xs : List X) (i : ℕ) (x : X) → slice_get xs i ≡ Some x → p x ≡ true → list_any p (take (i + 1) xs) ≡ true
any_last p xs i x e here = any_more p xs i x e ∙ or_right _ _ here

pub any_at : {X : Type 0} (p : X → Bool) (xs : List X) (i : ℕ) (x : X) → slice_get xs i ≡ Some x → p x ≡ true → list_any p xs ≡ true
any_at p xs i x e here = list_any_at p xs i x (slice_get_within xs i x e) (ap p (get_or_from_slice_get xs i x x e) ∙ here)

drop_at : {X : Type 0} (xs : List X) (i : ℕ) (x : X) → slice_get xs i ≡ Some x → drop i xs ≡ x ∷ drop (i + 1) xs
drop_at xs i x e = drop-cons xs i x (slice_get_within xs i x e) ∙ ap (λ y. y ∷ drop (suc i) xs) (get_or_from_slice_get xs i x x e) ∙ ap (λ n. x ∷ drop n xs) (sym (add-one i))

first_found : (c : Civil) (w : WeekSpan) (n : ℕ) (later : List WeekSpan) (b : Bool) (o : Option ℤ) → o ≡ (if b then Some (opened c w) else None) → (s : ℤ) → o ≡ Some s → (if b then Some (record { window = n; started = opened c w }) else first_open (n + 1) c later) ≡ Some (record { window = n; started = s })
first_found c w n later true o e s f = let same : opened c w ≡ s = cc in ap (λ t. Some (record { window = n; started = t })) same
first_found c w n later false o e s f = absurd (cc)

first_missed : (c : Civil) (w : WeekSpan) (n : ℕ) (later : List WeekSpan) (b : Bool) (o : Option ℤ) → o ≡ (if b then Some (opened c w) else None) → o ≡ None → (if b then Some (record { window = n; started = opened c w }) else first_open (n + 1) c later) ≡ first_open (n + 1) c later
first_missed c w n later true o e f = absurd (cc)
first_missed c w n later false o e f = refl

-- the search for the first open window ends at one that is open
pub first_open_here : (c : Civil) (xs : List WeekSpan) (i : ℕ) (w : WeekSpan) (s : ℤ) → slice_get xs i ≡ Some w → start_if_open c w ≡ Some s → first_open i c (drop i xs) ≡ Some (record { window = i; started = s })
first_open_here c xs i w s e f = ap (first_open i c) (drop_at xs i w e) ∙ first_found c w i (drop (i + 1) xs) (is_open c w) (start_if_open c w) refl s f

-- and else goes on after it
pub first_open_later : (c : Civil) (xs : List WeekSpan) (i : ℕ) (w : WeekSpan) → slice_get xs i ≡ Some w → start_if_open c w ≡ None → first_open i c (drop i xs) ≡ first_open (i + 1) c (drop (i + 1) xs)
first_open_later c xs i w e f = ap (first_open i c) (drop_at xs i w e) ∙ first_missed c w i (drop (i + 1) xs) (is_open c w) (start_if_open c w) refl f

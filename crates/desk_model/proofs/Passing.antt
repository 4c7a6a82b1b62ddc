-- A request that nothing refuses, and a name that no element has.
use Rattle.desk_model.proofs.Common.{◌≡◌, zero, suc, Bool, true, false, List, [], ◌∷◌, refl, sym, ◌∙◌, ap, arith, Option, Some, None, is_none, is_some, cond, if◌then◌else◌, map, find, Contains, false≢true, length-map, get_or-map, Answer, first_refusal}

abbrev pub ArePassed : List (Bool × Answer) → Type 0
ArePassed [] = Unit {0}
ArePassed (r ∷ rs) = (r.0 ≡ false) × ArePassed rs

pub all_passed : (refusals : List (Bool × Answer)) → first_refusal refusals ≡ None → ArePassed refusals
all_passed [] none = tt
all_passed (r ∷ rs) none = at r.0 (all_passed rs) none
  where
    at : (b : Bool) → (first_refusal rs ≡ None → ArePassed rs) → (if b then Some r.1 else first_refusal rs) ≡ None → (b ≡ false) × ArePassed rs
    at true later is = absurd (cc is)
    at false later is = (refl, later is)

-- no element passes
pub none_passes : {A : Type 0} (test : A → Bool) (xs : List A) → is_some (find test xs) ≡ false → (x : A) → Contains xs x → test x ≡ false
none_passes test [] none x (k, lt, is) = absurd (omega arith)
none_passes test (y ∷ ys) none x among = at (test y) refl (none_passes test ys) none among
  where
    at : (b : Bool) → test y ≡ b → (is_some (find test ys) ≡ false → (z : _) → Contains ys z → test z ≡ false) → is_some (cond b (Some y) (find test ys)) ≡ false → Contains (y ∷ ys) x → test x ≡ false
    at true is later some there = absurd (false≢true (sym some))
    at false fails later rest (zero, lt, is) = ap test (sym is) ∙ fails
    at false fails later rest (suc k, lt, is) = later rest x (k, omega arith, is)

pub mapped_in : {A B : Type 0} (f : A → B) (xs : List A) (x : A) → Contains xs x → Contains (map f xs) (f x)
mapped_in f xs x (k, lt, is) = (k, let long = length-map xs f in omega (arith, long), get_or-map f xs k x (f x) lt ∙ ap f is)

pub there_is : {A : Type 0} (o : Option A) → is_none o ≡ false → (x : A) × (o ≡ Some x)
there_is None none = absurd (cc none)
there_is (Some x) some = (x, refl)

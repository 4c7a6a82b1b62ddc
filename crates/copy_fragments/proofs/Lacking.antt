-- What some pieces add to a set of pieces.
use Rattle.std.proofs.Common.{◌≡◌, inl, inr, ⊎_elim, ℕ, zero, suc, ◌+◌, ◌<◌, ◌≤◌, List, [], ◌∷◌, ◌++◌, length, take, drop, Some, None, refl, sym, ◌∙◌, ap, subst, arith, true, false}
use Rattle.std.specs.Prelude.{Bool, Option, ◌⊎◌, if◌then◌else◌, ◌||◌, slice_get}
use Rattle.std.specs.List.{list_any}
use Rattle.std.specs.Str.{bytes_eq}
use Rattle.std.proofs.lemmas.List.{take-append-drop}
use Rattle.std.proofs.lemmas.Slice.Eq.{bytes_eq-Decides}
use Rattle.vault_disk.specs.Disk.{Image}
use Rattle.segment_pool.specs.Placing.{bytes_in}
use Rattle.segment_pool.specs.Slots.{PoolState, at_slot, held}
use Rattle.segment_pool.specs.declared.slot.Slot.{Slot}
use Rattle.copy_fragments.specs.Placings.{held_pieces, lacking, pieces_from}

-- a piece stands in a list
abbrev pub In : List ℕ → List (List ℕ) → Type 0
In piece [] = ⊥
In piece (p ∷ more) = (p ≡ piece) ⊎ In piece more

in_left : (piece : List ℕ) (xs ys : List (List ℕ)) → In piece xs → In piece (xs ++ ys)
in_left piece [] ys there = absurd there
in_left piece (x ∷ xs) ys there = ⊎_elim (λ here. inl here) (λ behind. inr (in_left piece xs ys behind)) there

in_right : (piece : List ℕ) (xs ys : List (List ℕ)) → In piece ys → In piece (xs ++ ys)
in_right piece [] ys there = there
in_right piece (x ∷ xs) ys there = inr (in_right piece xs ys there)

in_either : (piece : List ℕ) (xs ys : List (List ℕ)) → In piece (xs ++ ys) → In piece xs ⊎ In piece ys
in_either piece [] ys there = inr there
in_either piece (x ∷ xs) ys there = ⊎_elim (λ here. inl (inl here)) (λ behind. ⊎_elim (λ left. inl (inr left)) (λ right. inr right) (in_either piece xs ys behind)) there

-- the test says whether it does
found_by : (piece : List ℕ) (x : List ℕ) (b c : Bool) (P : Type 0) → bytes_eq x piece ≡ b → (c ≡ true → P) → (b || c) ≡ true → (x ≡ piece) ⊎ P
found_by piece x true c P is so any = inl ((bytes_eq-Decides x piece).0 is)
found_by piece x false c P is so any = inr (so any)

pub found_in : (piece : List ℕ) (xs : List (List ℕ)) → list_any (λ p. bytes_eq p piece) xs ≡ true → In piece xs
found_in piece [] any = absurd (cc (any))
found_in piece (x ∷ xs) any = found_by piece x (bytes_eq x piece) (list_any (λ p. bytes_eq p piece) xs) (In piece xs) refl (found_in piece xs) any

true_or : (b : Bool) → b ≡ true → (c : Bool) → (b || c) ≡ true
true_or b is c = ap (λ (d : Bool). d || c) is

or_true : (b c : Bool) → c ≡ true → (b || c) ≡ true
or_true true c is = refl
or_true false c is = is

pub any_in : (piece : List ℕ) (xs : List (List ℕ)) → In piece xs → list_any (λ p. bytes_eq p piece) xs ≡ true
any_in piece [] there = absurd there
any_in piece (x ∷ xs) there = ⊎_elim
    (λ here. true_or (bytes_eq x piece) ((bytes_eq-Decides x piece).1 here) (list_any (λ p. bytes_eq p piece) xs))
    (λ behind. or_true (bytes_eq x piece) (list_any (λ p. bytes_eq p piece) xs) (any_in piece xs behind)) there

not_in : (piece : List ℕ) (xs : List (List ℕ)) (b : Bool) → list_any (λ p. bytes_eq p piece) xs ≡ b → (In piece xs → ⊥) → b ≡ false
not_in piece xs true is none = absurd (none (found_in piece xs is))
not_in piece xs false is none = refl

-- a piece that the set has adds nothing, and another one itself
lacks_had : (set : List (List ℕ)) (p : List ℕ) (more : List (List ℕ)) → list_any (λ q. bytes_eq q p) set ≡ true → lacking set (p ∷ more) ≡ lacking set more
lacks_had set p more is = ap (λ (b : Bool). if b then lacking set more else p ∷ lacking (set ++ p ∷ []) more) is

lacks_new : (set : List (List ℕ)) (p : List ℕ) (more : List (List ℕ)) → list_any (λ q. bytes_eq q p) set ≡ false → lacking set (p ∷ more) ≡ p ∷ lacking (set ++ p ∷ []) more
lacks_new set p more is = ap (λ (b : Bool). if b then lacking set more else p ∷ lacking (set ++ p ∷ []) more) is

tested : (b : Bool) → (b ≡ true) ⊎ (b ≡ false)
tested true = inl refl
tested false = inr refl

-- a piece behind others that it or the set had adds nothing
pub same_lacking : (set xs : List (List ℕ)) (piece : List ℕ) → In piece set ⊎ In piece xs → length (lacking set (xs ++ piece ∷ [])) ≡ length (lacking set xs)
same_lacking set [] piece there = ap length (lacks_had set piece [] (any_in piece set (⊎_elim (λ in_set. in_set) (λ none. absurd none) there)))
same_lacking set (x ∷ xs) piece there = ⊎_elim
    (λ is.
    ap length (lacks_had set x (xs ++ piece ∷ []) is)
    ∙ same_lacking set xs piece (⊎_elim (λ in_set. inl in_set) (λ rest. ⊎_elim (λ same. inl (subst (λ (q : List ℕ). In q set) same (found_in x set is))) (λ behind. inr behind) rest) there)
    ∙ sym (ap length (lacks_had set x xs is)))
    (λ is.
    let next = same_lacking (set ++ x ∷ []) xs piece (⊎_elim (λ in_set. inl (in_left piece set (x ∷ []) in_set)) (λ rest. ⊎_elim (λ same. inl (in_right piece set (x ∷ []) (inl same))) (λ behind. inr behind) rest) there) in
    omega (arith, next, ap length (lacks_new set x (xs ++ piece ∷ []) is), ap length (lacks_new set x xs is)))
    (tested (list_any (λ q. bytes_eq q x) set))

-- and one that neither had adds itself
pub more_lacking : (set xs : List (List ℕ)) (piece : List ℕ) → (In piece set → ⊥) → (In piece xs → ⊥) → length (lacking set (xs ++ piece ∷ [])) ≡ length (lacking set xs) + 1
more_lacking set [] piece no_set no_more = ap length (lacks_new set piece [] (not_in piece set (list_any (λ q. bytes_eq q piece) set) refl no_set))
more_lacking set (x ∷ xs) piece no_set no_more = ⊎_elim
    (λ is. omega (arith, more_lacking set xs piece no_set (λ behind. no_more (inr behind)), ap length (lacks_had set x (xs ++ piece ∷ []) is), ap length (lacks_had set x xs is)))
    (λ is.
    let next = more_lacking (set ++ x ∷ []) xs piece (λ there. ⊎_elim no_set (λ last. ⊎_elim (λ same. no_more (inl same)) (λ none. none) last) (in_either piece set (x ∷ []) there)) (λ behind. no_more (inr behind)) in
    omega (arith, next, ap length (lacks_new set x (xs ++ piece ∷ []) is), ap length (lacks_new set x xs is)))
    (tested (list_any (λ q. bytes_eq q x) set))

-- more pieces add no fewer
longer_lacking : (set xs ys : List (List ℕ)) → length (lacking set xs) ≤ length (lacking set (xs ++ ys))
longer_lacking set [] ys = omega arith
longer_lacking set (x ∷ xs) ys = ⊎_elim
    (λ is. omega (arith, longer_lacking set xs ys, ap length (lacks_had set x (xs ++ ys) is), ap length (lacks_had set x xs is)))
    (λ is. omega (arith, longer_lacking (set ++ x ∷ []) xs ys, ap length (lacks_new set x (xs ++ ys) is), ap length (lacks_new set x xs is)))
    (tested (list_any (λ q. bytes_eq q x) set))

pub front_lacking : (set all : List (List ℕ)) (n : ℕ) → length (lacking set (take n all)) ≤ length (lacking set all)
front_lacking set all n = omega (arith, longer_lacking set (take n all) (drop n all), ap (λ (l : List (List ℕ)). length (lacking set l)) (take-append-drop n all))

-- the front of a list, by one more
pub front_on : (all : List (List ℕ)) (n : ℕ) (piece : List ℕ) → slice_get all n ≡ Some piece → take (suc n) all ≡ take n all ++ piece ∷ []
front_on [] n piece is = absurd (cc (is))
front_on (x ∷ xs) zero piece is = let same : x ≡ piece = cc (is) in ap (λ (p : List ℕ). p ∷ []) same
front_on (x ∷ xs) (suc n) piece is = ap (λ (l : List (List ℕ)). x ∷ l) (front_on xs n piece is)

pub in_front : (all : List (List ℕ)) (n k : ℕ) (piece : List ℕ) → k < n → slice_get all k ≡ Some piece → In piece (take n all)
in_front [] n k piece lt is = absurd (cc (is))
in_front (x ∷ xs) zero k piece lt is = absurd (omega (arith, lt))
in_front (x ∷ xs) (suc n) zero piece lt is = let same : x ≡ piece = cc (is) in inl same
in_front (x ∷ xs) (suc n) (suc k) piece lt is = inr (in_front xs n k piece (omega (arith, lt)) is)

pub from_front : (all : List (List ℕ)) (n : ℕ) (piece : List ℕ) → In piece (take n all) → (k : ℕ) × (k < n) × (slice_get all k ≡ Some piece)
from_front [] zero piece there = absurd there
from_front [] (suc n) piece there = absurd there
from_front (x ∷ xs) zero piece there = absurd there
from_front (x ∷ xs) (suc n) piece there = ⊎_elim
    (λ here. (0, omega arith, ap (λ (p : List ℕ). Some p) here))
    (λ behind. let found = from_front xs n piece behind in (suc found.0, omega (arith, found.1), found.2)) there

-- the pieces that a pool holds are those of its held slots
in_table : (pool : PoolState) (image : Image) (from : ℕ) (table : List (Option Slot)) (k slot : ℕ) (what : Slot) → slot ≡ from + k → at_slot table k ≡ Some what → In (bytes_in pool image slot what.length) (pieces_from pool image from table)
in_table pool image from [] k slot what at is = absurd (cc (is))
in_table pool image from (None ∷ table) zero slot what at is = absurd (cc (is))
in_table pool image from (Some w ∷ table) zero slot what at is = inl (let same : w ≡ what = cc (is) in (λ i. bytes_in pool image ((let z : from ≡ slot = omega (arith, at) in z) i) (same i).length))
in_table pool image from (None ∷ table) (suc k) slot what at is = in_table pool image (from + 1) table k slot what (omega (arith, at)) is
in_table pool image from (Some w ∷ table) (suc k) slot what at is = inr (in_table pool image (from + 1) table k slot what (omega (arith, at)) is)

from_table : (pool : PoolState) (image : Image) (from : ℕ) (table : List (Option Slot)) (piece : List ℕ) → In piece (pieces_from pool image from table) → (k : ℕ) × (what : Slot) × (at_slot table k ≡ Some what) × (bytes_in pool image (from + k) what.length ≡ piece)
from_table pool image from [] piece there = absurd there
from_table pool image from (None ∷ table) piece there = let found = from_table pool image (from + 1) table piece there in (suc found.0, found.1, found.2, ap (λ (s : ℕ). bytes_in pool image s found.1.length) (let z : from + suc found.0 ≡ from + 1 + found.0 = omega arith in z) ∙ found.3)
from_table pool image from (Some w ∷ table) piece there = ⊎_elim
    (λ here. (0, w, refl, ap (λ (s : ℕ). bytes_in pool image s w.length) (let z : from + 0 ≡ from = omega arith in z) ∙ here))
    (λ behind. let found = from_table pool image (from + 1) table piece behind in (suc found.0, found.1, found.2, ap (λ (s : ℕ). bytes_in pool image s found.1.length) (let z : from + suc found.0 ≡ from + 1 + found.0 = omega arith in z) ∙ found.3)) there

pub in_held : (pool : PoolState) (image : Image) (slot : ℕ) (what : Slot) → held pool slot ≡ Some what → In (bytes_in pool image slot what.length) (held_pieces pool image)
in_held pool image slot what is = in_table pool image 0 pool.table slot slot what (omega arith) is

pub from_held : (pool : PoolState) (image : Image) (piece : List ℕ) → In piece (held_pieces pool image) → (slot : ℕ) × (what : Slot) × (held pool slot ≡ Some what) × (bytes_in pool image slot what.length ≡ piece)
from_held pool image piece there = let found = from_table pool image 0 pool.table piece there in (found.0, found.1, found.2, ap (λ (s : ℕ). bytes_in pool image s found.1.length) (let z : found.0 ≡ 0 + found.0 = omega arith in z) ∙ found.3)

-- Where a name stands in a list by name, or would stand.
use Rattle.std.specs.Prelude.{◌≡◌, ◌≤◌, ◌<◌, ℕ, List, length, Result, MatchResult}
use Rattle.std.specs.List.{HoldsAt, AllWithin}
use Rattle.std.specs.Cmp.Lexicographic.{slice_cmp}
use Rattle.std.specs.Ordering.{nat_cmp}
use Rattle.std.specs.declared.cmp.Ordering.TheVariants.{Less, Equal, Greater}

-- the element at this place has the name
abbrev pub StandsAt : {A : Type 0} → (A → List ℕ) → List A → List ℕ → ℕ → Type 0
StandsAt {A} name_of xs name i = (i < length xs) × HoldsAt (λ (x : A). slice_cmp nat_cmp (name_of x) name ≡ Equal) xs i

-- the elements before this place have lower names, and the others higher ones
abbrev pub LacksAt : {A : Type 0} → (A → List ℕ) → List A → List ℕ → ℕ → Type 0
LacksAt {A} name_of xs name i =
    (i ≤ length xs)
    × AllWithin (λ (x : A). slice_cmp nat_cmp (name_of x) name ≡ Less) xs 0 i
    × AllWithin (λ (x : A). slice_cmp nat_cmp (name_of x) name ≡ Greater) xs i (length xs)

abbrev pub IsPlace : {A : Type 0} → (A → List ℕ) → List A → List ℕ → Result ℕ ℕ → Type 0
IsPlace name_of xs name place = MatchResult place (StandsAt name_of xs name) (LacksAt name_of xs name)

-- Lists in the order of their elements' names: no two elements have one name.
use Rattle.std.specs.Prelude.{◌≡◌, ℕ, Bool, not, is_some, if◌then◌else◌, List, [], ◌∷◌, map, filter, Option, find}
use Rattle.std.specs.List.{AllPairs}
use Rattle.std.specs.Str.{bytes_eq}
use Rattle.std.specs.Cmp.Lexicographic.{slice_cmp}
use Rattle.std.specs.Ordering.{match_ordering, nat_cmp}
use Rattle.std.specs.declared.cmp.Ordering.TheVariants.{Less}

-- the element of this name
abbrev pub named : {A : Type 0} → (A → List ℕ) → List ℕ → List A → Option A
named name_of name xs = find (λ x. bytes_eq (name_of x) name) xs

abbrev pub has : {A : Type 0} → (A → List ℕ) → List ℕ → List A → Bool
has name_of name xs = is_some (named name_of name xs)

-- an element at its place by name, and in place of the one of its name where there is one
abbrev pub put : {A : Type 0} → (A → List ℕ) → A → List A → List A
put name_of x [] = x ∷ []
put name_of x (y ∷ ys) = match_ordering (slice_cmp nat_cmp (name_of x) (name_of y)) (x ∷ y ∷ ys) (x ∷ ys) (y ∷ put name_of x ys)

-- all but the element of this name
abbrev pub without : {A : Type 0} → (A → List ℕ) → List ℕ → List A → List A
without name_of name xs = filter (λ x. not (bytes_eq (name_of x) name)) xs

-- the element of this name is changed so
abbrev pub changed : {A : Type 0} → (A → List ℕ) → List ℕ → (A → A) → List A → List A
changed name_of name change xs = map (λ x. if bytes_eq (name_of x) name then change x else x) xs

-- the names rise strictly in the order of their bytes
abbrev pub AreByName : {A : Type 0} → (A → List ℕ) → List A → Type 0
AreByName name_of xs = AllPairs (λ x y. slice_cmp nat_cmp (name_of x) (name_of y) ≡ Less) xs

-- a name is its own name
abbrev pub itself : List ℕ → List ℕ
itself name = name

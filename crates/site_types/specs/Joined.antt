-- Values joined by plus signs.
use Rattle.std.specs.Prelude.{ℕ, Bool, ◌==◌, nat_le, if◌then◌else◌, List, [], ◌∷◌, length, Option, Some, None, option_map}
use Rattle.std.specs.List.{slice_split}
use Rattle.std.specs.Option.{option_and_then}

-- a plus sign
abbrev pub is_plus : ℕ → Bool
is_plus c = c == 43

-- the values that texts spell, where each of them spells one
abbrev pub each_of : {A : Type 0} → (List ℕ → Option A) → List (List ℕ) → Option (List A)
each_of spelled [] = Some []
each_of spelled (text ∷ texts) = option_and_then (λ value. option_map (λ values. value ∷ values) (each_of spelled texts)) (spelled text)

-- the values of a text in which from one to so many are joined by plus signs
abbrev pub joined_of : {A : Type 0} → (List ℕ → Option A) → ℕ → List ℕ → Option (List A)
joined_of spelled most text = if nat_le (length (slice_split is_plus text)) most then each_of spelled (slice_split is_plus text) else None

-- The pieces of byte strings.
use Rattle.std.specs.Prelude.{ℕ, zero, suc, List, [], ◌∷◌, length, take, drop}

-- at most so many blocks of this size
abbrev pub blocks : ℕ → ℕ → List ℕ → List (List ℕ)
blocks zero size bytes = []
blocks (suc n) size [] = []
blocks (suc n) size (b ∷ bytes) = take size (b ∷ bytes) ∷ blocks n size (drop size (b ∷ bytes))

-- the consecutive blocks of this size, at least 1; the last may be shorter and is never empty
abbrev pub pieces : ℕ → List ℕ → List (List ℕ)
pieces size bytes = blocks (length bytes) size bytes

-- bytes that were cut into pieces of this size
pub record CutBytes : Type 0 where
  pub bytes : List ℕ
  pub size : ℕ

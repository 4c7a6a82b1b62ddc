-- The pieces of byte strings, and sets of pieces.
use Rattle.std.specs.Prelude.{ℕ, zero, suc, ◌==◌, if◌then◌else◌, List, [], ◌∷◌, ◌++◌, length, take, drop}
use Rattle.std.specs.Int.{div_ceil}
use Rattle.std.specs.List.{list_any}
use Rattle.std.specs.Str.{bytes_eq}

-- at most so many blocks of this size
abbrev pub blocks : ℕ → ℕ → List ℕ → List (List ℕ)
blocks zero size bytes = []
blocks (suc n) size [] = []
blocks (suc n) size (b ∷ bytes) = take size (b ∷ bytes) ∷ blocks n size (drop size (b ∷ bytes))

-- the consecutive blocks of this size, at least 1; the last may be shorter and is never empty
abbrev pub pieces : ℕ → List ℕ → List (List ℕ)
pieces size bytes = blocks (length bytes) size bytes

-- how many pieces a copy may have
abbrev pub piece_limit : ℕ
piece_limit = 1048576

-- how many pieces so many bytes have at this size; a size of 0, which no unit has, gives none
abbrev pub piece_count : ℕ → ℕ → ℕ
piece_count size total = if size == 0 then 0 else div_ceil total size

-- a set of byte strings, as the list of its distinct elements in the order in which they came
abbrev pub with_piece : List (List ℕ) → List ℕ → List (List ℕ)
with_piece set piece = if list_any (λ p. bytes_eq p piece) set then set else set ++ piece ∷ []

abbrev pub with_pieces : List (List ℕ) → List (List ℕ) → List (List ℕ)
with_pieces set [] = set
with_pieces set (piece ∷ more) = with_pieces (with_piece set piece) more

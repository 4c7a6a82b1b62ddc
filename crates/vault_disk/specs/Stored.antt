-- A list of files with their bytes.
use Rattle.std.specs.Prelude.{◌≡◌, ◌≢◌, ℕ, ◌<◌, ◌==◌, if◌then◌else◌, List, [], ◌∷◌, length, take}
use Rattle.std.proofs.Common.{get_or}

-- a file's number and its bytes
abbrev pub File : Type 0
File = ℕ × List ℕ

-- the bytes of a file; one that isn't in the list has none
abbrev pub bytes_of : List File → ℕ → List ℕ
bytes_of [] f = []
bytes_of (p ∷ ps) f = if p.0 == f then p.1 else bytes_of ps f

-- no file of the list has this number
abbrev pub HasNo : List File → ℕ → Type 0
HasNo [] file = Unit {0}
HasNo (p ∷ ps) file = (p.0 ≢ file) × HasNo ps file

-- the first file of this number stands at this place
pub record StandsAt (files : List File) (file place : ℕ) : Type 0 where
  pub within : place < length files
  pub before : HasNo (take place files) file
  pub here : (get_or files place (0, [])).0 ≡ file

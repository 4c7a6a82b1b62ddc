-- Fields, read from the front of some bytes. Numbers are big-endian.
use Rattle.std.specs.Prelude.{◌≡◌, ℕ, if◌then◌else◌, nat_lt, List, [], ◌∷◌, length, take, drop, Option, Some, None, Result, Ok, Err}
use Rattle.std.specs.Borrow.{Bor}
use Rattle.std.specs.Int.{Width, byte_len, from_be_bytes}
use Rattle.site_types.specs.declared.fields.Ended.{Ended}

-- what stands at the front of some bytes, and the bytes behind it, where they don't end within it
abbrev pub Field : Type 0 → Type 0
Field A = List ℕ → Option (A × List ℕ)

abbrev pub byte_field : Field ℕ
byte_field [] = None
byte_field (byte ∷ rest) = Some (byte, rest)

abbrev pub number_field : Width → Field ℕ
number_field w bytes = if nat_lt (length bytes) (byte_len w) then None else Some (from_be_bytes w (take (byte_len w) bytes), drop (byte_len w) bytes)

abbrev pub bytes_field : ℕ → Field (List ℕ)
bytes_field count bytes = if nat_lt (length bytes) count then None else Some (take count bytes, drop count bytes)

-- a field was taken: what stood there, and the bytes behind it
abbrev pub IsTaken : {A : Type 0} → Result A Ended → Option (A × List ℕ) → List ℕ → Type 0
IsTaken (Ok value) read rest = read ≡ Some (value, rest)
IsTaken (Err _) read rest = read ≡ None

-- a result with the bytes that its reference points to
abbrev pub borrowed : {E : Type 0} → Result (Bor (List ℕ)) E → Result (List ℕ) E
borrowed (Ok value) = Ok value.now
borrowed (Err fault) = Err fault

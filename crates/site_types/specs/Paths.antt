-- Paths, and how they are written in a word.
use Rattle.std.specs.Prelude.{ℕ, ◌+◌, ◌-◌, ◌*◌, ◌/◌, ◌%◌, Bool, false, ◌&&◌, ◌||◌, ◌==◌, not, nat_le, nat_lt, if◌then◌else◌, List, [], ◌∷◌, length, Option, Some, None}
use Rattle.std.specs.List.{flat_map, list_all}
use Rattle.std.specs.Str.{bytes_eq}

-- an upper-case hexadecimal digit
abbrev pub hex_digit : ℕ → ℕ
hex_digit digit = if nat_lt digit 10 then 48 + digit else 55 + digit

-- a byte up to the space, a percent sign, and a byte from 7F on is written with its two digits
abbrev pub is_escaped : ℕ → Bool
is_escaped byte = nat_le byte 32 || byte == 37 || nat_le 127 byte

abbrev pub written_byte : ℕ → List ℕ
written_byte byte = if is_escaped byte then 37 ∷ hex_digit (byte / 16) ∷ hex_digit (byte % 16) ∷ [] else byte ∷ []

abbrev pub written : List ℕ → List ℕ
written path = flat_map written_byte path

-- no zero and no line feed
abbrev pub is_path_byte : ℕ → Bool
is_path_byte byte = not (byte == 0) && not (byte == 10)

abbrev pub begins_with_slash : List ℕ → Bool
begins_with_slash [] = false
begins_with_slash (byte ∷ bytes) = byte == 47

-- 1 to 1,024 such bytes, the first of them a slash
abbrev pub is_path : List ℕ → Bool
is_path path = begins_with_slash path && nat_le (length path) 1024 && list_all is_path_byte path

-- the number that a hexadecimal digit stands for, taken modulo 256 for any other character
abbrev pub hex_value : ℕ → ℕ
hex_value c = if nat_le c 57 then c - 48 else c - 55

abbrev pub byte_of : ℕ → ℕ → ℕ
byte_of high low = (hex_value high * 16 + hex_value low) % 256

-- the bytes of a text in which some are written with two digits; a text that no path has is read too, and its bytes are written otherwise
abbrev pub unwritten : List ℕ → List ℕ
unwritten [] = []
unwritten (c ∷ []) = c ∷ []
unwritten (c ∷ d ∷ []) = c ∷ d ∷ []
unwritten (c ∷ d ∷ e ∷ text) = if c == 37 then byte_of d e ∷ unwritten text else c ∷ unwritten (d ∷ e ∷ text)

-- the path that is written so
abbrev pub path_of : List ℕ → Option (List ℕ)
path_of text = if is_path (unwritten text) && bytes_eq (written (unwritten text)) text then Some (unwritten text) else None

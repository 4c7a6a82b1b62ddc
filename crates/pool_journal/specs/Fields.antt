-- The fields of a record. Numbers are big-endian, and a string is a length of two bytes and its bytes.
use Rattle.std.specs.Prelude.{◌≡◌, ℕ, zero, suc, ◌==◌, if◌then◌else◌, List, [], ◌∷◌, ◌++◌, length, Option, Some, None, option_map, option_and_then, Result, Ok, Err, flat_map}
use Rattle.std.specs.Int.{w16, w32, w64, to_be_bytes}
use Rattle.site_types.specs.Names.{is_name}
use Rattle.site_types.specs.Fields.{number_field, bytes_field}
pub use Rattle.site_types.specs.declared.image.Kind.{Kind}
pub use Rattle.site_types.specs.declared.image.Kind.TheVariants.{Full, Differential, Cumulative}
pub use Rattle.site_types.specs.declared.image.Base.{Base}
pub use Rattle.site_types.specs.declared.fields.FieldFault.{FieldFault}
pub use Rattle.site_types.specs.declared.fields.FieldFault.TheVariants.{Broken, NoMemory}
pub use Rattle.site_types.specs.Fields.{Field, byte_field}
use Rattle.site_types.specs.declared.image.Base.TheVariants as base

-- how each field is spelled
abbrev pub string : List ℕ → List ℕ
string text = to_be_bytes w16 (length text) ++ text

-- strings, one behind another
abbrev pub strings : List (List ℕ) → List ℕ
strings texts = flat_map string texts

abbrev pub kind_code : Kind → ℕ
kind_code Full = 0
kind_code Differential = 1
kind_code Cumulative = 2

abbrev pub base_code : Base → ℕ
base_code base.None = 0
base_code (base.Time time) = time

-- how each field is read
abbrev pub short_field : Field ℕ
short_field = number_field w16

abbrev pub count_field : Field ℕ
count_field = number_field w32

abbrev pub long_field : Field ℕ
long_field = number_field w64

abbrev pub behind_length : ℕ × List ℕ → Option (List ℕ × List ℕ)
behind_length (count, rest) = bytes_field count rest

abbrev pub string_field : Field (List ℕ)
string_field bytes = option_and_then behind_length (short_field bytes)

abbrev pub named : List ℕ × List ℕ → Option (List ℕ × List ℕ)
named (text, rest) = if is_name text then Some (text, rest) else None

abbrev pub name_field : Field (List ℕ)
name_field bytes = option_and_then named (string_field bytes)

abbrev pub kind_coded : ℕ × List ℕ → Option (Kind × List ℕ)
kind_coded (code, rest) = if code == 0 then Some (Full, rest) else (if code == 1 then Some (Differential, rest) else (if code == 2 then Some (Cumulative, rest) else None))

abbrev pub kind_field : Field Kind
kind_field bytes = option_and_then kind_coded (byte_field bytes)

abbrev pub base_coded : ℕ × List ℕ → Option (Base × List ℕ)
base_coded (code, rest) = if code == 0 then Some (base.None, rest) else Some (base.Time code, rest)

abbrev pub base_field : Field Base
base_field bytes = option_and_then base_coded (long_field bytes)

-- one field behind another
abbrev pub both : {A B : Type 0} → Field A → Field B → Field (A × B)
both first second bytes = option_and_then (λ p. option_and_then (λ q. Some ((p.0, q.0), q.1)) (second p.1)) (first bytes)

-- so many of a field, one behind another
abbrev pub one_first : {A : Type 0} → A → List A × List ℕ → List A × List ℕ
one_first x (xs, rest) = (x ∷ xs, rest)

abbrev pub many_field : {A : Type 0} → Field A → ℕ → Field (List A)
many_field field zero bytes = Some ([], bytes)
many_field field (suc count) bytes = option_and_then (λ p. option_map (one_first p.0) (many_field field count p.1)) (field bytes)

-- and behind their number
abbrev pub counted_field : {A : Type 0} → Field A → Field (List A)
counted_field field bytes = option_and_then (λ p. many_field field p.0 p.1) (count_field bytes)

abbrev pub strings_field : ℕ → Field (List (List ℕ))
strings_field = many_field string_field

-- a field was read: what stood there, and the bytes behind it
abbrev pub IsField : {A : Type 0} → Result A FieldFault → Option (A × List ℕ) → List ℕ → Type 0
IsField (Ok value) read rest = read ≡ Some (value, rest)
IsField (Err (Broken left)) read rest = read ≡ None
IsField (Err NoMemory) read rest = Unit {0}

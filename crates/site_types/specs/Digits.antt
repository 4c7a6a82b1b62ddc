-- Numbers that are written in so many digits.
use Rattle.std.specs.Prelude.{ℕ, ◌&&◌, ◌==◌, if◌then◌else◌, List, length, Option, Some, None}
use Rattle.std.specs.Char.{is_ascii_digit}
use Rattle.std.specs.List.{list_all}
use Rattle.std.specs.Str.Parse.{digits_value}

-- the number of a text that has so many characters, each a decimal digit
abbrev pub digits_of : ℕ → List ℕ → Option ℕ
digits_of count text = if length text == count && list_all is_ascii_digit text then Some (digits_value 10 text) else None

-- Numbers in a text.
use Rattle.std.specs.Prelude.{ℕ, nat_le, if◌then◌else◌, ◌&&◌, List, Option, Some, None}
use Rattle.std.specs.Fmt.{decimal}
use Rattle.std.specs.Str.{bytes_eq}
use Rattle.std.specs.Str.Parse.{digits_value}

-- the number, of at most a limit, that a text spells in decimal digits: the text is what is written of that number
abbrev pub number_up_to : ℕ → List ℕ → Option ℕ
number_up_to limit text = if nat_le (digits_value 10 text) limit && bytes_eq text (decimal (digits_value 10 text)) then Some (digits_value 10 text) else None

-- the same for a number from a least to a greatest
abbrev pub at_least : ℕ → Option ℕ → Option ℕ
at_least least None = None
at_least least (Some number) = if nat_le least number then Some number else None

abbrev pub number_between : ℕ → ℕ → List ℕ → Option ℕ
number_between least greatest text = at_least least (number_up_to greatest text)

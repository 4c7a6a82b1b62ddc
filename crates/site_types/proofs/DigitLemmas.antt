-- Texts of digits.
use Rattle.site_types.proofs.Common.{◌≡◌, ◌≤◌, ℕ, List, length, Bool, true, arith, rules, ◌==◌, list_all, IsUtf8, digits_value, ParsesUnsigned, nat_tests, IsUtf8-from_ascii, digits_of}
use Rattle.std.specs.Prelude.{Some, None, Result, Ok, if◌then◌else◌, ◌&&◌}
use Rattle.std.specs.Char.{is_ascii_digit}
use Rattle.std.proofs.lemmas.Str.Parse.{IsNumeralModel, numerals_by_value, digits_value_short, parse_gives}
use Rattle.std.proofs.lemmas.Fmt.{IsAscii-from_digits}

own : IsNumeralModel (λ ds. list_all is_ascii_digit ds ≡ true) (digits_value 10)
own = numerals_by_value _ (search rules)

pub IsUtf8-digits : (text : List ℕ) → list_all is_ascii_digit text ≡ true → IsUtf8 text
IsUtf8-digits text digits = IsUtf8-from_ascii text (IsAscii-from_digits text (own.to text digits))

-- one to four digits are read as their number
pub digits-parsed : {E : Type 0} (text : List ℕ) (r : Result ℕ E) → ParsesUnsigned 16 10 text r → list_all is_ascii_digit text ≡ true → 1 ≤ length text → length text ≤ 4 → r ≡ Ok (digits_value 10 text)
digits-parsed text r parsed digits some few = parse_gives own 16 text r parsed digits (omega arith) (omega (arith, digits_value_short own text 4 digits few))

if-both : (a b : Bool) (n : ℕ) → a ≡ true → b ≡ true → (if a && b then Some n else None) ≡ Some n
if-both a b n p q = (λ i. if p i && q i then Some n else None)

pub digits_of-digits : (text : List ℕ) → list_all is_ascii_digit text ≡ true → digits_of (length text) text ≡ Some (digits_value 10 text)
digits_of-digits text digits = if-both (length text == length text) (list_all is_ascii_digit text) (digits_value 10 text) (grind (arith, nat_tests)) digits

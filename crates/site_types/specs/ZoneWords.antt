-- Zones, as they are written.
use Rattle.std.specs.Prelude.{ℕ, ◌+◌, ◌*◌, ◌/◌, ◌%◌, ℤ, pos, negsuc, neg_ℤ, unsigned_abs, ◌&&◌, ◌==◌, nat_le, nat_lt, if◌then◌else◌, List, [], ◌∷◌, ◌++◌, length, drop, is_some, Option, Some, None}
use Rattle.std.specs.List.{slice_index, slice_range}
use Rattle.std.specs.Option.{option_and_then}
use Rattle.jiff_tz.specs.PosixReader.{read_whole}
use Rattle.site_types.specs.Digits.{digits_of}

-- the seconds of hours and minutes, where there are such on a clock
abbrev pub seconds_of : ℕ → ℕ → Option ℕ
seconds_of hours minutes = if nat_lt hours 24 && nat_lt minutes 60 then Some (hours * 3600 + minutes * 60) else None

-- those seconds east of UTC, by the sign before them; none are written with a plus sign alone
abbrev pub signed : ℕ → ℕ → Option ℤ
signed sign seconds = if sign == 43 then Some (pos seconds) else (if sign == 45 && nat_le 1 seconds then Some (neg_ℤ (pos seconds)) else None)

-- the offset that a text spells, in seconds and east of UTC above 0: a sign, and two digits each of hours and minutes, joined by a colon
abbrev pub offset_of : List ℕ → Option ℤ
offset_of text = if length text == 6 && slice_index text 3 == 58 then option_and_then (λ hours. option_and_then (λ minutes. option_and_then (signed (slice_index text 0)) (seconds_of hours minutes)) (digits_of 2 (drop 4 text))) (digits_of 2 (slice_range text 1 3)) else None

-- the last two digits of a number
abbrev pub two_digits : ℕ → List ℕ
two_digits number = (48 + number / 10 % 10) ∷ (48 + number % 10) ∷ []

abbrev pub sign_of : ℤ → ℕ
sign_of (pos n) = 43
sign_of (negsuc n) = 45

-- how an offset of whole minutes, below a day, is written
abbrev pub offset_text : ℤ → List ℕ
offset_text offset = sign_of offset ∷ two_digits (unsigned_abs offset / 3600) ++ 58 ∷ two_digits (unsigned_abs offset % 3600 / 60)

-- a POSIX rule (POSIX, section 8.3, the variable TZ), as it stands: at most 1,024 bytes
abbrev pub rule_of : List ℕ → Option (List ℕ)
rule_of text = if nat_le (length text) 1024 && is_some (read_whole text) then Some text else None

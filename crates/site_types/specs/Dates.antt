-- Dates of the Gregorian calendar.
use Rattle.std.specs.Prelude.{ℕ, ◌%◌, Bool, ◌&&◌, ◌||◌, ◌==◌, not, nat_le, if◌then◌else◌}

abbrev pub is_leap : ℕ → Bool
is_leap year = (year % 4 == 0 && not (year % 100 == 0)) || year % 400 == 0

-- the number of days of a month; it is asked of months 1 to 12 alone
abbrev pub days_in_month : ℕ → ℕ → ℕ
days_in_month year month = if month == 2 then (if is_leap year then 29 else 28) else (if month == 4 || month == 6 || month == 9 || month == 11 then 30 else 31)

-- a date from 1970 to 9891
abbrev pub is_date : ℕ → ℕ → ℕ → Bool
is_date year month day = nat_le 1970 year && nat_le year 9891 && nat_le 1 month && nat_le month 12 && nat_le 1 day && nat_le day (days_in_month year month)

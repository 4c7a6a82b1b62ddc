-- Dates of a year, a month and a day.
use Rattle.site_types.proofs.Common.{◌≡◌, ℕ, Bool, true, false, refl, ap, MatchOption, date_if, date_of}
use Rattle.std.specs.Prelude.{Some, None, Option}
use Rattle.std.proofs.Math.Bool.{Bool-set}
use Rattle.site_types.specs.Dates.{is_date}
use Rattle.site_types.specs.declared.calendar.Day.{Day}
use mathlib.Core.HLevel.{is_prop→PathP}

same_day : (year month day : ℕ) (is : is_date year month day ≡ true) (d : Day) → (d.year ≡ year) × (d.month ≡ month) × (d.day ≡ day) → d ≡ record { year = year; month = month; day = day; valid = is }
same_day year month day is d (p, q, r) = λ i. record { year = p i; month = q i; day = r i; valid = is_prop→PathP (λ j. is_date (p j) (q j) (r j) ≡ true) (λ j. Bool-set (is_date (p j) (q j) (r j)) true) d.valid is i }

-- a date with these fields is the one of this year, month and day, and none is where there is none
pub date_of-made : (year month day : ℕ) (o : Option Day) → MatchOption o (is_date year month day ≡ false) (λ d. (d.year ≡ year) × (d.month ≡ month) × (d.day ≡ day)) → o ≡ date_of year month day
date_of-made year month day o = at (is_date year month day) refl o
  where
    at : (b : Bool) (is : is_date year month day ≡ b) (o : Option Day) → MatchOption o (is_date year month day ≡ false) (λ d. (d.year ≡ year) × (d.month ≡ month) × (d.day ≡ day)) → o ≡ date_if year month day b is
    at false is None made = refl
    at false is (Some d) made = absurd (cc (is, d.valid, made.0, made.1, made.2))
    at true is None made = absurd (cc (is, made))
    at true is (Some d) made = ap (λ (x : Day). Some x) (same_day year month day is d made)

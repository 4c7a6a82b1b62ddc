-- The date of a day is the date that has it.
use Rattle.schedule_windows.proofs.Common.{◌≡◌, ◌+◌, ◌-◌, ◌≤◌, ◌<◌, ℕ, zero, suc, ℤ, pos, negsuc, ◌-ℤ◌, ◌≤ℤ◌, Bool, not, ◌&&◌, List, refl, ap, ◌∙◌, inl, inr, arith, unsigned_abs, list_any, leb_tells, signed_arith, year_of_day, weekday_of, YearMonthDay, date_in_year, year_month_day, names, excludes, is_run_day}
use Rattle.jiff_core.specs.Calendar.{days_from_civil, days_in_month, days_of_months, day_of_year}
use Rattle.jiff_core.specs.Date.{epoch_day}
use Rattle.jiff_core.specs.declared.civil.date.Date.{Date}
use Rattle.jiff_core.proofs.CalendarLemmas.{days_from_civil-day_count, day_count-day_of_year, days_of_months_more, days_of_months_mono}
use Rattle.jiff_core.proofs.DateLemmas.{civil}
use Rattle.jiff_tz.proofs.YearLemmas.{year_of_day-date}
use Rattle.site_types.specs.declared.calendar.CalendarItem.{CalendarItem}
use Rattle.schedule_windows.specs.RunDays.{months_within, date_of}

-- the months that fit are the ones whose days fit, up to the next month's
months_within_is : (y : ℤ) (n k days : ℕ) → k ≤ n → days_of_months y k ≤ days → days < days_of_months y (suc k) → months_within y n days ≡ k
unfolding months_within
months_within_is y zero k days h a b = omega arith
months_within_is y (suc n) k days h a b = elim (leb_tells (days_of_months y (suc n)) days) [
  | inl fits ↦ rw fits.0 (let more = fits.1 in grind (arith, days_of_months_mono y (suc k) (suc n)))
  | inr over ↦ rw over.0 (months_within_is y n k days (let less = over.1 in grind arith) a b)
]

date_in_year_is : (y : ℤ) (m d days : ℕ) → 1 ≤ m → m ≤ 12 → 1 ≤ d → d ≤ days_in_month y m → days + 1 ≡ days_of_months y (m - 1) + d → date_in_year y days ≡ record { year = y; month = m; day = d }
date_in_year_is y m d days low high first last e =
    let more = days_of_months_more y m low in
    let next : suc (m - 1) ≡ m = omega arith in
    let to_next = ap (days_of_months y) next in
    let within : months_within y 11 days ≡ m - 1 = months_within_is y 11 (m - 1) days (omega arith) (omega arith) (omega arith) in
    let month : months_within y 11 days + 1 ≡ m = omega arith in
    let before = ap (days_of_months y) within in
    let day : days - days_of_months y (months_within y 11 days) + 1 ≡ d = omega arith in
    (λ i. record { year = y; month = month i; day = day i })

nonneg_abs : (z : ℤ) → pos 0 ≤ℤ z → pos (unsigned_abs z) ≡ z
nonneg_abs (pos n) h = refl
nonneg_abs (negsuc n) h = absurd (omega (arith, signed_arith))

pub date_of-date : (d : Date) → date_of (epoch_day d) ≡ year_month_day d
unfolding date_of
date_of-date d =
    let date = civil d in
    let month_in = date.1 in
    let day_in = date.2 in
    let here = days_from_civil-day_count d.year d.month d.day in
    let first = days_from_civil-day_count d.year 1 1 in
    let place = day_count-day_of_year d.year d.month d.day day_in.0 in
    let is_day : epoch_day d ≡ days_from_civil d.year d.month d.day = refl in
    let of_year : day_of_year d.year d.month d.day ≡ days_of_months d.year (d.month - 1) + d.day = refl in
    let whole = nonneg_abs (epoch_day d -ℤ days_from_civil d.year 1 1) (omega (arith, signed_arith)) in
    let passed : unsigned_abs (epoch_day d -ℤ days_from_civil d.year 1 1) + 1 ≡ days_of_months d.year (d.month - 1) + d.day = omega (arith, signed_arith) in
    let same : date_in_year (year_of_day (epoch_day d)) (unsigned_abs (epoch_day d -ℤ days_from_civil (year_of_day (epoch_day d)) 1 1)) ≡ date_in_year d.year (unsigned_abs (epoch_day d -ℤ days_from_civil d.year 1 1)) =
    ap (λ (y : ℤ). date_in_year y (unsigned_abs (epoch_day d -ℤ days_from_civil y 1 1))) (year_of_day-date d) in
    same ∙ date_in_year_is d.year d.month d.day _ month_in.0 month_in.1 day_in.0 day_in.1 passed

-- what a date and a weekday show of a calendar is what it says of their day
pub is_run_day-by : (items : List CalendarItem) (day seen : ℤ) (d : YearMonthDay) (weekday : ℕ) (named excluded : Bool) → seen ≡ day → d ≡ date_of seen → weekday ≡ weekday_of seen → named ≡ list_any (names d weekday) items → excluded ≡ list_any (excludes d) items → (named && not excluded) ≡ is_run_day items day
is_run_day-by items day seen d weekday named excluded same e f g h =
    (λ i. g i && not (h i)) ∙ (λ i. list_any (names (e i) (f i)) items && not (list_any (excludes (e i)) items)) ∙ ap (is_run_day items) same

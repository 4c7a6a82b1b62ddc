-- The days of a calendar. A day is a number of days since 1970-01-01, and its date is Gregorian.
use Rattle.std.specs.Prelude.{ℕ, zero, suc, ℤ, pos, ◌+◌, ◌-◌, ◌/◌, ◌-ℤ◌, Bool, true, false, not, ◌&&◌, ◌==◌, nat_le, nat_lt, List, unsigned_abs, if◌then◌else◌}
use Rattle.std.specs.List.{list_any}
use Rattle.std.specs.Ordering.{int_eq}
use Rattle.jiff_core.specs.Calendar.{days_from_civil, days_in_month, days_of_months}
use Rattle.jiff_core.specs.declared.civil.date.Date.{Date as CivilDate}
use Rattle.jiff_tz.specs.Year.{year_of_day}
use Rattle.site_types.specs.declared.calendar.Day.{Day}
use Rattle.site_types.specs.declared.calendar.CalendarItem.{CalendarItem}
use Rattle.site_types.specs.declared.calendar.CalendarItem.TheVariants.{Date, Weekday, MonthDay, Exclude}
use Rattle.schedule_windows.specs.Weeks.{weekday_of}

-- a date: a year, a month from 1 and a day of the month from 1
pub record YearMonthDay : Type 0 where
  pub year : ℤ
  pub month : ℕ
  pub day : ℕ

-- the parts of a date of `jiff`
abbrev pub year_month_day : CivilDate → YearMonthDay
year_month_day d = record { year = d.year; month = d.month; day = d.day }

-- the most of the first n months of a year that fit in so many days
unfoldable pub months_within : ℤ → ℕ → ℕ → ℕ
months_within year zero days = 0
months_within year (suc n) days = if nat_le (days_of_months year (suc n)) days then suc n else months_within year n days

-- the date that lies so many days after 1 January of the year
abbrev pub date_in_year : ℤ → ℕ → YearMonthDay
date_in_year year days = record {
  year = year;
  month = months_within year 11 days + 1;
  day = days - days_of_months year (months_within year 11 days) + 1;
}

-- the date of a day
unfoldable pub date_of : ℤ → YearMonthDay
date_of day = date_in_year (year_of_day day) (unsigned_abs (day -ℤ days_from_civil (year_of_day day) 1 1))

-- it is this date
abbrev pub is_date : YearMonthDay → Day → Bool
is_date d day = int_eq d.year (pos day.year) && d.month == day.month && d.day == day.day

-- it lies in a week of its month: in every one for 0, in its last seven days for 5, else in the n-th seven days
abbrev pub is_in_week : YearMonthDay → ℕ → Bool
is_in_week d week =
    if week == 0 then true
    else (if week == 5 then nat_lt (days_in_month d.year d.month) (d.day + 7)
    else (d.day + 6) / 7 == week)

-- it is the n-th day of its month, or for 0 the last
abbrev pub is_month_day : YearMonthDay → ℕ → Bool
is_month_day d n = if n == 0 then d.day == days_in_month d.year d.month else d.day == n

-- the item names the day, which has this date and weekday
abbrev pub names : YearMonthDay → ℕ → CalendarItem → Bool
names d weekday (Date day) = is_date d day
names d weekday (Weekday week day) = weekday == day && is_in_week d week
names d weekday (MonthDay n) = is_month_day d n
names d weekday (Exclude day) = false

-- the item excludes it
abbrev pub excludes : YearMonthDay → CalendarItem → Bool
excludes d (Date day) = false
excludes d (Weekday week day) = false
excludes d (MonthDay n) = false
excludes d (Exclude day) = is_date d day

-- a calendar's days: those that some item names and none excludes
abbrev pub is_run_day : List CalendarItem → ℤ → Bool
is_run_day items day = list_any (names (date_of day) (weekday_of day)) items && not (list_any (excludes (date_of day)) items)

-- How calendars are written.
use Rattle.std.specs.Prelude.{ℕ, ◌+◌, ◌/◌, ◌%◌, ◌==◌, if◌then◌else◌, List, ◌∷◌, ◌++◌, map, codes}
use Rattle.std.specs.Fmt.{decimal}
use Rattle.std.specs.List.{join_with_byte}
use Rattle.site_types.specs.Weekdays.{weekday_name}
use Rattle.site_types.specs.ZoneWords.{two_digits}
use Rattle.site_types.specs.declared.calendar.Day.{Day}
use Rattle.site_types.specs.declared.calendar.CalendarItem.{CalendarItem}
use Rattle.site_types.specs.declared.calendar.CalendarItem.TheVariants.{Date, Weekday, MonthDay, Exclude}

abbrev pub four_digits : ℕ → List ℕ
four_digits number = two_digits (number / 100) ++ two_digits (number % 100)

abbrev pub day_text : Day → List ℕ
day_text d = four_digits d.year ++ codes "-" ++ two_digits d.month ++ codes "-" ++ two_digits d.day

-- 0 to 4, and L for the last, which is 5
abbrev pub week_text : ℕ → ℕ
week_text week = if week == 5 then 76 else 48 + week % 10

-- the last day of a month is 0
abbrev pub month_day_text : ℕ → List ℕ
month_day_text day = if day == 0 then codes "L" else decimal day

abbrev pub item_text : CalendarItem → List ℕ
item_text (Date day) = codes "d" ++ day_text day
item_text (Weekday week day) = codes "w" ++ week_text week ∷ weekday_name day
item_text (MonthDay day) = codes "m" ++ month_day_text day
item_text (Exclude day) = codes "x" ++ day_text day

abbrev pub calendar_text : List CalendarItem → List ℕ
calendar_text items = join_with_byte 43 (map item_text items)

-- Calendars, as they are written.
use Rattle.std.specs.Prelude.{◌≡◌, refl, ℕ, ◌-◌, Bool, true, false, ◌&&◌, ◌==◌, nat_le, if◌then◌else◌, List, [], ◌∷◌, length, take, drop, codes, Option, Some, None, option_map}
use Rattle.std.specs.List.{slice_index, slice_range}
use Rattle.std.specs.Option.{option_and_then}
use Rattle.std.specs.Str.{bytes_eq}
use Rattle.site_types.specs.Dates.{is_date}
use Rattle.site_types.specs.Digits.{digits_of}
use Rattle.site_types.specs.Joined.{joined_of}
use Rattle.site_types.specs.Numbers.{number_up_to}
use Rattle.site_types.specs.Weekdays.{weekday_named}
use Rattle.site_types.specs.declared.calendar.Day.{Day}
use Rattle.site_types.specs.declared.calendar.CalendarItem.{CalendarItem}
use Rattle.site_types.specs.declared.calendar.CalendarItem.TheVariants.{Date, Weekday, MonthDay, Exclude}

-- the week that a character names: a digit from 0 to 4 names itself, and L the last, which is 5
abbrev pub week_of : ℕ → Option ℕ
week_of c = if c == 76 then Some 5 else (if nat_le 48 c && nat_le c 52 then Some (c - 48) else None)

-- weekdays: which ones of a month, and the name
abbrev pub weekday_item_of : List ℕ → Option CalendarItem
weekday_item_of [] = None
weekday_item_of (c ∷ name) = option_and_then (λ week. option_map (λ day. Weekday week day) (weekday_named name)) (week_of c)

-- a day of the month, 1 to 31, as a number; L is the last day, which is 0
abbrev pub month_day_of : List ℕ → Option ℕ
month_day_of text = if bytes_eq text (codes "L") then Some 0 else option_and_then (λ day. if nat_le 1 day then Some day else None) (number_up_to 31 text)

-- the date of this year, month and day, by the answer to whether it is one
abbrev pub date_if : (year month day : ℕ) → (b : Bool) → is_date year month day ≡ b → Option Day
date_if year month day false is = None
date_if year month day true is = Some (record { year = year; month = month; day = day; valid = is })

-- the date of this year, month and day, where there is one
abbrev pub date_of : ℕ → ℕ → ℕ → Option Day
date_of year month day = date_if year month day (is_date year month day) refl

-- the date that a text spells: four digits of the year, two of the month and two of the day, joined by dashes
abbrev pub day_of : List ℕ → Option Day
day_of text = if length text == 10 && slice_index text 4 == 45 && slice_index text 7 == 45 then option_and_then (λ year. option_and_then (λ month. option_and_then (λ day. date_of year month day) (digits_of 2 (drop 8 text))) (digits_of 2 (slice_range text 5 7))) (digits_of 4 (take 4 text)) else None

-- the item that a text spells: d and a date, x and a date that is left out, w and weekdays, or m and a day of the month
abbrev pub calendar_item_of : List ℕ → Option CalendarItem
calendar_item_of [] = None
calendar_item_of (c ∷ rest) = if c == 100 then option_map Date (day_of rest) else (if c == 120 then option_map Exclude (day_of rest) else (if c == 119 then weekday_item_of rest else (if c == 109 then option_map MonthDay (month_day_of rest) else None)))

-- the calendar that a text spells: 1 to 64 items, joined by plus signs
abbrev pub calendar_of : List ℕ → Option (List CalendarItem)
calendar_of text = joined_of calendar_item_of 64 text

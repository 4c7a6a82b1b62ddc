-- Calendars are written as they are read.
use Rattle.site_types.proofs.Common.{◌%◌, ◌≡◌, ◌≤◌, ◌-◌, ◌+◌, ℕ, List, [], ◌∷◌, length, take, drop, map, Bool, true, false, refl, sym, ◌∙◌, ap, ap₂, arith, ◌==◌, nat_le, decimal, slice_index, slice_range, option_and_then, and_parts, leb-true, eqb-true, week_of, weekday_item_of, month_day_of, date_if, date_of, day_of, calendar_item_of, calendar_of, four_digits, day_text, week_text, month_day_text, item_text, calendar_text, digits_of, number_up_to, weekday_named, two_digits}
use Rattle.std.specs.Prelude.{Some, None, Option, codes, if◌then◌else◌, ◌&&◌, option_map}
use Rattle.site_types.specs.Dates.{is_date}
use Rattle.site_types.specs.declared.calendar.Day.{Day}
use Rattle.site_types.specs.declared.calendar.CalendarItem.{CalendarItem}
use Rattle.site_types.specs.declared.calendar.CalendarItem.TheVariants.{Date, Weekday, MonthDay, Exclude}
use Rattle.site_types.proofs.JoinedSpelling.{parts_spelled, parts_joined}
use Rattle.site_types.proofs.PieceSpelling.{three_parts, two_spelled, four_spelled}
use Rattle.site_types.proofs.OptionLemmas.{guarded, chained, same_value, mapped}
use Rattle.site_types.proofs.WordSpelling.{number_up_to_spelled, weekday_spelled, word_or}

date_parts : (year month day : ℕ) (d : Day) → date_of year month day ≡ Some d → (d.year ≡ year) × (d.month ≡ month) × (d.day ≡ day)
date_parts year month day d = at (is_date year month day) refl
  where
    at : (b : Bool) (valid : is_date year month day ≡ b) → date_if year month day b valid ≡ Some d → (d.year ≡ year) × (d.month ≡ month) × (d.day ≡ day)
    at false valid is = absurd (cc is)
    at true valid is = let same = sym (same_value _ d is) in (ap (λ (x : Day). x.year) same, ap (λ (x : Day). x.month) same, ap (λ (x : Day). x.day) same)

pub day_spelled : (t : List ℕ) (d : Day) → day_of t ≡ Some d → day_text d ≡ t
day_spelled t d is =
    let whole = guarded (length t == 10 && slice_index t 4 == 45 && slice_index t 7 == 45) _ d is in
    let tests = and_parts (length t == 10 && slice_index t 4 == 45) (slice_index t 7 == 45) whole.0 in
    let firsts = and_parts (length t == 10) (slice_index t 4 == 45) tests.0 in
    let year = chained _ (digits_of 4 (take 4 t)) d whole.1 in
    let month = chained _ (digits_of 2 (slice_range t 5 7)) d year.2 in
    let day = chained _ (digits_of 2 (drop 8 t)) d month.2 in
    let parts = date_parts year.0 month.0 day.0 d day.2 in
    let len = eqb-true (length t) 10 firsts.0 in
    three_parts t 4 7 45 _ _ _ (omega arith) (omega arith) (eqb-true (slice_index t 4) 45 firsts.1) (eqb-true (slice_index t 7) 45 tests.1)
    (ap four_digits parts.0 ∙ four_spelled (take 4 t) year.0 year.1)
    (ap two_digits parts.1 ∙ two_spelled (slice_range t 5 7) month.0 month.1)
    (ap two_digits parts.2 ∙ two_spelled (drop 8 t) day.0 day.1)

-- a week from 0 to 4 is written as its digit
week_digit : (c week : ℕ) → 48 ≤ c → c ≤ 52 → c - 48 ≡ week → week_text week ≡ c
week_digit c week low high is = at (week == 5) refl
  where
    at : (b : Bool) → (week == 5) ≡ b → (if b then 76 else 48 + week % 10) ≡ c
    at true last = let five = eqb-true week 5 last in absurd (omega arith)
    at false other = omega arith

week_spelled : (c week : ℕ) → week_of c ≡ Some week → week_text week ≡ c
week_spelled c week = at (c == 76) refl
  where
    at : (b : Bool) → (c == 76) ≡ b → (if b then Some 5 else (if nat_le 48 c && nat_le c 52 then Some (c - 48) else None)) ≡ Some week → week_text week ≡ c
    at true last is = ap week_text (sym (same_value 5 week is)) ∙ sym (eqb-true c 76 last)
    at false other is =
        let parts = guarded (nat_le 48 c && nat_le c 52) (Some (c - 48)) week is in
        let range = and_parts (nat_le 48 c) (nat_le c 52) parts.0 in
        week_digit c week (leb-true 48 c range.0) (leb-true c 52 range.1) (same_value (c - 48) week parts.1)

weekday_item_spelled : (t : List ℕ) (item : CalendarItem) → weekday_item_of t ≡ Some item → item_text item ≡ 119 ∷ t
weekday_item_spelled [] item is = absurd (cc is)
weekday_item_spelled (c ∷ name) item is =
    let week = chained (λ (week : ℕ). option_map (λ (day : ℕ). Weekday week day) (weekday_named name)) (week_of c) item is in
    let day = mapped (λ (day : ℕ). Weekday week.0 day) (weekday_named name) item week.2 in
    ap item_text (sym day.2) ∙ ap₂ (λ (w : ℕ) (d : List ℕ). 119 ∷ w ∷ d) (week_spelled c week.0 week.1) (weekday_spelled name day.0 day.1)

-- the last day of a month is 0, and no other is
numbered : (day : ℕ) → 1 ≤ day → month_day_text day ≡ decimal day
numbered day some = at (day == 0) refl
  where
    at : (b : Bool) → (day == 0) ≡ b → (if b then codes "L" else decimal day) ≡ decimal day
    at true last = let none = eqb-true day 0 last in absurd (omega arith)
    at false other = refl

month_day_spelled : (t : List ℕ) (day : ℕ) → month_day_of t ≡ Some day → month_day_text day ≡ t
month_day_spelled t day = word_or month_day_text (codes "L") 0 _ t day refl number
  where
    number : option_and_then (λ day. if nat_le 1 day then Some day else None) (number_up_to 31 t) ≡ Some day → month_day_text day ≡ t
    number is =
        let found = chained (λ (n : ℕ). if nat_le 1 n then Some n else None) (number_up_to 31 t) day is in
        let kept = guarded (nat_le 1 found.0) (Some found.0) day found.2 in
        ap month_day_text (sym (same_value found.0 day kept.1)) ∙ numbered found.0 (leb-true 1 found.0 kept.0) ∙ number_up_to_spelled 31 t found.0 found.1

-- an item whose first character tells what it is
led_by : {A : Type 0} (write : A → List ℕ) (make : A → CalendarItem) (read : List ℕ → Option A) (letter : ℕ) → ((t : List ℕ) (x : A) → read t ≡ Some x → write x ≡ t) → ((x : A) → item_text (make x) ≡ letter ∷ write x) → (t : List ℕ) (item : CalendarItem) → option_map make (read t) ≡ Some item → item_text item ≡ letter ∷ t
led_by write make read letter one writes t item is =
    let value = mapped make (read t) item is in
    ap item_text (sym value.2) ∙ writes value.0 ∙ ap (λ (l : List ℕ). letter ∷ l) (one t value.0 value.1)

-- a choice by the first character
led_or : (c letter : ℕ) (t : List ℕ) (this other : Option CalendarItem) (item : CalendarItem) → (this ≡ Some item → item_text item ≡ letter ∷ t) → (other ≡ Some item → item_text item ≡ c ∷ t) → (if c == letter then this else other) ≡ Some item → item_text item ≡ c ∷ t
led_or c letter t this other item first rest = at (c == letter) refl
  where
    at : (b : Bool) → (c == letter) ≡ b → (if b then this else other) ≡ Some item → item_text item ≡ c ∷ t
    at true same is = first is ∙ ap (λ (d : ℕ). d ∷ t) (sym (eqb-true c letter same))
    at false differs is = rest is

pub item_spelled : (t : List ℕ) (item : CalendarItem) → calendar_item_of t ≡ Some item → item_text item ≡ t
item_spelled [] item is = absurd (cc is)
item_spelled (c ∷ t) item is =
    led_or c 100 t (option_map Date (day_of t)) _ item (led_by day_text Date day_of 100 day_spelled (λ x. refl) t item) (
    led_or c 120 t (option_map Exclude (day_of t)) _ item (led_by day_text Exclude day_of 120 day_spelled (λ x. refl) t item) (
    led_or c 119 t (weekday_item_of t) _ item (weekday_item_spelled t item) (
    led_or c 109 t (option_map MonthDay (month_day_of t)) None item (led_by month_day_text MonthDay month_day_of 109 month_day_spelled (λ x. refl) t item) (λ none. absurd (cc none))))) is

pub calendar_spelled : (t : List ℕ) (c : List CalendarItem) → calendar_of t ≡ Some c → calendar_text c ≡ t
calendar_spelled t c is = parts_joined t (map item_text c) (parts_spelled calendar_item_of item_text item_spelled 64 t c is)

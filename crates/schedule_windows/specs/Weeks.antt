-- Windows as arithmetic modulo a week of 604,800 seconds, which begins as Sunday does.
use Rattle.std.specs.Prelude.{ℕ, ℤ, pos, ◌+◌, ◌-◌, ◌*◌, ◌%◌, ◌+ℤ◌, ◌-ℤ◌, Bool, nat_lt, List, [], ◌∷◌, map, Option, Some, None, unsigned_abs, if◌then◌else◌}
use Rattle.std.specs.Int.{int_rem_euclid}
use Rattle.site_types.specs.declared.window.Window.{Window}
use Rattle.site_types.specs.declared.window.Windows.{Windows}
use Rattle.site_types.specs.declared.window.Windows.TheVariants.{Always, Listed}
use Rattle.schedule_windows.specs.declared.civil.Civil.{Civil}
use Rattle.schedule_windows.specs.declared.week.Opening.{Opening}
use Rattle.schedule_windows.specs.declared.week.WeekSpan.{WeekSpan}
use Rattle.schedule_windows.specs.Zones.{civil_count}

-- a part of each week: the second of the week at which it opens, and its length
abbrev pub span : ℕ → ℕ → WeekSpan
span opens length = record { opens = opens; length = length }

-- a window as such a part
abbrev pub window_span : Window → WeekSpan
window_span w = span (w.weekday * 86_400 + w.start) w.length

-- a window for each weekday, a whole day long
abbrev pub whole_days : List WeekSpan
whole_days = span 0 86_400 ∷ span 86_400 86_400 ∷ span 172_800 86_400 ∷ span 259_200 86_400 ∷ span 345_600 86_400 ∷ span 432_000 86_400 ∷ span 518_400 86_400 ∷ []

-- the windows in their order
abbrev pub spans : Windows → List WeekSpan
spans Always = whole_days
spans (Listed windows) = map window_span windows

-- the weekday of a day since 1970-01-01, which was a Thursday. 0 is Sunday
abbrev pub weekday_of : ℤ → ℕ
weekday_of day = unsigned_abs (int_rem_euclid (day +ℤ pos 4) (pos 7))

-- the second of the week of a civil time
abbrev pub second_of_week : Civil → ℕ
second_of_week c = weekday_of c.day * 86_400 + c.second

-- how many seconds ago a window last opened, by the remainder modulo a week
abbrev pub since : WeekSpan → ℕ → ℕ
since w second = (second + 604_800 - w.opens) % 604_800

-- the window is open at a civil time
abbrev pub is_open : Civil → WeekSpan → Bool
is_open c w = nat_lt (since w (second_of_week c)) w.length

-- the civil second at which it opened
abbrev pub opened : Civil → WeekSpan → ℤ
opened c w = civil_count c -ℤ pos (since w (second_of_week c))

-- that second, if the window is open
abbrev pub start_if_open : Civil → WeekSpan → Option ℤ
start_if_open c w = if is_open c w then Some (opened c w) else None

-- the first of these windows that is open, where the first of them has number n
abbrev pub first_open : ℕ → Civil → List WeekSpan → Option Opening
first_open n c [] = None
first_open n c (w ∷ later) = if is_open c w then Some (record { window = n; started = opened c w }) else first_open (n + 1) c later

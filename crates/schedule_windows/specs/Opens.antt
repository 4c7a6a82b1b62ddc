-- When a window opens next.
use Rattle.std.specs.Prelude.{◌≡◌, ℕ, ◌+◌, ◌≤◌, ◌<◌, ◌%◌, nat_lt, Bool, true, false, List, Option}
use Rattle.std.specs.List.{list_any}
use Rattle.std.specs.Option.{MatchOption}
use Rattle.site_types.specs.declared.window.Windows.{Windows}
use Rattle.schedule_windows.specs.declared.week.WeekSpan.{WeekSpan}
use Rattle.schedule_windows.specs.Weeks.{is_open, since, spans}
use Rattle.schedule_windows.specs.Zones.{ZoneOf, civil_at}

-- one of the windows is open at a moment, by the zone's clock
unfoldable pub is_open_at : Windows → ZoneOf → ℕ → Bool
is_open_at windows zone moment = list_any (is_open (civil_at zone moment)) (spans windows)

-- none is open from one moment on and before another
pub record IsClosedBetween (windows : Windows) (zone : ZoneOf) (from until : ℕ) : Type 0 where
  pub closed : (m : ℕ) → from ≤ m → m < until → is_open_at windows zone m ≡ false

-- the least moment from this one on at which one is open
pub record IsNextOpen (windows : Windows) (zone : ZoneOf) (moment found : ℕ) : Type 0 where
  pub later : moment ≤ found
  pub soon : found < moment + 1_209_600
  pub open_then : is_open_at windows zone found ≡ true
  pub least : IsClosedBetween windows zone moment found

-- that moment within two weeks, and none exactly where there is none
abbrev pub IsNextOpenIfAny : Windows → ZoneOf → ℕ → Option ℕ → Type 0
IsNextOpenIfAny windows zone moment found = MatchOption found (IsClosedBetween windows zone moment (moment + 1_209_600)) (IsNextOpen windows zone moment)

-- a window is open so many seconds after the beginning of some week
abbrev pub is_span_open : ℕ → WeekSpan → Bool
is_span_open count w = nat_lt (since w (count % 604_800)) w.length

-- one of the windows is
unfoldable pub is_open_after : List WeekSpan → ℕ → Bool
is_open_after windows count = list_any (is_span_open count) windows

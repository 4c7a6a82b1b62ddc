-- When a schedule is due.
use Rattle.std.specs.Prelude.{ℕ, ℤ, pos, ◌+◌, Bool, true, ◌&&◌, nat_le, int_lt, Option, Some, None}
use Rattle.std.specs.List.{list_any}
use Rattle.std.specs.Int.{int_div_euclid}
use Rattle.site_types.specs.declared.schedule.Mode.{Mode}
use Rattle.site_types.specs.declared.schedule.Mode.TheVariants.{Frequency, Calendar}
use Rattle.site_types.specs.declared.schedule.Schedule.{Schedule}
use Rattle.schedule_windows.specs.declared.civil.Civil.{Civil}
use Rattle.schedule_windows.specs.declared.schedule.Last.{Last}
use Rattle.schedule_windows.specs.declared.week.WeekSpan.{WeekSpan}
use Rattle.schedule_windows.specs.RunDays.{is_run_day}
use Rattle.schedule_windows.specs.Weeks.{is_open, opened, spans}
use Rattle.schedule_windows.specs.Zones.{civil_count}

-- so many seconds have passed since the last image, or there is none
abbrev pub has_passed : Option Last → ℕ → ℕ → Bool
has_passed None seconds moment = true
has_passed (Some last) seconds moment = nat_le (last.time + seconds) moment

-- the last image was made before this civil second, or there is none
abbrev pub is_before : Option Last → ℤ → Bool
is_before None start = true
is_before (Some last) start = int_lt (civil_count last.civil) start

-- the schedule comes round at a moment, in a window that opened at this civil second
abbrev pub comes_round : Mode → Option Last → ℕ → ℤ → Bool
comes_round (Frequency seconds) last moment start = has_passed last seconds moment
comes_round (Calendar items) last moment start = is_run_day items (int_div_euclid start (pos 86_400)) && is_before last start

-- it is due in one of its windows: the window is open, and the schedule comes round in it
abbrev pub is_due_in : Schedule → Option Last → ℕ → Civil → WeekSpan → Bool
is_due_in schedule last moment now w = is_open now w && comes_round schedule.mode last moment (opened now w)

-- it is due in some of its windows
abbrev pub is_due : Schedule → Option Last → ℕ → Civil → Bool
is_due schedule last moment now = list_any (is_due_in schedule last moment now) (spans schedule.windows)

-- The names that most proofs here cite, passed on from one place.
pub use Rattle.std.proofs.Common.{Bool, IsTrue, List, None, Option, Some, add-one, ap, arith, cond, drop, false, inl, inr, neg_ℤ, negsuc, not, option_map, pos, refl, rules, subst, suc, sym, take, true, unsigned_abs, zero, ℕ, ℤ, ◌%◌, ◌&&◌, ◌*◌, ◌+ℤ◌, ◌+◌, ◌-ℤ◌, ◌-◌, ◌/◌, ◌<ℤ◌, ◌<◌, ◌∙◌, ◌∷◌, ◌≡◌, ◌≤ℤ◌, ◌≤◌, FitsSigned, of_z, to_z, w32, w64}
pub use Rattle.schedule_windows.specs.Weeks.{first_open, is_open, opened, second_of_week, since, spans, start_if_open, weekday_of}
pub use Rattle.std.specs.List.{list_any}
pub use Rattle.std.specs.Prelude.{if◌then◌else◌, int_le, int_lt, nat_lt, slice_get, ◌||◌}
pub use Rattle.std.proofs.lemmas.Bool.Decides.{leb_tells, nat_tests}
pub use Rattle.jiff_core.proofs.SignedLemmas.{signed_arith, signed_casts}
pub use Rattle.jiff_tz.specs.Year.{year_of_day, year_of_nanos}
pub use Rattle.schedule_windows.specs.Opens.{IsClosedBetween, is_span_open}
pub use Rattle.schedule_windows.specs.Zones.{FixedOffset, PosixRule, ZoneOf, civil_of, read_offset_at, rule_offset_at}
pub use Rattle.std.proofs.lemmas.Bool.{cond-true, false_from_ne_true, or_right, true_from_ne_false}
pub use Rattle.std.proofs.lemmas.Int.{by_lt_z, to_z-of_z}
pub use Rattle.schedule_windows.specs.RunDays.{YearMonthDay, date_in_year, excludes, is_run_day, names, year_month_day}
pub use Rattle.schedule_windows.specs.Schedules.{comes_round, is_before, is_due_in}
pub use Rattle.jiff_core.specs.Timestamp.{nanos_of_seconds}
pub use Rattle.std.specs.Int.{int_div_euclid, int_rem_euclid, w128, w16}
pub use Rattle.schedule_windows.specs.declared.week.WeekSpan.{WeekSpan}
pub use Rattle.jiff_tz.specs.PosixRule.{dst_at_by, in_window, match_some, next_at, next_by, next_year, ordered, transition_of, transition_view}

use Rattle.schedule_windows.proofs.Common.{◌∙◌, sym, refl, true, false, w64, to_z-of_z, list_any, year_month_day, excludes}
use Rattle.schedule_windows.proofs.Dates.{is_run_day-by}
use Rattle.schedule_windows.proofs.calendar.is_run_day.Goals as goal

pub returns-then-is_named : goal.returns-then-is_named
returns-then-is_named c =
    is_run_day-by c.args.items.now c.args.day _ (year_month_day c.date_of-date.result) c.weekday_of.result true c.is_excluded.result (to_z-of_z w64 c.args.day c.ranges.day) c.date_of-date.ensures c.weekday_of.ensures.value (sym c.if-is_named.true ∙ c.is_named.ensures) c.is_excluded.ensures

pub returns-else-is_named : goal.returns-else-is_named
returns-else-is_named c =
    c.if-is_named.false
    ∙ is_run_day-by c.args.items.now c.args.day _ (year_month_day c.date_of-date.result) c.weekday_of.result false (list_any (excludes (year_month_day c.date_of-date.result)) c.args.items.now) (to_z-of_z w64 c.args.day c.ranges.day) c.date_of-date.ensures c.weekday_of.ensures.value (sym c.if-is_named.false ∙ c.is_named.ensures) refl

use Rattle.schedule_windows.proofs.Common.{◌∙◌, sym, refl, true, false, FitsSigned, w64, rules, to_z-of_z, is_before}
use Rattle.schedule_windows.proofs.Rounds.{calendar_round}
use Rattle.schedule_windows.proofs.schedule.comes_round.Goals as goal

pub returns-then-is_run_day : goal.returns-then-is_run_day
returns-then-is_run_day c =
    let fits : FitsSigned w64 c.div_euclid.result = search rules in
    calendar_round c.args.mode.now c.in-Calendar.items c.as_slice.result.now c.args.last c.args.moment c.args.started _ c.div_euclid.result _ true c.is_before.result c.in-Calendar.is c.as_slice.ensures (to_z-of_z w64 c.args.started c.ranges.started) (to_z-of_z w64 c.div_euclid.result fits) c.div_euclid.ensures (sym c.if-is_run_day.true ∙ c.is_run_day.ensures) c.is_before.ensures

pub returns-else-is_run_day : goal.returns-else-is_run_day
returns-else-is_run_day c =
    let fits : FitsSigned w64 c.div_euclid.result = search rules in
    c.if-is_run_day.false
    ∙ calendar_round c.args.mode.now c.in-Calendar.items c.as_slice.result.now c.args.last c.args.moment c.args.started _ c.div_euclid.result _ false (is_before c.args.last _) c.in-Calendar.is c.as_slice.ensures (to_z-of_z w64 c.args.started c.ranges.started) (to_z-of_z w64 c.div_euclid.result fits) c.div_euclid.ensures (sym c.if-is_run_day.false ∙ c.is_run_day.ensures) refl

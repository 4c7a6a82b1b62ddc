use Rattle.schedule_windows.proofs.Common.{◌∙◌, sym, FitsSigned, w64, rules, to_z-of_z}
use Rattle.schedule_windows.proofs.Rounds.{is_due_in-open}
use Rattle.schedule_windows.proofs.schedule.is_due_in.Goals as goal

pub returns-in-Some : goal.returns-in-Some
returns-in-Some c =
    let fits : FitsSigned w64 c.in-Some.started = search rules in
    is_due_in-open c.args.schedule.now c.args.last c.args.moment c.args.now c.args.span c.in-Some.started _ c.comes_round.result (sym c.start_if_open.ensures.value ∙ c.in-Some.is) (to_z-of_z w64 c.in-Some.started fits) c.comes_round.ensures

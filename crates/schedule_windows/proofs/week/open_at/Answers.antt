use Rattle.schedule_windows.proofs.Common.{◌∙◌, sym, ap, ℤ, FitsSigned, w64, rules, to_z-of_z, spans}
use Rattle.std.specs.Prelude.{Some}
use Rattle.schedule_windows.proofs.Walks.{first_open_here, first_open_later}
use Rattle.schedule_windows.proofs.week.open_at.Goals as goal

pub returns-in-Some : goal.returns-in-Some
returns-in-Some c =
    let fits : FitsSigned w64 c.in-Some.started = search rules in
    ap (λ (s : ℤ). Some (record { window = c.loop-index.index; started = s })) (to_z-of_z w64 c.in-Some.started fits)
    ∙ sym (first_open_here c.args.now (spans c.args.windows.now) c.loop-index.index c.span_at.result c.in-Some.started c.span_at.ensures.value (sym c.start_if_open.ensures.value ∙ c.in-Some.is))
    ∙ sym c.loop-index.invariant

pub loop-index-preserved : goal.loop-index-preserved
loop-index-preserved c = c.loop-index.invariant ∙ first_open_later c.args.now (spans c.args.windows.now) c.loop-index.index c.span_at.result c.span_at.ensures.value (sym c.start_if_open.ensures.value ∙ c.in_default.is)

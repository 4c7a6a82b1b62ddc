use Rattle.schedule_windows.proofs.Common.{◌∙◌, sym, is_due_in, spans}
use Rattle.schedule_windows.proofs.Walks.{any_neither, any_at}
use Rattle.schedule_windows.proofs.schedule.due.Goals as goal

pub returns-then-is_due_in : goal.returns-then-is_due_in
returns-then-is_due_in c = sym (any_at (is_due_in c.args.schedule.now c.args.last c.args.moment c.args.now) (spans c.args.schedule.now.windows) c.loop-index.index c.span_at.result c.span_at.ensures.value (sym c.is_due_in.ensures ∙ c.if-is_due_in.true))

pub loop-index-preserved : goal.loop-index-preserved
loop-index-preserved c = any_neither (is_due_in c.args.schedule.now c.args.last c.args.moment c.args.now) (spans c.args.schedule.now.windows) c.loop-index.index c.span_at.result c.span_at.ensures.value c.loop-index.invariant (sym c.is_due_in.ensures ∙ c.if-is_due_in.false)

use Rattle.schedule_windows.proofs.Common.{◌≡◌, take, false, list_any, spans, is_due_in}
use Rattle.schedule_windows.proofs.schedule.due.Given as goal

abbrev pub invariant-loop-index : goal.invariant-loop-index
invariant-loop-index l = list_any (is_due_in l.schedule l.last l.moment l.now) (take l.index (spans l.schedule.windows)) ≡ false

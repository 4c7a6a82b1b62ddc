use Rattle.schedule_windows.proofs.Common.{◌≡◌, false, take, list_any, is_open, spans}
use Rattle.schedule_windows.proofs.week.is_any_open.Given as goal

abbrev pub invariant-loop-index : goal.invariant-loop-index
invariant-loop-index l = list_any (is_open l.now) (take l.index (spans l.windows)) ≡ false

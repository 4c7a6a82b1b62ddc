use Rattle.schedule_windows.proofs.Common.{◌≡◌, drop, first_open, spans}
use Rattle.schedule_windows.proofs.week.open_at.Given as goal

abbrev pub invariant-loop-index : goal.invariant-loop-index
invariant-loop-index l = first_open 0 l.now (spans l.windows) ≡ first_open l.index l.now (drop l.index (spans l.windows))

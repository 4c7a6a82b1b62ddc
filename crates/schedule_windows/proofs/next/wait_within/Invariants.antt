use Rattle.schedule_windows.proofs.Common.{◌≡◌, ◌+◌, ◌<◌, ◌≤◌, ℕ, take, true, false, spans}
use Rattle.schedule_windows.specs.Opens.{is_open_after}
use Rattle.schedule_windows.proofs.next.wait_within.Given as goal

abbrev pub invariant-loop-index : goal.invariant-loop-index
invariant-loop-index l = record {
  range : l.least ≤ l.limit;
  closed : (k : ℕ) → k < l.least → is_open_after (take l.index (spans l.windows)) (l.count + k) ≡ false;
  open_then : l.least < l.limit → is_open_after (take l.index (spans l.windows)) (l.count + l.least) ≡ true;
}

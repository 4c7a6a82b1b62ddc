use Rattle.schedule_windows.proofs.Common.{◌-◌, ◌≤◌, IsClosedBetween}
use Rattle.schedule_windows.proofs.next.next_open.Given as goal

abbrev pub invariant-loop-at : goal.invariant-loop-at
invariant-loop-at l = record {
  low : l.moment ≤ l.at;
  high : l.at ≤ l.end;
  closed : IsClosedBetween l.windows l.zone l.moment l.at;
}

abbrev pub decreases-loop-at : goal.decreases-loop-at
decreases-loop-at l = l.end - l.at

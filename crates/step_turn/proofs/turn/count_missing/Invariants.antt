use Rattle.std.proofs.Common.{◌≡◌, ◌≤◌}
use Rattle.step_turn.specs.Seats.{missing}
use Rattle.step_turn.proofs.turn.count_missing.Given as goal

abbrev pub invariant-loop-number : goal.invariant-loop-number
invariant-loop-number g l = (l.out ≡ missing l.number l.seats) × (l.out ≤ l.number)

use Rattle.std.proofs.Common.{◌≡◌}
use Rattle.step_turn.proofs.tests.calls_from.Given as goal

abbrev pub invariant-loop-call : goal.invariant-loop-call
invariant-loop-call g l = l.seat.turn ≡ l.turn.id

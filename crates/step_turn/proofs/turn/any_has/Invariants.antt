use Rattle.std.proofs.Common.{◌≡◌, ◌||◌, drop}
use Rattle.step_turn.specs.Seats.{has_number}
use Rattle.step_turn.proofs.turn.any_has.Given as goal

abbrev pub invariant-loop-seat : goal.invariant-loop-seat
invariant-loop-seat g l = (l.found || has_number l.number (drop l.seat-index l.seats)) ≡ has_number l.number l.seats

use Rattle.std.proofs.Common.{◌≡◌}
use Rattle.step_turn.specs.Order.{Waits}
use Rattle.step_turn.proofs.turn.Turn.wait_for.Given as goal

abbrev pub invariant-loop : goal.invariant-loop
invariant-loop g l = (l.place.table_id ≡ l.initial.place.table_id) × (l.place.id ≡ l.initial.place.id) × Waits l.initial.place.me l.place.me

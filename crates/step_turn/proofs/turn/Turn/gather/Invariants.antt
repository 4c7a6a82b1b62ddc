use Rattle.std.proofs.Common.{◌≡◌, length}
use Rattle.step_turn.specs.Seats.{AreOf}
use Rattle.step_turn.specs.Order.{Gathers}
use Rattle.step_turn.proofs.turn.Turn.gather.Given as goal

abbrev pub invariant-loop-seat : goal.invariant-loop-seat
invariant-loop-seat g l = (l.place.table_id ≡ l.initial.place.table_id) × (l.place.id ≡ l.initial.place.id) × AreOf l.self.id l.seats.items × Gathers l.initial.place.me l.place.me l.initial.seats.items l.seats.items

abbrev pub decreases-loop-seat : goal.decreases-loop-seat
decreases-loop-seat g l = length l.seats.items

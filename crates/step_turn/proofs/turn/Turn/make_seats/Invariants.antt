use Rattle.std.proofs.Common.{◌≡◌, ◌-◌, ◌≤◌, [], length}
use Rattle.std.specs.Prelude.{vec_capacity}
use Rattle.step_turn.specs.Seats.{AreNew}
use Rattle.step_turn.specs.Order.{making}
use Rattle.step_turn.proofs.turn.Turn.make_seats.Given as goal

abbrev pub invariant-loop-number : goal.invariant-loop-number
invariant-loop-number g l =
    (l.maker.table_id ≡ l.initial.maker.table_id) × (l.maker.me ≡ (making l.self.seats (l.self.seats - l.number), []))
    × (length l.made.items ≡ l.number) × (l.self.seats ≤ vec_capacity l.made) × AreNew l.self.id 0 l.made.items

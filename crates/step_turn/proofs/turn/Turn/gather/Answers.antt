use Rattle.std.proofs.Common.{◌≡◌, [], ◌∷◌, refl, sym, ap, ◌∙◌, subst, arith, rules}
use Rattle.step_turn.specs.Seats.{SeatValue, AreOf}
use Rattle.step_turn.specs.Order.{view_of, at_rest, joined, Gathers}
use Rattle.step_turn.proofs.Calling.{placed}
use Rattle.step_turn.proofs.Closing.{gathers_first, gathers_more, every_front, every_last}
use Rattle.step_turn.proofs.Making.{joins}
use Rattle.step_turn.proofs.turn.Turn.gather.Goals as goal

pub loop-seat-init : goal.loop-seat-init
loop-seat-init g c = (refl, refl, c.requires.turn, gathers_first _ c.requires.place.2.0 [] _ c.requires.place.1 c.requires.place.2.1)

pub loop-seat-preserved : goal.loop-seat-preserved
loop-seat-preserved g c =
    let i = c.loop-seat.invariant in
    let j = c.into_seat-joining.ensures in
    let number = c.seat.inside.number in
    let f = placed (at_rest number) c.seat.inside.badge.views c.seat.inside.badge.views c.into_seat-joining.result.me c.seat.invariant refl j.2 j.3 in
    let me = c.loop-seat.place.me in (
      c.join_seat.ensures.0 ∙ i.0,
      c.join_seat.ensures.1 ∙ i.1,
      every_front (λ (x : SeatValue g.row.S-Asked.Denot g.row.S-Answer.Denot). x.turn ≡ c.args.self.now.id) c.pop.new.self.items (c.in-Some.seat ∷ []) (subst (AreOf c.args.self.now.id) c.in-Some.ensures.items i.2),
      gathers_more _ me c.join_seat.new.seat.me _ _ _ c.in-Some.seat number (view_of c.seat.inside.badge.views) c.seat.inside.badge.table_id i.3 c.in-Some.ensures.items c.seat.view_is
          (c.join_seat.ensures.2 ∙ (λ k. (joined me.0 (f k).0, me.1))),
    )

pub into_seat-joining-requires : goal.into_seat-joining-requires
into_seat-joining-requires g c = (_, c.seat.invariant)

pub join_seat-requires : goal.join_seat-requires
join_seat-requires g c =
    let i = c.loop-seat.invariant in
    let j = c.into_seat-joining.ensures in
    let number = c.seat.inside.number in
    let f = placed (at_rest number) c.seat.inside.badge.views c.seat.inside.badge.views c.into_seat-joining.result.me c.seat.invariant refl j.2 j.3 in
    let id = ap (λ t. t.id) (sym c.self.view_is) in
    let of = every_last (λ (x : SeatValue g.row.S-Asked.Denot g.row.S-Answer.Denot). x.turn ≡ c.args.self.now.id) c.pop.new.self.items c.in-Some.seat (subst (AreOf c.args.self.now.id) c.in-Some.ensures.items i.2) in (
      i.0 ∙ c.requires.place.0 ∙ id,
      j.0 ∙ ap (λ x. x.turn) c.seat.view_is ∙ of ∙ id,
      j.3,
      omega (arith, c.self.invariant.1),
      joins g.S.Steps.meaning _ _ _ _ _ _ i.3.chair i.3.chairs i.3.chairs_are i.3.idle.1 i.3.idle.2 i.3.idle.3 (ap (λ m. m.0.ticket) f) (ap (λ m. m.0.has_turn) f) (ap (λ m. m.0.to_make) f),
    )

pub returns-clause-gathers : goal.returns-clause-gathers
returns-clause-gathers g c =
    let left : c.loop-seat.seats.items ≡ [] = search rules in
    subst (λ xs. Gathers c.args.place.now.me c.loop-seat.place.me c.args.seats.items xs) left c.loop-seat.invariant.3

use Rattle.std.proofs.Common.{◌≡◌, ◌+◌, [], ◌∷◌, Some, refl, sym, ap, ◌∙◌, subst}
use Rattle.step_turn.specs.Histories.{IsLegal, Reaches}
use Rattle.step_turn.specs.Seats.{SeatValue, Answered}
use Rattle.step_turn.specs.Order.{view_of, own_of, at_rest, with_ticket, Looked}
use Rattle.step_turn.proofs.Calling.{placed, has_begun, ends}
use Rattle.step_turn.proofs.turn.Turn.call.Goals as goal

pub into_seat-place-requires : goal.into_seat-place-requires
into_seat-place-requires g c = (_, ap (λ b. b.views) c.replace.ensures.value ∙ c.seat.invariant)

pub wait-number-requires-clause-place : goal.wait-number-requires-clause-place
wait-number-requires-clause-place g c =
    let i = c.into_seat-place.ensures in
    let e = placed (at_rest c.seat.inside.number) c.seat.inside.badge.views c.replace.result.views c.into_seat-place.result.me c.seat.invariant (ap (λ b. b.views) c.replace.ensures.value) i.2 i.3 in
    (i.0 ∙ ap (λ b. b.table_id) c.replace.ensures.value ∙ ap (λ x. x.turn) c.seat.view_is ∙ c.requires.seat, ap (λ m. m.0.ticket) e)

pub wait-number-requires-clause-waits : goal.wait-number-requires-clause-waits
wait-number-requires-clause-waits g c =
    let i = c.into_seat-place.ensures in
    let e = placed (at_rest c.seat.inside.number) c.seat.inside.badge.views c.replace.result.views c.into_seat-place.result.me c.seat.invariant (ap (λ b. b.views) c.replace.ensures.value) i.2 i.3 in
    ((_, ap (λ m. m.0.chairs) e), ap (λ m. m.0.has_turn) e, i.3)

pub take_turn-answer-requires-clause-place : goal.take_turn-answer-requires-clause-place
take_turn-answer-requires-clause-place g c =
    let M = g.S.Steps.meaning in
    let start = c.args.self.now.start in
    let i = c.into_seat-place.ensures in
    let v = view_of c.seat.inside.badge.views in
    let e = placed (at_rest c.seat.inside.number) c.seat.inside.badge.views c.replace.result.views c.into_seat-place.result.me c.seat.invariant (ap (λ b. b.views) c.replace.ensures.value) i.2 i.3 in
    let l = subst (λ m. Looked (IsLegal M start) (Reaches M start) (with_ticket m.0 (Some c.wait-number.result), m.1) c.wait-number.result c.wait-number.new.place.me) e c.wait-number.ensures.looks in
    let b = has_begun M start v.seats c.seat.inside.number (own_of v) v.seen v.heard c.wait-number.result c.wait-number.new.place.me l in (
      c.wait-number.ensures.place.0 ∙ i.0 ∙ ap (λ b. b.table_id) c.replace.ensures.value ∙ ap (λ x. x.turn) c.seat.view_is ∙ c.requires.seat,
      (_, ap (λ m. m.0.chairs) b.1),
      ap (λ m. m.0.has_turn) b.1,
    )

pub take_turn-answer-requires-clause-holds : goal.take_turn-answer-requires-clause-holds
take_turn-answer-requires-clause-holds g c =
    let M = g.S.Steps.meaning in
    let start = c.args.self.now.start in
    let i = c.into_seat-place.ensures in
    let v = view_of c.seat.inside.badge.views in
    let e = placed (at_rest c.seat.inside.number) c.seat.inside.badge.views c.replace.result.views c.into_seat-place.result.me c.seat.invariant (ap (λ b. b.views) c.replace.ensures.value) i.2 i.3 in
    let l = subst (λ m. Looked (IsLegal M start) (Reaches M start) (with_ticket m.0 (Some c.wait-number.result), m.1) c.wait-number.result c.wait-number.new.place.me) e c.wait-number.ensures.looks in
    let b = has_begun M start v.seats c.seat.inside.number (own_of v) v.seen v.heard c.wait-number.result c.wait-number.new.place.me l in
    (b.0, ap (λ m. m.1) b.1, subst (λ m. Reaches M start m.0.seen b.0) (sym b.1) b.2)

pub into_badge-requires : goal.into_badge-requires
into_badge-requires g c = ap (λ m. m.1) c.take_turn-answer.ensures.advanced.3

pub invariant_of-seat : goal.invariant_of-seat
invariant_of-seat g c =
    let M = g.S.Steps.meaning in
    let start = c.args.self.now.start in
    let i = c.into_seat-place.ensures in
    let v = view_of c.seat.inside.badge.views in
    let e = placed (at_rest c.seat.inside.number) c.seat.inside.badge.views c.replace.result.views c.into_seat-place.result.me c.seat.invariant (ap (λ b. b.views) c.replace.ensures.value) i.2 i.3 in
    let l = subst (λ m. Looked (IsLegal M start) (Reaches M start) (with_ticket m.0 (Some c.wait-number.result), m.1) c.wait-number.result c.wait-number.new.place.me) e c.wait-number.ensures.looks in
    let d = ends M start v.seats c.seat.inside.number (own_of v) v.seen v.heard c.wait-number.result c.wait-number.new.place.me (g.S.StepsBy.asks c.args.question.now) c.take_turn-answer.result c.take_turn-answer.new.place.me l c.take_turn-answer.ensures.advanced in
    let rests = c.into_badge.ensures.2 ∙ ap (λ m. m.0 ∷ []) d.2 in
    subst (λ ws. ws ≡ at_rest c.seat.inside.number (view_of ws) ∷ []) (sym rests) refl

pub returns-clause-seat : goal.returns-clause-seat
returns-clause-seat g c =
    let i = c.into_seat-place.ensures in (
      ap (λ x. x.number) c.seat.view_is,
      c.into_badge.ensures.0 ∙ c.take_turn-answer.ensures.place.0 ∙ c.wait-number.ensures.place.0 ∙ i.0 ∙ ap (λ b. b.table_id) c.replace.ensures.value ∙ ap (λ x. x.turn) c.seat.view_is,
    )

pub returns-clause-answered : goal.returns-clause-answered
returns-clause-answered g c =
    let M = g.S.Steps.meaning in
    let start = c.args.self.now.start in
    let asked = g.S.StepsBy.asks c.args.question.now in
    let i = c.into_seat-place.ensures in
    let v = view_of c.seat.inside.badge.views in
    let e = placed (at_rest c.seat.inside.number) c.seat.inside.badge.views c.replace.result.views c.into_seat-place.result.me c.seat.invariant (ap (λ b. b.views) c.replace.ensures.value) i.2 i.3 in
    let l = subst (λ m. Looked (IsLegal M start) (Reaches M start) (with_ticket m.0 (Some c.wait-number.result), m.1) c.wait-number.result c.wait-number.new.place.me) e c.wait-number.ensures.looks in
    let d = ends M start v.seats c.seat.inside.number (own_of v) v.seen v.heard c.wait-number.result c.wait-number.new.place.me asked c.take_turn-answer.result c.take_turn-answer.new.place.me l c.take_turn-answer.ensures.advanced in
    let rests = c.into_badge.ensures.2 ∙ ap (λ m. m.0 ∷ []) d.2 in
    let same = c.into_badge.ensures.0 ∙ c.take_turn-answer.ensures.place.0 ∙ c.wait-number.ensures.place.0 ∙ i.0 ∙ ap (λ b. b.table_id) c.replace.ensures.value in
    let number = c.seat.inside.number in
    let count = c.wait-number.result + 1 in
    let answer = c.take_turn-answer.result in
    let id = c.into_badge.result.table_id in
    let old : SeatValue g.row.S-Asked.Denot g.row.S-Answer.Denot = record { number = number; seen = v.seen; own = own_of v; turn = c.seat.inside.badge.table_id } in
    let ws = c.into_badge.result.views in
    let new : SeatValue g.row.S-Asked.Denot g.row.S-Answer.Denot = record { number = number; seen = (view_of ws).seen; own = own_of (view_of ws); turn = id } in
    subst (λ x. Answered M start x asked count answer new) c.seat.view_is
    (subst (λ xs. Answered M start old asked count answer record { number = number; seen = (view_of xs).seen; own = own_of (view_of xs); turn = id }) (sym rests)
    (subst (λ t. Answered M start record { number = number; seen = v.seen; own = own_of v; turn = t } asked count answer record { number = number; seen = d.1; own = d.0; turn = id }) same (d.3 id)))

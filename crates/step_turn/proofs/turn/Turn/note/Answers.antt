use Rattle.std.proofs.Common.{◌≡◌, [], ◌∷◌, refl, sym, ap, ◌∙◌, subst, arith}
use Rattle.step_turn.specs.Seats.{SeatValue}
use Rattle.step_turn.specs.Order.{view_of, own_of, at_rest, noted, left_of, right_of}
use Rattle.step_turn.proofs.Calling.{placed}
use Rattle.step_turn.proofs.Making.{notes}
use Rattle.step_turn.proofs.turn.Turn.note.Goals as goal

pub into_seat-place-requires : goal.into_seat-place-requires
into_seat-place-requires g c = (_, ap (λ b. b.views) c.replace.ensures.value ∙ c.seat.invariant)

pub split_seat-note-requires : goal.split_seat-note-requires
split_seat-note-requires g c =
    let i = c.into_seat-place.ensures in
    let e = placed (at_rest c.seat.inside.number) c.seat.inside.badge.views c.replace.result.views c.into_seat-place.result.me c.seat.invariant (ap (λ b. b.views) c.replace.ensures.value) i.2 i.3 in (
      i.0 ∙ ap (λ b. b.table_id) c.replace.ensures.value ∙ ap (λ x. x.turn) c.seat.view_is ∙ c.requires.seat ∙ ap (λ t. t.id) (sym c.self.view_is),
      omega (arith, c.self.invariant.1),
      notes g.S.Steps.meaning _ _ _ _ (_, ap (λ m. m.0.chairs) e) (ap (λ m. m.0.to_make) e),
    )

pub into_badge-requires : goal.into_badge-requires
into_badge-requires g c = ap (λ m. m.1) c.split_seat-note.ensures.2 ∙ c.into_seat-place.ensures.3

pub invariant_of-seat : goal.invariant_of-seat
invariant_of-seat g c =
    let i = c.into_seat-place.ensures in
    let e = placed (at_rest c.seat.inside.number) c.seat.inside.badge.views c.replace.result.views c.into_seat-place.result.me c.seat.invariant (ap (λ b. b.views) c.replace.ensures.value) i.2 i.3 in
    let rests = c.into_badge.ensures.2 ∙ ap (λ m. m.0 ∷ []) (c.split_seat-note.ensures.2 ∙ ap (λ m. (left_of m.0, m.1)) e) in
    subst (λ ws. ws ≡ at_rest c.seat.inside.number (view_of ws) ∷ []) (sym rests) refl

pub invariant_of-result : goal.invariant_of-result
invariant_of-result g c =
    let i = c.into_seat-place.ensures in
    let e = placed (at_rest c.seat.inside.number) c.seat.inside.badge.views c.replace.result.views c.into_seat-place.result.me c.seat.invariant (ap (λ b. b.views) c.replace.ensures.value) i.2 i.3 in
    let rests = c.into_badge-2.ensures.2 ∙ ap (λ m. m.0 ∷ []) (c.split_seat-note.ensures.4 ∙ ap (λ m. (right_of m.0, [])) e) in
    subst (λ ws. ws ≡ noted (view_of ws).seats (view_of ws).seen ∷ []) (sym rests) refl

pub returns-clause-seat : goal.returns-clause-seat
returns-clause-seat g c =
    let i = c.into_seat-place.ensures in
    let e = placed (at_rest c.seat.inside.number) c.seat.inside.badge.views c.replace.result.views c.into_seat-place.result.me c.seat.invariant (ap (λ b. b.views) c.replace.ensures.value) i.2 i.3 in
    let rests = c.into_badge.ensures.2 ∙ ap (λ m. m.0 ∷ []) (c.split_seat-note.ensures.2 ∙ ap (λ m. (left_of m.0, m.1)) e) in
    let same = c.into_badge.ensures.0 ∙ c.split_seat-note.ensures.0 ∙ i.0 ∙ ap (λ b. b.table_id) c.replace.ensures.value in
    let path : ◌≡◌ {A = SeatValue g.row.S-Asked.Denot g.row.S-Answer.Denot} record { number = c.seat.inside.number; seen = (view_of c.into_badge.result.views).seen; own = own_of (view_of c.into_badge.result.views); turn = c.into_badge.result.table_id }
    record { number = c.seat.inside.number; seen = (view_of c.seat.inside.badge.views).seen; own = own_of (view_of c.seat.inside.badge.views); turn = c.seat.inside.badge.table_id }
    = λ k. record { number = c.seat.inside.number; seen = (view_of (rests k)).seen; own = own_of (view_of (rests k)); turn = same k } in
    path ∙ c.seat.view_is

pub returns-clause-note : goal.returns-clause-note
returns-clause-note g c =
    let i = c.into_seat-place.ensures in
    let e = placed (at_rest c.seat.inside.number) c.seat.inside.badge.views c.replace.result.views c.into_seat-place.result.me c.seat.invariant (ap (λ b. b.views) c.replace.ensures.value) i.2 i.3 in
    let rests = c.into_badge-2.ensures.2 ∙ ap (λ m. m.0 ∷ []) (c.split_seat-note.ensures.4 ∙ ap (λ m. (right_of m.0, [])) e) in (
      ap (λ ws. (view_of ws).seen) rests ∙ ap (λ x. x.seen) c.seat.view_is,
      c.into_badge-2.ensures.0 ∙ c.split_seat-note.ensures.3 ∙ i.0 ∙ ap (λ b. b.table_id) c.replace.ensures.value ∙ ap (λ x. x.turn) c.seat.view_is,
    )

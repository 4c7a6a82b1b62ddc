use Rattle.std.proofs.Common.{◌≡◌, suc, ◌+◌, ◌-◌, [], ◌∷◌, refl, sym, ap, ◌∙◌, subst, arith}
use Rattle.step_turn.specs.Order.{view_of, own_of, at_rest, making, left_of, right_of}
use Rattle.step_turn.proofs.Making.{makes_seat, next_seat}
use Rattle.step_turn.proofs.turn.Turn.seat.Goals as goal

pub split_seat-place-requires : goal.split_seat-place-requires
split_seat-place-requires g c =
    let seats : c.args.self.now.seats ≡ c.self.inside.table.shared.key.seats = ap (λ t. t.seats) (sym c.self.view_is) ∙ sym c.self.invariant.0 in
    let left : c.args.self.now.seats - c.args.number ≡ suc (c.args.self.now.seats - (c.args.number + 1)) = omega (arith, c.requires.left) in (
      c.requires.maker.0 ∙ ap (λ t. t.id) (sym c.self.view_is),
      omega (arith, c.self.invariant.1),
      makes_seat g.S.Steps.meaning _ _ _ (c.args.self.now.seats - (c.args.number + 1)) _ (ap (λ m. m.0) c.requires.maker.1 ∙ (λ k. making (seats k) (left k))),
    )

pub into_badge-requires : goal.into_badge-requires
into_badge-requires g c = ap (λ m. m.1) c.split_seat-place.ensures.4

pub returns-clause-maker : goal.returns-clause-maker
returns-clause-maker g c =
    let less : c.args.self.now.seats - c.args.number - 1 ≡ c.args.self.now.seats - (c.args.number + 1) = omega arith in
    (c.split_seat-place.ensures.0, c.split_seat-place.ensures.2 ∙ ap (λ m. (left_of m.0, m.1)) c.requires.maker.1 ∙ ap (λ n. (making c.args.self.now.seats n, [])) less)

pub invariant_of-result : goal.invariant_of-result
invariant_of-result g c =
    let rests = c.into_badge.ensures.2 ∙ ap (λ m. m.0 ∷ []) c.split_seat-place.ensures.4 ∙ ap (λ m. right_of m.0 ∷ []) c.requires.maker.1 ∙ ap (λ v. v ∷ []) (next_seat g.S.Steps.meaning c.args.self.now.start c.args.self.now.seats c.args.self.now.seats c.args.number c.requires.left) in
    subst (λ ws. ws ≡ at_rest c.args.number (view_of ws) ∷ []) (sym rests) refl

pub returns-clause-seat : goal.returns-clause-seat
returns-clause-seat g c =
    let rests = c.into_badge.ensures.2 ∙ ap (λ m. m.0 ∷ []) c.split_seat-place.ensures.4 ∙ ap (λ m. right_of m.0 ∷ []) c.requires.maker.1 ∙ ap (λ v. v ∷ []) (next_seat g.S.Steps.meaning c.args.self.now.start c.args.self.now.seats c.args.self.now.seats c.args.number c.requires.left) in
    let same = c.into_badge.ensures.0 ∙ c.split_seat-place.ensures.3 ∙ c.requires.maker.0 in
    λ k. record { number = c.args.number; seen = (view_of (rests k)).seen; own = own_of (view_of (rests k)); turn = same k }

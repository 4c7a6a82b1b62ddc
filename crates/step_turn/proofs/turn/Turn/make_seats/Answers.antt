use Rattle.std.proofs.Common.{◌≡◌, ◌+◌, ◌≤◌, ◌∷◌, [], length, sym, ap, ◌∙◌, subst, arith, length-append}
use Rattle.step_turn.specs.Seats.{AreNew}
use Rattle.step_turn.proofs.Making.{are_new-push}
use Rattle.step_turn.proofs.turn.Turn.make_seats.Goals as goal

pub loop-number-preserved : goal.loop-number-preserved
loop-number-preserved g c =
    let i = c.loop-number.invariant in
    let p = c.push_reserved.ensures in
    let s = c.seat.ensures in
    let id = c.args.self.now.id in
    let count : c.loop-number.number ≡ 0 + length c.loop-number.made.items = omega (arith, i.2) in (
      s.maker.0 ∙ i.0,
      s.maker.1,
      ap length p.items ∙ omega (arith, length-append c.loop-number.made.items (c.seat.result ∷ []), i.2),
      subst (λ n. c.args.self.now.seats ≤ n) (sym p.capacity) i.3,
      subst (λ xs. AreNew id 0 xs) (sym p.items) (are_new-push id 0 _ _ i.4 (s.seat ∙ (λ k. record { number = count k; seen = []; own = []; turn = id }))),
    )

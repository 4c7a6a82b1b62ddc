use Rattle.std.proofs.Common.{◌++◌, sym, ap, ◌∙◌, subst, arith}
use Rattle.step_turn.specs.Histories.{Reaches, turn_of}
use Rattle.step_turn.specs.Order.{first_number}
use Rattle.step_turn.proofs.Keeping.{advances}
use Rattle.step_turn.proofs.turn.Turn.advance_as.Goals as goal

pub fetch_add-requires : goal.fetch_add-requires
fetch_add-requires g c =
    let m = c.requires.made in
    let seat = c.requires.place.1 in (
      c.requires.place.0 ∙ ap (λ t. t.id) (sym c.self.view_is),
      omega (arith, c.self.invariant.1),
      advances g.S.Steps.meaning _ _ g.J.Making.made _ _ _ m.0 m.1 m.2 seat c.requires.place.2 m.3 (m.4 ∙ ap first_number seat.1) (subst (λ o. Reaches g.S.Steps.meaning o (c.args.place.now.me.0.seen ++ turn_of m.1 m.2) m.0) (ap (λ t. t.start) (sym c.self.view_is)) m.5) m.6,
    )

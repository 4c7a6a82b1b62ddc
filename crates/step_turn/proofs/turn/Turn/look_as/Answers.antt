use Rattle.std.proofs.Common.{sym, ap, ◌∙◌, subst, arith}
use Rattle.step_turn.specs.Histories.{IsLegal, Reaches}
use Rattle.step_turn.proofs.Keeping.{looks}
use Rattle.step_turn.proofs.turn.Turn.look_as.Goals as goal

pub load-requires : goal.load-requires
load-requires g c =
    let M = g.S.Steps.meaning in
    let start = ap (λ t. t.start) c.self.view_is in (
      c.requires.place ∙ ap (λ t. t.id) (sym c.self.view_is),
      omega (arith, c.self.invariant.1),
      looks M _ _ g.J.Looking.legal g.J.Looking.reached (λ log h. c.requires.legal log (subst (λ o. IsLegal M o log) start h)) (λ log object h. c.requires.reached log object (subst (λ o. Reaches M o log object) start h)) _ _ _ c.requires.waits.0 c.requires.waits.1,
    )

use Rattle.std.proofs.Common.{sym, ap, ◌∙◌, subst, arith, rules}
use Rattle.step_turn.specs.Order.{HasChair}
use Rattle.step_turn.proofs.Keeping.{takes_ticket}
use Rattle.step_turn.proofs.turn.Turn.take_ticket.Goals as goal

pub compare_exchange-found-requires : goal.compare_exchange-found-requires
compare_exchange-found-requires g c =
    let i = c.loop.invariant in
    let me = c.loop.place.me in
    let same = sym i.2 in (
      i.0 ∙ c.requires.place.0 ∙ ap (λ t. t.id) (sym c.self.view_is),
      omega (arith, c.self.invariant.1),
      takes_ticket g.S.Steps.meaning _ _ _ _ me c.loop.ticket (subst (λ m. HasChair m.0) same c.requires.waits.0) (ap (λ m. m.0.ticket) i.2 ∙ c.requires.place.1) (ap (λ m. m.0.has_turn) i.2 ∙ c.requires.waits.1) (search rules),
    )

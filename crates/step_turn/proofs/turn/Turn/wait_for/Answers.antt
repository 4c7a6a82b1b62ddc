use Rattle.std.proofs.Common.{[], false, sym, ap, ◌∙◌, subst, rules}
use Rattle.step_turn.specs.Histories.{IsLegal, Reaches}
use Rattle.step_turn.specs.Order.{Looked}
use Rattle.step_turn.proofs.Keeping.{waits_on, waits_done, other_ticket}
use Rattle.step_turn.proofs.turn.Turn.wait_for.Goals.{in-None, in-Some+then-found-ticket}
use Rattle.step_turn.proofs.turn.Turn.wait_for.Goals as goal

pub look-found-requires-clause-waits : goal.look-found-requires-clause-waits
look-found-requires-clause-waits g c =
    let w = c.loop.invariant.2 in
    ((c.requires.waits.0.0, ap (λ v. v.chairs) (w.view [] false) ∙ c.requires.waits.0.1), w.idle)

pub loop-preserved : goal.loop-preserved
loop-preserved g c =
    let i = c.loop.invariant in
    let l = c.look-found.ensures in
    let other = other_ticket _ c.args.ticket c.look-found.result (ap (λ v. v.ticket) (i.2.view [] false) ∙ c.requires.ticket) c.if-found-ticket.false in
    (l.place.0 ∙ i.0, l.place.1 ∙ i.1, waits_on _ _ _ _ _ _ i.2 l.looks other)

pub returns-clause-looks : goal.returns-clause-looks
returns-clause-looks g c =
    let M = g.S.Steps.meaning in
    let start = c.args.self.now.start in
    elim c.match-next.branch [
      | in-None w ↦ search rules
      | in-Some+then-found-ticket w ↦
          subst (λ p. Looked (IsLegal M start) (Reaches M start) c.args.place.now.me c.args.ticket p.me) (sym w.place-is)
          (subst (λ n. Looked (IsLegal M start) (Reaches M start) c.args.place.now.me n w.look-found.new.place.me) w.if-found-ticket.true (waits_done _ _ _ _ _ _ c.loop.invariant.2 w.look-found.ensures.looks))
    ]

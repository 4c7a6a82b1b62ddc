use Rattle.std.proofs.Common.{subst}
use Rattle.step_turn.specs.Histories.{IsLegal, Reaches}
use Rattle.step_turn.specs.Order.{Looked}
use Rattle.step_turn.proofs.turn.Turn.wait.Goals as goal

pub returns-clause-looks : goal.returns-clause-looks
returns-clause-looks g c =
    let M = g.S.Steps.meaning in
    subst (λ m. Looked (IsLegal M c.args.self.now.start) (Reaches M c.args.self.now.start) m c.take_ticket-ticket.result c.wait_for.new.place.me) c.take_ticket-ticket.ensures.ticket c.wait_for.ensures.looks

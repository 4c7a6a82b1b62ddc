use Rattle.step_turn.specs.Order.{Made, first_number}
use Rattle.step_turn.proofs.turn.Turn.advance.Given as goal

abbrev pub ghosts-advance_as : goal.ghosts-advance_as
ghosts-advance_as g a = record { made = Made g.S.Steps.meaning a.self.now.start a.place.now.me.0.seen (first_number a.place.now.me.0.chairs) (g.S.StepsBy.asks a._question.now) a._answer.now }

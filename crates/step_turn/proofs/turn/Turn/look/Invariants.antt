use Rattle.step_turn.specs.Histories.{IsLegal, Reaches}
use Rattle.step_turn.proofs.turn.Turn.look.Given as goal

abbrev pub ghosts-look_as : goal.ghosts-look_as
ghosts-look_as g a = record { legal = IsLegal g.S.Steps.meaning a.self.now.start; reached = Reaches g.S.Steps.meaning a.self.now.start }

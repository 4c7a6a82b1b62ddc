use Rattle.std.proofs.Common.{sym}
use Rattle.step_turn.proofs.Serving.{steps}
use Rattle.step_turn.proofs.serve.serve.Goals as goal

pub returns-else-is_stopped : goal.returns-else-is_stopped
returns-else-is_stopped g c start log seat r =
    steps g.S.Steps.meaning start log seat _ _ _ _ r (sym c.if-is_stopped.ensures) c.step.ensures.stepped c.step.ensures.cause

use Rattle.step_turn.proofs.Serving.{refuses, reopens}
use Rattle.step_turn.proofs.serve.serve_stopped.Goals as goal

pub returns-in-Ok : goal.returns-in-Ok
returns-in-Ok g c start log seat r =
    reopens g.S.Steps.meaning start log seat _ _ _ c.reopen.new.self _ r c.requires.stopped c.in-Ok.ensures.reopened c.in-Ok.ensures.cause c.in-Ok.ensures.running c.step.ensures.stepped c.step.ensures.cause

pub returns-in-Err : goal.returns-in-Err
returns-in-Err g c start log seat r =
    refuses g.S.Steps.meaning start log seat _ _ _ _ r c.requires.stopped c.in-Err.ensures.reopened c.in-Err.ensures.cause

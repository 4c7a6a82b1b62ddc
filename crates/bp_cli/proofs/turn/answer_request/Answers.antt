use Rattle.std.proofs.Common.{subst}
use Rattle.std.specs.Prelude.{Err}
use Rattle.site_types.specs.declared.answer.Answer.TheVariants.{BadRequest, ClockFault}
use Rattle.site_types.specs.declared.request.WordFault.{WordFault}
use Rattle.bp_cli.specs.Words.{IsTimedReading}
use Rattle.bp_cli.specs.Sessions.{turn_request, IsTaken}
use Rattle.bp_cli.proofs.Executing.{acted_step, acted_refused}
use Rattle.bp_cli.proofs.Turning.{taken_bad, taken_step, taken_clock}
use Rattle.bp_cli.proofs.turn.answer_request.Goals as goal

pub returns-in-Bad-clause-acted : goal.returns-in-Bad-clause-acted
returns-in-Bad-clause-acted g c =
    acted_refused (IsTaken c.args.asked.now.words c.args.asked.now.payload (g.V.Vault.disk c.args.desk.now.vault) (g.V.Vault.disk c.args.desk.now.vault) (g.C.Clock.ticks c.args.clock.now) (g.C.Clock.ticks c.args.clock.now)) c.args.desk.now.state (g.V.Vault.disk c.args.desk.now.vault) (BadRequest c.in-Bad.index)
    (taken_bad c.args.asked.now.words c.args.asked.now.payload (g.V.Vault.disk c.args.desk.now.vault) (g.V.Vault.disk c.args.desk.now.vault) (g.C.Clock.ticks c.args.clock.now) c.in-Bad.index (subst (λ (f : WordFault). IsTimedReading (Err f) (turn_request c.args.asked.now.words c.args.asked.now.payload)) c.in-Bad.is c.in-Err.ensures.read))

pub returns-in-Ok-moment_at-clause-acted : goal.returns-in-Ok-moment_at-clause-acted
returns-in-Ok-moment_at-clause-acted g c =
    let e = c.step.ensures in
    acted_step c.args.desk.now.state c.in-Ok.timed.request c.bytes.result.now c.in-Ok-moment_at.moment (IsTaken c.args.asked.now.words c.args.asked.now.payload (g.V.Vault.disk c.args.desk.now.vault) (g.V.Vault.disk c.step.new.self.vault) (g.C.Clock.ticks c.args.clock.now) (g.C.Clock.ticks c.moment_at.new.clock))
    c.step.new.self.state (g.V.Vault.disk c.args.desk.now.vault) (g.V.Vault.disk c.step.new.self.vault) c.step.result
    (taken_step c.args.asked.now.words c.args.asked.now.payload (g.V.Vault.disk c.args.desk.now.vault) (g.V.Vault.disk c.step.new.self.vault) (g.C.Clock.ticks c.args.clock.now) (g.C.Clock.ticks c.moment_at.new.clock) c.in-Ok.timed c.bytes.result.now c.in-Ok-moment_at.moment c.step.result c.in-Ok.ensures.read c.bytes.ensures c.in-Ok-moment_at.ensures.moment e.kinds e.failed)
    e.answers e.standing e.moves e.stops

pub returns-clause-acted : goal.returns-clause-acted
returns-clause-acted g c =
    acted_refused (IsTaken c.args.asked.now.words c.args.asked.now.payload (g.V.Vault.disk c.args.desk.now.vault) (g.V.Vault.disk c.args.desk.now.vault) (g.C.Clock.ticks c.args.clock.now) (g.C.Clock.ticks c.moment_at.new.clock)) c.args.desk.now.state (g.V.Vault.disk c.args.desk.now.vault) ClockFault
    (taken_clock c.args.asked.now.words c.args.asked.now.payload (g.V.Vault.disk c.args.desk.now.vault) (g.V.Vault.disk c.args.desk.now.vault) (g.C.Clock.ticks c.args.clock.now) (g.C.Clock.ticks c.moment_at.new.clock) c.in-Ok.timed c.in-Ok.ensures.read c.in-Err-moment_at.ensures.untimed)

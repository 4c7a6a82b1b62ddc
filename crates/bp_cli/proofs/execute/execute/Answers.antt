use Rattle.std.proofs.Common.{subst, Bool}
use Rattle.bp_cli.specs.Gather.{Gathers, IsUngathered}
use Rattle.bp_cli.specs.Runs.{said, HasRisen}
use Rattle.bp_cli.specs.Singles.{IsExecuted}
use Rattle.bp_cli.proofs.Asking.{executed_step, step_rose, ungathered_rose}
use Rattle.bp_cli.proofs.Executing.{acted_step, acted_refused}
use Rattle.bp_cli.proofs.execute.execute.Goals as goal

pub returns-in-Ok-clause-acted : goal.returns-in-Ok-clause-acted
returns-in-Ok-clause-acted g c =
    let e = c.step.ensures in
    acted_step c.args.desk.now.state c.args.timed.now.request c.bytes.result.now c.in-Ok.field-0.moment
    (λ o. IsExecuted c.args.timed.now (g.S.Source.input c.args.source.now) (g.S.Source.input c.gather.new.source) (g.C.Clock.ticks c.args.clock.now) (g.C.Clock.ticks c.gather.new.clock) o × HasRisen (g.V.Vault.disk c.args.desk.now.vault).faults (g.V.Vault.disk c.step.new.self.vault).faults (g.S.Source.input c.args.source.now).faults (g.S.Source.input c.gather.new.source).faults (g.C.Clock.ticks c.args.clock.now).faults (g.C.Clock.ticks c.gather.new.clock).faults (said o))
    c.step.new.self.state (g.V.Vault.disk c.args.desk.now.vault) (g.V.Vault.disk c.step.new.self.vault) c.step.result (
      executed_step c.args.timed.now (g.S.Source.input c.args.source.now) (g.S.Source.input c.gather.new.source) (g.C.Clock.ticks c.args.clock.now) (g.C.Clock.ticks c.gather.new.clock) c.in-Ok.field-0 c.bytes.result.now c.step.result c.bytes.ensures
          (subst (λ (b : Bool). Gathers b c.args.timed.now.moment (g.S.Source.input c.args.source.now) (g.S.Source.input c.gather.new.source) (g.C.Clock.ticks c.args.clock.now) (g.C.Clock.ticks c.gather.new.clock) c.in-Ok.field-0) c.takes_payload.ensures c.in-Ok.ensures.gathered) e.kinds,
      step_rose c.args.timed.now.request c.bytes.result.now c.step.result (g.V.Vault.disk c.args.desk.now.vault).faults (g.V.Vault.disk c.step.new.self.vault).faults (g.S.Source.input c.args.source.now).faults (g.S.Source.input c.gather.new.source).faults (g.C.Clock.ticks c.args.clock.now).faults (g.C.Clock.ticks c.gather.new.clock).faults e.kinds e.failed,
    ) e.answers e.standing e.moves e.stops

pub returns-in-Err-clause-acted : goal.returns-in-Err-clause-acted
returns-in-Err-clause-acted g c =
    acted_refused
    (λ o. IsExecuted c.args.timed.now (g.S.Source.input c.args.source.now) (g.S.Source.input c.gather.new.source) (g.C.Clock.ticks c.args.clock.now) (g.C.Clock.ticks c.gather.new.clock) o × HasRisen (g.V.Vault.disk c.args.desk.now.vault).faults (g.V.Vault.disk c.args.desk.now.vault).faults (g.S.Source.input c.args.source.now).faults (g.S.Source.input c.gather.new.source).faults (g.C.Clock.ticks c.args.clock.now).faults (g.C.Clock.ticks c.gather.new.clock).faults (said o))
    c.args.desk.now.state (g.V.Vault.disk c.args.desk.now.vault) c.in-Err.answer (
      subst (λ (b : Bool). IsUngathered b c.args.timed.now.moment (g.S.Source.input c.args.source.now) (g.S.Source.input c.gather.new.source) (g.C.Clock.ticks c.args.clock.now) (g.C.Clock.ticks c.gather.new.clock) c.in-Err.answer) c.takes_payload.ensures c.in-Err.ensures.refused,
      ungathered_rose c.in-Err.answer c.takes_payload.result c.args.timed.now.moment (g.V.Vault.disk c.args.desk.now.vault).faults (g.V.Vault.disk c.args.desk.now.vault).faults (g.S.Source.input c.args.source.now) (g.S.Source.input c.gather.new.source) (g.C.Clock.ticks c.args.clock.now) (g.C.Clock.ticks c.gather.new.clock) c.in-Err.ensures.refused,
    )

use Rattle.std.proofs.Common.{sym, subst}
use Rattle.std.specs.Prelude.{Err}
use Rattle.site_types.specs.declared.answer.Answer.{Answer}
use Rattle.site_types.specs.declared.request.WordFault.{WordFault}
use Rattle.site_desk.specs.Stands.{opened, state_in}
use Rattle.bp_cli.specs.Words.{timed_request, IsTimedReading}
use Rattle.bp_cli.specs.Runs.{Acted}
use Rattle.bp_cli.specs.Singles.{IsAnswered}
use Rattle.bp_cli.proofs.Opened.{answered_bad, answered_memory, answered_unopened, answered_opened}
use Rattle.bp_cli.proofs.execute.answered.Goals as goal

pub returns-in-Bad-clause-acted : goal.returns-in-Bad-clause-acted
returns-in-Bad-clause-acted g c =
    let s = state_in (opened (g.V.Vault.disk c.args.vault).seen) in
    (s, answered_bad c.args.words.now s (g.V.Vault.disk c.args.vault) (g.S.Source.input c.args.source.now) (g.C.Clock.ticks c.args.clock.now) c.in-Bad.index (subst (λ (f : WordFault). IsTimedReading (Err f) (timed_request c.args.words.now)) c.in-Bad.is c.in-Err.ensures.read))

pub returns-in-NoMemory-clause-acted : goal.returns-in-NoMemory-clause-acted
returns-in-NoMemory-clause-acted g c =
    let s = state_in (opened (g.V.Vault.disk c.args.vault).seen) in
    (s, answered_memory c.args.words.now s (g.V.Vault.disk c.args.vault) (g.S.Source.input c.args.source.now) (g.C.Clock.ticks c.args.clock.now))

pub returns-in-Ok-open_vault-clause-acted : goal.returns-in-Ok-open_vault-clause-acted
returns-in-Ok-open_vault-clause-acted g c =
    let o = c.in-Ok-open_vault.ensures in (
      c.execute-answer.new.desk.state,
      subst (λ (v : g.row.V.Denot). Acted (IsAnswered c.args.words.now (g.V.Vault.disk c.args.vault) (g.V.Vault.disk v) (g.S.Source.input c.args.source.now) (g.S.Source.input c.execute-answer.new.source) (g.C.Clock.ticks c.args.clock.now) (g.C.Clock.ticks c.execute-answer.new.clock)) (state_in (opened (g.V.Vault.disk c.args.vault).seen)) c.execute-answer.new.desk.state (g.V.Vault.disk c.args.vault) (g.V.Vault.disk v) c.execute-answer.result) (sym c.close.ensures)
          (answered_opened c.args.words.now c.in-Ok.timed c.in-Ok.ensures.read (g.V.Vault.disk c.args.vault) (g.V.Vault.disk c.in-Ok-open_vault.desk.vault) (λ told. g.met.V.Vault.reads_count c.args.vault told) o.stops
          c.in-Ok-open_vault.desk.state c.execute-answer.new.desk.state (g.V.Vault.disk c.execute-answer.new.desk.vault) (g.S.Source.input c.args.source.now) (g.S.Source.input c.execute-answer.new.source) (g.C.Clock.ticks c.args.clock.now) (g.C.Clock.ticks c.execute-answer.new.clock) c.execute-answer.result
          o.same.tells o.same.sent o.same.faults o.state o.standing c.execute-answer.ensures.acted),
    )

pub returns-clause-acted : goal.returns-clause-acted
returns-clause-acted g c =
    let o = c.in-Err-open_vault.ensures in
    let s = state_in (opened (g.V.Vault.disk c.args.vault).seen) in (
      s,
      subst (λ (a : Answer). Acted (IsAnswered c.args.words.now (g.V.Vault.disk c.args.vault) (g.V.Vault.disk c.in-Err-open_vault.refused.0) (g.S.Source.input c.args.source.now) (g.S.Source.input c.args.source.now) (g.C.Clock.ticks c.args.clock.now) (g.C.Clock.ticks c.args.clock.now)) (state_in (opened (g.V.Vault.disk c.args.vault).seen)) s (g.V.Vault.disk c.args.vault) (g.V.Vault.disk c.in-Err-open_vault.refused.0) a) (sym c.refusal.ensures)
          (answered_unopened c.args.words.now c.in-Ok.timed c.in-Ok.ensures.read (g.V.Vault.disk c.args.vault) (g.V.Vault.disk c.in-Err-open_vault.refused.0) (λ told. g.met.V.Vault.reads_count c.args.vault told) o.stops s (g.S.Source.input c.args.source.now) (g.C.Clock.ticks c.args.clock.now) c.in-Err-open_vault.refused.1 o.failed o.not_a_vault),
    )

use Rattle.std.proofs.Common.{refl, sym, subst}
use Rattle.pool_journal.specs.declared.fault.JournalFault.TheVariants as journal
use Rattle.bp_cli.specs.Sessions.{RanSession}
use Rattle.bp_cli.proofs.Leaving.{opens_none}
use Rattle.bp_cli.proofs.Running.{session_refused, session_served}
use Rattle.bp_cli.proofs.session.session_on.Goals as goal

pub returns-in_default-clause-session : goal.returns-in_default-clause-session
returns-in_default-clause-session g c =
    session_refused (g.M.Vault.disk c.args.machine) (g.M.Vault.disk c.args.machine) (g.M.Vault.disk c.reply_unopened-status.new.machine) (g.S.Source.input c.args.source.now) (g.C.Clock.ticks c.args.clock.now) c.reply_unopened-status.result journal.NoMemory
    (λ told. g.met.M.Vault.reads_count c.args.machine told, λ i b told left. g.met.M.Vault.only_now c.args.machine i b told left) (λ told. told) refl refl c.reply_unopened-status.ensures.same.faults (λ told. opens_none (g.M.Vault.disk c.args.machine)) (λ is. absurd (cc is)) (λ told. tt) c.reply_unopened-status.ensures.sent

pub returns-in-Ok-clause-session : goal.returns-in-Ok-clause-session
returns-in-Ok-clause-session g c =
    let o = c.in-Ok.ensures in
    subst (λ (m : g.row.M.Denot). RanSession (g.M.Vault.disk c.args.machine) (g.M.Vault.disk m) (g.S.Source.input c.args.source.now) (g.S.Source.input c.serve-status.new.source) (g.C.Clock.ticks c.args.clock.now) (g.C.Clock.ticks c.serve-status.new.clock) c.serve-status.result) (sym c.close.ensures)
    (session_served (g.M.Vault.disk c.args.machine) (g.M.Vault.disk c.in-Ok.desk.vault) (g.M.Vault.disk c.serve-status.new.desk.vault) (g.S.Source.input c.args.source.now) (g.S.Source.input c.serve-status.new.source) (g.C.Clock.ticks c.args.clock.now) (g.C.Clock.ticks c.serve-status.new.clock) c.serve-status.result
    (λ told. g.met.M.Vault.reads_count c.args.machine told, λ i b told left. g.met.M.Vault.only_now c.args.machine i b told left) o.same.tells o.same.sent o.same.send_faults o.same.faults o.stops c.in-Ok.desk.state o.state o.standing c.serve-status.ensures.serves)

pub returns-clause-session : goal.returns-clause-session
returns-clause-session g c =
    let o = c.in-Err.ensures in
    session_refused (g.M.Vault.disk c.args.machine) (g.M.Vault.disk c.in-Err.refused.0) (g.M.Vault.disk c.reply_unopened-status-in-Err.new.machine) (g.S.Source.input c.args.source.now) (g.C.Clock.ticks c.args.clock.now) c.reply_unopened-status-in-Err.result c.in-Err.refused.1
    (λ told. g.met.M.Vault.reads_count c.args.machine told, λ i b told left. g.met.M.Vault.only_now c.args.machine i b told left) o.same.tells o.same.sent o.same.send_faults c.reply_unopened-status-in-Err.ensures.same.faults o.stops o.failed o.not_a_vault c.reply_unopened-status-in-Err.ensures.sent

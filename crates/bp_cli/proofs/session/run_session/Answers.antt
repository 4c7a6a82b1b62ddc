use Rattle.std.proofs.Common.{rules}
use Rattle.bp_cli.specs.Sessions.{RanSession}
use Rattle.bp_cli.proofs.Running.{at_equal, session_lent}
use Rattle.bp_cli.proofs.session.run_session.Goals as goal

pub returns : goal.returns
returns g c =
    let here : RanSession (g.M.Vault.disk c.args.machine.now) (g.M.Vault.disk c.session_on-status.result.0.now) (g.S.Source.input c.args.source.now) (g.S.Source.input c.session_on-status.new.source) (g.C.Clock.ticks c.args.clock.now) (g.C.Clock.ticks c.session_on-status.new.clock) c.session_on-status.result.1 =
    session_lent (g.M.Vault.disk c.args.machine.now) (g.M.Vault.disk c.session_on-status.result.0.now) (g.S.Source.input c.args.source.now) (g.S.Source.input c.session_on-status.new.source) (g.C.Clock.ticks c.args.clock.now) (g.C.Clock.ticks c.session_on-status.new.clock) c.session_on-status.result.1 _ _ c.session_on-status.ensures.session in
    record { session = at_equal (λ (x : g.row.M.Denot). RanSession (g.M.Vault.disk c.args.machine.now) (g.M.Vault.disk x) (g.S.Source.input c.args.source.now) (g.S.Source.input c.session_on-status.new.source) (g.C.Clock.ticks c.args.clock.now) (g.C.Clock.ticks c.session_on-status.new.clock) c.session_on-status.result.1) c.session_on-status.result.0.now _ here (search rules) }

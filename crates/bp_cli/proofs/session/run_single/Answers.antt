use Rattle.std.proofs.Common.{rules}
use Rattle.bp_cli.specs.Singles.{Ran}
use Rattle.bp_cli.proofs.Running.{acted_lent, at_equal, ran}
use Rattle.bp_cli.proofs.session.run_single.Goals as goal

pub returns : goal.returns
returns g c =
    let e = c.answered-machine.ensures in
    let here : Ran c.args.words.now (g.M.Vault.disk c.args.machine.now) (g.M.Vault.disk c.reply.new.machine) (g.S.Source.input c.args.source.now) (g.S.Source.input c.answered-machine.new.source) (g.C.Clock.ticks c.args.clock.now) (g.C.Clock.ticks c.answered-machine.new.clock) c.reply.result =
    ran c.args.words.now (g.M.Vault.disk c.args.machine.now) (g.M.Vault.disk c.answered-machine.result.0.now) (g.M.Vault.disk c.reply.new.machine) (g.S.Source.input c.args.source.now) (g.S.Source.input c.answered-machine.new.source) (g.C.Clock.ticks c.args.clock.now) (g.C.Clock.ticks c.answered-machine.new.clock) c.reply.result
    (λ told. g.met.M.Vault.reads_count c.args.machine.now told, λ i b told left. g.met.M.Vault.only_now c.args.machine.now i b told left) e.same.tells e.same.sent e.same.send_faults c.reply.ensures.same.faults c.answered-machine.result.1 e.acted.0
    (acted_lent (g.M.Vault.disk c.args.machine.now) (g.M.Vault.disk c.answered-machine.result.0.now) _ _ c.answered-machine.result.1 e.acted.1) c.reply.ensures.sent in
    record { ran = at_equal (λ (x : g.row.M.Denot). Ran c.args.words.now (g.M.Vault.disk c.args.machine.now) (g.M.Vault.disk x) (g.S.Source.input c.args.source.now) (g.S.Source.input c.answered-machine.new.source) (g.C.Clock.ticks c.args.clock.now) (g.C.Clock.ticks c.answered-machine.new.clock) c.reply.result) _ _ here (search rules) }

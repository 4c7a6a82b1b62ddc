use Rattle.site_desk.proofs.Standings.{disk_sound}
use Rattle.bp_cli.proofs.Running.{ran_bad}
use Rattle.bp_cli.proofs.session.run.Goals as goal

pub returns-in-len1-up-clause-bad_session : goal.returns-in-len1-up-clause-bad_session
returns-in-len1-up-clause-bad_session g c named more =
    ran_bad (g.M.Vault.disk c.args.machine.now) (g.M.Vault.disk c.reply.new.machine) (g.S.Source.input c.args.source.now) (g.C.Clock.ticks c.args.clock.now) c.reply.result (λ told. g.met.M.Vault.reads_count c.args.machine.now told, λ i b told left. g.met.M.Vault.only_now c.args.machine.now i b told left)
    (λ told. (c.reply.ensures.sent.sends told).rests) c.reply.ensures.same.faults c.reply.ensures.sent

pub returns-in-len1-clause-sound : goal.returns-in-len1-clause-sound
returns-in-len1-clause-sound g c = disk_sound

pub returns-in-len1-up-clause-sound : goal.returns-in-len1-up-clause-sound
returns-in-len1-up-clause-sound g c = disk_sound

pub returns-in_default-clause-sound : goal.returns-in_default-clause-sound
returns-in_default-clause-sound g c = disk_sound

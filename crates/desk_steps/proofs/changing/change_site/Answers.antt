use Rattle.desk_steps.proofs.AskedImages.{undone_undamaged}
use Rattle.desk_steps.proofs.SettledPools.{ready_failed, ready_written}
use Rattle.desk_steps.proofs.StepCases.{refused_over}
use Rattle.desk_steps.proofs.changing.change_site.Goals as goal

pub returns-in-Err-clause-steps : goal.returns-in-Err-clause-steps
returns-in-Err-clause-steps g c l is =
    refused_over l c.args.request.now c.args.payload.now c.args.moment c.in-Err.refusal (g.V.Vault.disk c.args.vault.now) c.args.journal.now c.prepare.new.index (c.in-Err.ensures.kept l is) (λ d all. c.in-Err.ensures.refused l is d)

pub returns-in-Ok-write-clause-steps : goal.returns-in-Ok-write-clause-steps
returns-in-Ok-write-clause-steps g c l is =
    ready_written l is.follows.order c.args.request.now c.args.payload.now c.args.moment c.in-Ok.ready.staged c.in-Ok.ready.body c.prepare.new.index (c.in-Ok.ensures.ready l is) (g.V.Vault.disk c.args.vault.now) (g.V.Vault.disk c.write.new.vault) c.args.journal.now
    c.in-Ok-write.ensures.stops c.write.new.self c.in-Ok-write.ensures.appended

pub returns-in-Err-write-clause-steps : goal.returns-in-Err-write-clause-steps
returns-in-Err-write-clause-steps g c l is =
    ready_failed l is.follows.order c.args.request.now c.args.payload.now c.args.moment c.in-Ok.ready.staged c.in-Ok.ready.body c.prepare.new.index (c.in-Ok.ensures.ready l is) (g.V.Vault.disk c.args.vault.now) (g.V.Vault.disk c.write.new.vault) c.args.journal.now
    c.in-Err-write.ensures.stops c.write.new.self c.prepare.new.index

pub returns-in-Err-clause-undamaged : goal.returns-in-Err-clause-undamaged
returns-in-Err-clause-undamaged g c recorded found = undone_undamaged c.in-Err.refusal c.in-Err.ensures.plain.1 recorded found

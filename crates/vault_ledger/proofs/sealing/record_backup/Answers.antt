use Rattle.std.proofs.Common.{◌∙◌, sym}
use Rattle.vault_ledger.proofs.RecordedBackups.{ok_kept, ok_says, recorded_between, unsynced_between}
use Rattle.vault_ledger.proofs.sealing.record_backup.Goals as goal

pub returns-in_err-sync_added-clause-between : goal.returns-in_err-sync_added-clause-between
returns-in_err-sync_added-clause-between g c = λ l told ready kept.
    unsynced_between (g.V.Vault.disk c.args.vault.now) (g.V.Vault.disk c.sync_added.new.vault) c.args.journal.now l c.args.image c.args.segments (c.sync_added.ensures.rests told) c.args.file ready kept (c.sync_added.ensures.during told) c.sync_added.ensures.same.sent

pub returns-clause-says : goal.returns-clause-says
returns-clause-says g c = λ l told fits says.
    ok_says (g.V.Vault.disk c.args.vault.now) (g.V.Vault.disk c.sync_added.new.vault) c.args.journal.now l c.args.image c.args.segments (c.sync_added.ensures.rests told) c.write_backup.result (g.V.Vault.disk c.write_backup.new.vault) c.write_backup.new.journal fits says
    (λ fs rest. c.write_backup.ensures.appended fs (c.sync_added.ensures.same.tells told) rest)

pub returns-clause-kept : goal.returns-clause-kept
returns-clause-kept g c = λ l told ready kept.
    ok_kept (g.V.Vault.disk c.args.vault.now) (g.V.Vault.disk c.sync_added.new.vault) c.args.journal.now l c.args.image c.args.segments (c.sync_added.ensures.rests told) c.args.file ready kept
    (λ some. c.in_ok-sync_added.ensures.durable (λ none. some (sym c.as_slice.ensures ∙ none)) told) (g.V.Vault.disk c.write_backup.new.vault) (λ fs rest. c.write_backup.ensures.stops fs (c.sync_added.ensures.same.tells told) rest)
    c.write_backup.result c.write_backup.new.journal (λ fs rest. c.write_backup.ensures.appended fs (c.sync_added.ensures.same.tells told) rest)

pub returns-clause-between : goal.returns-clause-between
returns-clause-between g c = λ l told ready kept.
    recorded_between (g.V.Vault.disk c.args.vault.now) (g.V.Vault.disk c.sync_added.new.vault) c.args.journal.now l c.args.image c.args.segments (c.sync_added.ensures.rests told) c.args.file ready kept
    (λ some. c.in_ok-sync_added.ensures.durable (λ none. some (sym c.as_slice.ensures ∙ none)) told) (g.V.Vault.disk c.write_backup.new.vault) (λ fs rest. c.write_backup.ensures.stops fs (c.sync_added.ensures.same.tells told) rest)
    (c.sync_added.ensures.during told) c.sync_added.ensures.same.sent

use Rattle.pool_journal.specs.declared.entry.Entry.TheVariants as entry
use Rattle.vault_ledger.proofs.sealing.write_backup.Goals as goal

pub returns-clause-stops : goal.returns-clause-stops
returns-clause-stops g c fs told rest = c.write.ensures.stops (entry.BackupSealed c.args.image c.args.segments) c.stage_in-staged.ensures fs told rest

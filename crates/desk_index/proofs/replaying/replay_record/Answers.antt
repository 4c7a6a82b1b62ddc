use Rattle.std.proofs.Common.{sym, subst}
use Rattle.std.specs.Prelude.{IfOk}
use Rattle.pool_journal.specs.declared.entry.Entry.{Entry}
use Rattle.vault_ledger.specs.Ledger.{recorded}
use Rattle.desk_index.specs.Replays.{IsReached}
use Rattle.desk_index.proofs.replaying.replay_record.Goals as goal

pub returns-in-BackupSealed : goal.returns-in-BackupSealed
returns-in-BackupSealed c l of = subst (λ (e : Entry). IfOk c.take_backup.result (IsReached (recorded l e) c.take_backup.new.index)) (sym c.in-BackupSealed.is) (c.take_backup.ensures l of)

use Rattle.std.proofs.Common.{◌≡◌, List}
use Rattle.pool_journal.specs.Records.{Found, placed}
use Rattle.vault_ledger.specs.Ledger.{Ledger}
use Rattle.desk_index.specs.Index.{IsIndexOf}
use Rattle.desk_index.proofs.ReplayedRecords.{SoFar}
use Rattle.desk_index.proofs.replaying.replay.Given as goal

abbrev pub invariant-loop-placed : goal.invariant-loop-placed
invariant-loop-placed l = ((fs : List Found) → placed fs ≡ l.entries → SoFar fs l.index l.placed-index) × (known : Ledger) × IsIndexOf known l.index

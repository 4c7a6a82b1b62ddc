-- What an opening finds.
use Rattle.std.specs.Prelude.{◌≡◌, ℕ, Some, Result, Ok, Err}
use Rattle.vault_disk.specs.Disk.{Disk}
use Rattle.pool_journal.specs.Stops.{OpensTo}
use Rattle.pool_journal.specs.declared.fault.JournalFault.{JournalFault}
use Rattle.pool_journal.specs.declared.fault.JournalFault.TheVariants as journal
use Rattle.desk_model.specs.State.{State}
use Rattle.vault_ledger.specs.Keeping.{KeptLedger, SaysLedger}
use Rattle.vault_ledger.specs.Ledger.{Ledger, journal_reads, stands, state_over}
use Rattle.desk_index.specs.Index.{IsIndexOf}
use Rattle.desk_index.specs.declared.index.Index.{Index}

-- the journal reads as a ledger, which it says from then on, with the bytes that the pools had, and this is its index; where the vault stood for a state, that is the ledger's and kept
pub record IsFound (old new : Disk) (end : ℕ) (index : Index) : Type 0 where
  pub ledger : Ledger
  pub reads : journal_reads old.seen ≡ Ok ledger
  pub is : IsIndexOf ledger index
  pub says : SaysLedger new end ledger
  pub over : state_over new.seen ledger ≡ state_over old.seen ledger
  pub kept : (s : State) → stands old.seen ≡ Some s → KeptLedger new end ledger × (state_over new.seen ledger ≡ s)

-- until the first sync of the journal and those of the pools have succeeded a stop leaves what it could leave before, and from then on what stands for this state
abbrev pub Opens : State → Disk → Disk → Type 0
Opens s old new = OpensTo (λ c. stands c ≡ Some s) old new

-- until the first sync of the journal has succeeded a stop leaves what it could leave before, and from then on a journal that reads the same, whether or not it is a vault's
abbrev pub KeepsJournal : Disk → Disk → Type 0
KeepsJournal old new = OpensTo (λ c. journal_reads c ≡ journal_reads old.seen) old new

-- a fault of an opening: no vault exactly where the journal reads as none, with the offset of that
abbrev pub IsFaultOf : Result Ledger ℕ → JournalFault → Type 0
IsFaultOf found journal.NoMemory = Unit {0}
IsFaultOf found journal.DiskFault = Unit {0}
IsFaultOf found (journal.NotAVault offset) = found ≡ Err offset

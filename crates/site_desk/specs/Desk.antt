-- What contracts see of a desk.
use Rattle.std.specs.Prelude.{◌≡◌, ℕ, Bool, List, Result, Err}
use Rattle.site_types.specs.declared.image.ImageRecord.{ImageRecord}
use Rattle.vault_disk.specs.Disk.{Disk}
use Rattle.pool_journal.specs.declared.fault.JournalFault.{JournalFault}
use Rattle.pool_journal.specs.declared.fault.JournalFault.TheVariants as journal
use Rattle.desk_model.specs.declared.site.Site.{Site}
use Rattle.desk_model.specs.State.{State}
use Rattle.vault_ledger.specs.Keeping.{SaysLedger}
use Rattle.vault_ledger.specs.Ledger.{Ledger}
use Rattle.desk_index.specs.Index.{IsIndexOf}
use Rattle.desk_index.specs.declared.index.Index.{Index}
use Rattle.site_desk.specs.Stands.{opened, state_in}

-- a desk: the state that its vault reads as; the site and the catalogue that it knows, on any vault; whether a fault of the disk has stopped it; and the vault
pub record DeskValue (V : Type 0) : Type 0 where
  pub state : State
  pub site : Site
  pub catalogue : List ImageRecord
  pub stopped : Bool
  pub vault : V

-- the state of a desk over a disk
abbrev pub desk_state : Disk → State
desk_state disk = state_in (opened disk.seen)

-- the index is that of a ledger; where the vault tells, of one that the journal says
pub record Known (disk : Disk) (end : ℕ) (index : Index) : Type 0 where
  pub is : (l : Ledger) × IsIndexOf l index
  pub says : disk.tells → (l : Ledger) × IsIndexOf l index × SaysLedger disk end l

-- a fault of an opening: no vault exactly where the journal makes no state, with the offset of that
abbrev pub IsFaultOf : Result State ℕ → JournalFault → Type 0
IsFaultOf found journal.NoMemory = Unit {0}
IsFaultOf found journal.DiskFault = Unit {0}
IsFaultOf found (journal.NotAVault offset) = found ≡ Err offset

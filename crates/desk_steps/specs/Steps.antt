-- What a step over the index of a ledger promises.
use Rattle.std.specs.Prelude.{◌≡◌, ◌≢◌, ℕ, Bool, true, false, List}
use Rattle.site_types.specs.Classes.{RequestClass, site_change, site_file, backup, restore, restore_at, class_of}
use Rattle.site_types.specs.declared.answer.Answer.{Answer}
use Rattle.site_types.specs.declared.answer.Answer.TheVariants.{DiskFault}
use Rattle.site_types.specs.declared.request.Request.{Request}
use Rattle.vault_disk.specs.Disk.{Disk, Image as DiskImage}
use Rattle.desk_model.specs.State.{State}
use Rattle.vault_ledger.specs.Keeping.{Between, KeptLedger, SaysLedger}
use Rattle.vault_ledger.specs.Ledger.{Ledger, are_true, state_over}
use Rattle.desk_index.specs.Answers.{Answered, IsRefused, Moved, reached}
use Rattle.desk_index.specs.Index.{IsIndexOf}
use Rattle.desk_index.specs.declared.index.Index.{Index}

-- The index is that of a ledger, which the journal says where it said the one before. Where that one was kept this one is, and the state moved as the answer says.
pub record GoesOn (l : Ledger) (request : Request) (payload : List ℕ) (moment : ℕ) (answer : Answer) (old new : Disk) (end end' : ℕ) (index : Index) : Type 0 where
  pub ledger : Ledger
  pub is : IsIndexOf ledger index
  pub says : old.tells → SaysLedger old end l → SaysLedger new end' ledger
  pub kept : old.tells → KeptLedger old end l → KeptLedger new end' ledger × Moved (state_over old.seen l) request payload moment answer (state_over new.seen ledger)

-- the answer is the model's in this state, and a stop leaves this state or the one after the step
pub record StepsFrom (s : State) (request : Request) (payload : List ℕ) (moment : ℕ) (answer : Answer) (old new : Disk) : Type 0 where
  pub answers : Answered s request payload moment answer
  pub stops : Between s (reached s request payload moment answer) old new

-- a step over the index of a ledger: unless the disk failed it goes on, and over a vault in which the ledger is kept the answer is the model's
pub record StepsOver (l : Ledger) (request : Request) (payload : List ℕ) (moment : ℕ) (answer : Answer) (old new : Disk) (end end' : ℕ) (index : Index) : Type 0 where
  pub goes_on : answer ≢ DiskFault → GoesOn l request payload moment answer old new end end' index
  pub from : old.tells → KeptLedger old end l → StepsFrom (state_over old.seen l) request payload moment answer old new

-- requests that change the site, one of them or those of a file
abbrev pub changes : RequestClass → Bool
changes (site_change request) = true
changes site_file = true
changes (backup client policy schedule start) = false
changes (restore id copy) = false
changes (restore_at client policy before) = false

abbrev pub is_change : Request → Bool
is_change request = changes (class_of request)

-- a step over a ledger and pools that are true is refused so, and nothing is done
abbrev pub IsRefusedOverTrue : Ledger → Request → List ℕ → ℕ → Answer → Type 0
IsRefusedOverTrue l request payload moment answer = (c : DiskImage) → are_true c l l.outline.stored ≡ true → IsRefused (state_over c l) request payload moment answer

-- a request that is carried out writes a record, but a restore writes none
abbrev pub writes : RequestClass → Bool
writes (site_change request) = true
writes site_file = true
writes (backup client policy schedule start) = true
writes (restore id copy) = false
writes (restore_at client policy before) = false

abbrev pub is_written : Request → Bool
is_written request = writes (class_of request)

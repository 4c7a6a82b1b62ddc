-- What is made ready before a change of the site is recorded.
use Rattle.std.specs.Prelude.{◌≡◌, ◌⊎◌, ℕ, List, Option, Some, None, Result, Ok, Err}
use Rattle.site_types.specs.declared.answer.Answer.{Answer}
use Rattle.site_types.specs.declared.answer.Answer.TheVariants.{Done, OutOfMemory}
use Rattle.site_types.specs.declared.request.Request.{Request}
use Rattle.vault_disk.specs.Disk.{Image as DiskImage}
use Rattle.pool_journal.specs.Entries.{IsStaged}
use Rattle.pool_journal.specs.declared.entry.Entry.TheVariants as entry
use Rattle.policy_book.specs.SiteFile.{site_requests}
use Rattle.desk_model.specs.State.{State}
use Rattle.desk_model.specs.Step.{step}
use Rattle.vault_ledger.specs.Fitting.{settled}
use Rattle.vault_ledger.specs.Ledger.{Ledger, state_over, with_outline}
use Rattle.desk_index.specs.Answers.{IsRefused}
use Rattle.desk_index.specs.Index.{IsIndexOf}
use Rattle.desk_index.specs.declared.index.Index.{Index}

-- requests were carried out, and this is the index of the ledger after them; or the first that is refused was answered so
abbrev pub AreSet : Ledger → Result State Answer → Index → Option Answer → Type 0
AreSet l result index None = (s : State) × (result ≡ Ok s) × IsIndexOf (with_outline l s) index
AreSet l result index (Some refusal) = result ≡ Err refusal

-- none was carried out: the first that is refused was answered so, or there was no memory
abbrev pub AreRefused : Result State Answer → Answer → Type 0
AreRefused result answer = (answer ≡ OutOfMemory) ⊎ (result ≡ Err answer)

-- requests of a site file
abbrev pub AreOfFile : List Request → Type 0
AreOfFile requests = (payload : List ℕ) × (site_requests payload ≡ Some requests)

-- a record of settings is ready that takes a ledger to that of the index, and the state over any pools as the step does
pub record IsReady (l : Ledger) (request : Request) (payload : List ℕ) (moment : ℕ) (staged body : List ℕ) (index : Index) : Type 0 where
  pub lines : List (List ℕ)
  pub staged_is : IsStaged (entry.Settings lines) staged
  pub outline : State
  pub settled_is : settled l.outline lines ≡ Some outline
  pub index_is : IsIndexOf (with_outline l outline) index
  pub steps : (c : DiskImage) → step (state_over c l) request payload moment ≡ (Done body, state_over c (with_outline l outline))

-- a step over a ledger and any pools is refused so, and nothing is done
abbrev pub IsRefusedOver : Ledger → Request → List ℕ → ℕ → Answer → Type 0
IsRefusedOver l request payload moment answer = (c : DiskImage) → IsRefused (state_over c l) request payload moment answer

-- A restore of a client under a policy as it was at a moment: its chain of images, and what they give back.
use Rattle.std.specs.Prelude.{◌≡◌, ◌⊎◌, ℕ, Bool, true, List, map, unwrap_or, Result, Err}
use Rattle.site_types.specs.declared.answer.Answer.{Answer}
use Rattle.site_types.specs.declared.answer.Answer.TheVariants.{OutOfMemory}
use Rattle.site_types.specs.declared.id.BackupId.{BackupId}
use Rattle.site_types.specs.declared.request.Request.{Request}
use Rattle.policy_book.specs.Book.{Book, adhoc, policy_name}
use Rattle.policy_book.specs.Lists.{named}
use Rattle.image_kinds.specs.declared.decode.StreamFault.{StreamFault}
use Rattle.image_kinds.specs.declared.decode.StreamFault.TheVariants.{Bad, NoMemory}
use Rattle.vault_disk.specs.Disk.{Image as DiskImage}
use Rattle.desk_model.specs.Restores.{given_by}
use Rattle.desk_model.specs.Step.{step}
use Rattle.vault_ledger.specs.Ledger.{Ledger, are_true, state_over}
use Rattle.desk_steps.specs.Readings.{bytes_over}
use Rattle.desk_steps.specs.Asked.{answer_given}

-- a policy of files
abbrev pub files_under : List ℕ → Book → Bool
files_under policy book = (unwrap_or (named policy_name policy book.policies) adhoc).files

-- over pools that are true a step answers with what these images give back, and nothing changes
abbrev pub GivesChain : Ledger → Bool → List BackupId → Request → List ℕ → ℕ → Type 0
GivesChain l files ids request payload moment = (c : DiskImage) → are_true c l l.outline.stored ≡ true → step (state_over c l) request payload moment ≡ (answer_given (given_by files (map (bytes_over c l) ids)), state_over c l)

-- what was read breaks there, or memory ran out
abbrev pub IsBroken : {A : Type 0} → Result A ℕ → StreamFault → Type 0
IsBroken reading (Bad offset) = reading ≡ Err offset
IsBroken reading NoMemory = Unit {0}

-- it was answered with what is given, or memory ran out
abbrev pub IsGiven : Result (List ℕ) ℕ → Answer → Type 0
IsGiven given answer = (answer ≡ OutOfMemory) ⊎ (answer ≡ answer_given given)

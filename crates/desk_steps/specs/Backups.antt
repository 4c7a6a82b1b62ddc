-- A backup at once.
use Rattle.std.specs.Prelude.{◌≡◌, ℕ, Bool, true, false, List, codes, length}
use Rattle.site_types.specs.Classes.{RequestClass, site_change, site_file, backup, restore, restore_at, class_of}
use Rattle.site_types.specs.declared.answer.Answer.{Answer}
use Rattle.site_types.specs.declared.answer.Answer.TheVariants as answer
use Rattle.site_types.specs.declared.request.Request.{Request}
use Rattle.vault_disk.specs.Disk.{Image as DiskImage}
use Rattle.pool_journal.specs.declared.entry.WholeImage.{WholeImage}
use Rattle.segment_pool.specs.declared.fault.PoolFault.{PoolFault}
use Rattle.segment_pool.specs.declared.fault.PoolFault.TheVariants as fault
use Rattle.desk_model.specs.State.{State}
use Rattle.desk_model.specs.Backups.{segment_refusals, unit_at}
use Rattle.desk_model.specs.Refusals.{first_refusal, unless_refused}
use Rattle.desk_model.specs.Step.{step}
use Rattle.desk_rules.specs.declared.decision.JobBody.{JobBody}
use Rattle.desk_rules.specs.declared.decision.JobBody.TheVariants.{Backup}
use Rattle.vault_ledger.specs.Fitting.{image_fits, whole_unit}
use Rattle.vault_ledger.specs.Ledger.{Ledger, are_true, state_over}
use Rattle.vault_ledger.specs.Sealing.{pieces_after, pieces_before, state_sealed}

-- requests that back up a payload at once
abbrev pub backs_up : RequestClass → Bool
backs_up (site_change request) = false
backs_up site_file = false
backs_up (backup client policy schedule start) = true
backs_up (restore id copy) = false
backs_up (restore_at client policy before) = false

abbrev pub is_backup : Request → Bool
is_backup request = backs_up (class_of request)

-- the image of so many bytes that a backup seals at a moment, as its record has it
abbrev pub whole_of : JobBody → ℕ → ℕ → WholeImage
whole_of (Backup id policy schedule kind base lifecycle version length) size moment = record {
  id = id;
  policy = policy;
  schedule = schedule;
  kind = kind;
  base = base;
  lifecycle = lifecycle;
  version = version;
  completed = moment;
  length = size;
}

-- what a backup does of an image of these bytes that nothing else refuses: it is sealed and answered with this line, where its unit has slots for its pieces
abbrev pub sealed_with : State → WholeImage → List ℕ → List ℕ → Answer × State
sealed_with s w bytes line =
    unless_refused s (first_refusal (segment_refusals (unit_at (whole_unit s w) s.site.book) (pieces_before s w) (pieces_after s w bytes))) (answer.Done line, state_sealed s w bytes)

-- a backup is of this image, which fits the ledger; over pools that are true it is sealed where its unit has slots for its pieces
pub record SealsNow (l : Ledger) (request : Request) (payload : List ℕ) (moment : ℕ) (w : WholeImage) (bytes line : List ℕ) : Type 0 where
  pub fits : image_fits l.outline w ≡ true
  pub long : w.length ≡ length bytes
  pub steps : (c : DiskImage) → are_true c l l.outline.stored ≡ true → step (state_over c l) request payload moment ≡ sealed_with (state_over c l) w bytes line

-- what is answered where the bytes of a backup weren't stored, on a unit of so many slots
abbrev pub unstored_answer : PoolFault → ℕ → Answer
unstored_answer fault.NoMemory slots = answer.OutOfMemory
unstored_answer fault.DiskFault slots = answer.DiskFault
unstored_answer (fault.Damaged recorded found) slots = answer.Damaged recorded found
unstored_answer (fault.Full count) slots = answer.TooMany (codes "segments") count slots

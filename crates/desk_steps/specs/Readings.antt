-- Images that are read from their copies.
use Rattle.std.specs.Prelude.{◌≡◌, ℕ, true, List, [], ◌∷◌, Some}
use Rattle.site_types.specs.declared.answer.Answer.{Answer}
use Rattle.site_types.specs.declared.answer.Answer.TheVariants as answer
use Rattle.site_types.specs.declared.id.BackupId.{BackupId}
use Rattle.site_types.specs.declared.image.CopyRecord.{CopyRecord}
use Rattle.site_types.specs.declared.request.Request.{Request}
use Rattle.vault_disk.specs.Disk.{Image as DiskImage}
use Rattle.copy_fragments.specs.declared.whole_copy.CopyFault.{CopyFault}
use Rattle.copy_fragments.specs.declared.whole_copy.CopyFault.TheVariants as fault
use Rattle.desk_model.specs.State.{Image, image_named}
use Rattle.desk_model.specs.Restores.{bytes_of}
use Rattle.desk_model.specs.Step.{step}
use Rattle.vault_ledger.specs.Ledger.{Ledger, are_true, state_over}
use Rattle.vault_ledger.specs.Storage.{IsWholeOn}

-- an image of a ledger, with its one copy
pub record IsImageOf (l : Ledger) (id : BackupId) (image : Image) (copy : CopyRecord) : Type 0 where
  pub image_is : image_named id l.outline.images ≡ Some image
  pub only : image.entry.copies ≡ copy ∷ []

-- the bytes of an image as the pools' files have them
abbrev pub bytes_over : DiskImage → Ledger → BackupId → List ℕ
bytes_over c l id = bytes_of (image_named id (state_over c l).images)

-- each piece of the image's copy has its recorded length and digest
abbrev pub IsWholeImage : DiskImage → Ledger → BackupId → Type 0
IsWholeImage c l id = (image : Image) (copy : CopyRecord) → IsImageOf l id image copy → IsWholeOn c l image.entry copy

-- over pools that are true a step answers with the bytes of this image, and nothing changes
abbrev pub GivesImage : Ledger → BackupId → Request → List ℕ → ℕ → Type 0
GivesImage l id request payload moment = (c : DiskImage) → are_true c l l.outline.stored ≡ true → step (state_over c l) request payload moment ≡ (answer.Done (bytes_over c l id), state_over c l)

-- it is no damage
abbrev pub IsUndamaged : CopyFault → Type 0
IsUndamaged fault.NoMemory = Unit {0}
IsUndamaged fault.DiskFault = Unit {0}
IsUndamaged (fault.Damaged recorded found) = ⊥

-- what is answered where a copy wasn't read
abbrev pub answer_of : CopyFault → Answer
answer_of fault.NoMemory = answer.OutOfMemory
answer_of fault.DiskFault = answer.DiskFault
answer_of (fault.Damaged recorded found) = answer.Damaged recorded found

-- The images that a request reads, what it answers with what they give back, and where they are damaged.
use Rattle.std.specs.Prelude.{◌-◌, ℕ, Bool, true, false, List, [], ◌∷◌, length, drop, unwrap_or, Result, Ok, Err, Contains}
use Rattle.site_types.specs.Classes.{RequestClass, site_change, site_file, backup, restore, restore_at}
use Rattle.site_types.specs.declared.answer.Answer.{Answer}
use Rattle.site_types.specs.declared.answer.Answer.TheVariants.{Done, BadStream, Damaged}
use Rattle.site_types.specs.declared.id.BackupId.{BackupId}
use Rattle.site_types.specs.declared.image.CopyRecord.{CopyRecord}
use Rattle.vault_disk.specs.Disk.{Image as DiskImage}
use Rattle.copy_fragments.specs.declared.whole_copy.CopyFault.{CopyFault}
use Rattle.copy_fragments.specs.declared.whole_copy.CopyFault.TheVariants as fault
use Rattle.desk_model.specs.State.{State, Image}
use Rattle.desk_model.specs.Restores.{chain_asked, has_files, ids_of}
use Rattle.vault_ledger.specs.Ledger.{Ledger}
use Rattle.vault_ledger.specs.Storage.{IsDamagedOn}
use Rattle.desk_steps.specs.Readings.{IsImageOf}

-- the images that are read: all of the chain, or the last alone
abbrev pub wanted : Bool → List BackupId → List BackupId
wanted true ids = ids
wanted false ids = drop (length ids - 1) ids

-- those that a request of this class reads at a moment
abbrev pub images_read : RequestClass → ℕ → State → List BackupId
images_read (site_change request) moment s = []
images_read site_file moment s = []
images_read (backup client policy schedule start) moment s = []
images_read (restore id copy) moment s = id ∷ []
images_read (restore_at client policy before) moment s = wanted (has_files policy s) (ids_of (chain_asked client policy (unwrap_or before moment) s))

-- what is answered with what images give back
abbrev pub answer_given : Result (List ℕ) ℕ → Answer
answer_given (Ok body) = Done body
answer_given (Err offset) = BadStream offset

-- it says nothing of what images give back, nor of damage
abbrev pub GivesNothing : Answer → Type 0
GivesNothing (Done body) = ⊥
GivesNothing (BadStream offset) = ⊥
GivesNothing (Damaged recorded found) = ⊥
GivesNothing answer = Unit {0}

-- a piece of the image's copy is damaged, with the digest that is recorded and the one that was found
pub record IsDamagedImage (c : DiskImage) (l : Ledger) (id : BackupId) (recorded found : List ℕ) : Type 0 where
  pub image : Image
  pub copy : CopyRecord
  pub is : IsImageOf l id image copy
  pub damaged : IsDamagedOn c l image.entry copy recorded found

-- one of these images is damaged so
pub record IsOneDamaged (c : DiskImage) (l : Ledger) (ids : List BackupId) (recorded found : List ℕ) : Type 0 where
  pub id : BackupId
  pub among : Contains ids id
  pub image : IsDamagedImage c l id recorded found

-- when a read of these images may fail over a vault that tells
abbrev pub ReadsFail : DiskImage → Ledger → List BackupId → CopyFault → Type 0
ReadsFail c l ids fault.NoMemory = Unit {0}
ReadsFail c l ids fault.DiskFault = Unit {0}
ReadsFail c l ids (fault.Damaged recorded found) = IsOneDamaged c l ids recorded found

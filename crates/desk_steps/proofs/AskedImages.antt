-- The images that a request reads, and what is said of them.
use Rattle.desk_model.proofs.Common.{◌≡◌, ◌≢◌, ◌∙◌, ⊎_elim, ℕ, zero, suc, Bool, true, false, List, [], ◌∷◌, sym, ap, subst, arith, Option, Some, Result, Ok, Err, Contains, Answer, BackupId, CopyRecord, State, Image, first_refusal, if◌then◌else◌, has_image}
use Rattle.site_types.specs.Classes.{RequestClass, restore}
use Rattle.site_types.specs.declared.answer.Answer.TheVariants.{Damaged}
use Rattle.vault_disk.specs.Disk.{Disk, Image as DiskImage}
use Rattle.vault_disk.specs.Steps.{LookedAround}
use Rattle.copy_fragments.specs.declared.whole_copy.CopyFault.{CopyFault}
use Rattle.copy_fragments.specs.declared.whole_copy.CopyFault.TheVariants as fault
use Rattle.vault_ledger.specs.Ledger.{Ledger}
use Rattle.vault_ledger.specs.Storage.{ReadingFails}
use Rattle.vault_ledger.specs.Wellformed.{IsLedger}
use Rattle.desk_index.specs.Answers.{IsUndone}
use Rattle.desk_steps.specs.Readings.{IsImageOf, answer_of}
use Rattle.desk_steps.specs.Asked.{GivesNothing, IsOneDamaged, ReadsFail, answer_given, images_read}
use Rattle.desk_steps.specs.Chains.{IsGiven}
use Rattle.desk_steps.proofs.ReadImages.{image_there, same_seen}

-- What isn't given back.

abbrev pub GiveNothing : List (Bool × Answer) → Type 0
GiveNothing [] = Unit {0}
GiveNothing (r ∷ rs) = GivesNothing r.1 × GiveNothing rs

pub first_gives : (refusals : List (Bool × Answer)) (a : Answer) → GiveNothing refusals → first_refusal refusals ≡ Some a → GivesNothing a
first_gives [] a nothing is = absurd (cc is)
first_gives (r ∷ rs) a nothing is = choose r.0 (first_gives rs a nothing.1) is
  where
    choose : (b : Bool) → (first_refusal rs ≡ Some a → GivesNothing a) → (if b then Some r.1 else first_refusal rs) ≡ Some a → GivesNothing a
    choose true later first = let same : r.1 ≡ a = cc first in subst GivesNothing same nothing.0
    choose false later rest = later rest

-- what says nothing of it isn't what was given
pub not_given : (a : Answer) → GivesNothing a → (given : Result (List ℕ) ℕ) → a ≢ answer_given given
not_given a nothing (Ok body) is = subst GivesNothing is nothing
not_given a nothing (Err offset) is = subst GivesNothing is nothing

pub undone_undamaged : (a : Answer) → IsUndone a → (recorded found : List ℕ) → a ≢ Damaged recorded found
undone_undamaged a undone recorded found is = subst IsUndone is undone

pub not_damaged : (a : Answer) → GivesNothing a → (recorded found : List ℕ) → a ≢ Damaged recorded found
not_damaged a nothing recorded found is = subst GivesNothing is nothing

-- what is given back is no damage
pub given_undamaged : (given : Result (List ℕ) ℕ) (a : Answer) → IsGiven given a → (recorded found : List ℕ) → a ≢ Damaged recorded found
given_undamaged given a is recorded found same = ⊎_elim (λ lacks. absurd (cc (sym lacks ∙ same))) (λ gives. at given (sym gives ∙ same)) is
  where
    at : (g : Result (List ℕ) ℕ) → answer_given g ≢ Damaged recorded found
    at (Ok body) here = absurd (cc here)
    at (Err offset) here = absurd (cc here)

-- a fault gives nothing back
pub fault_not_given : (f : CopyFault) (given : Result (List ℕ) ℕ) → answer_of f ≢ answer_given given
fault_not_given fault.NoMemory (Ok body) is = absurd (cc is)
fault_not_given fault.NoMemory (Err offset) is = absurd (cc is)
fault_not_given fault.DiskFault (Ok body) is = absurd (cc is)
fault_not_given fault.DiskFault (Err offset) is = absurd (cc is)
fault_not_given (fault.Damaged recorded found) (Ok body) is = absurd (cc is)
fault_not_given (fault.Damaged recorded found) (Err offset) is = absurd (cc is)

-- What is read.

-- a restore by an id reads that image
pub one_read : (id : BackupId) (copy : Option ℕ) (class : RequestClass) → class ≡ restore id copy → (moment : ℕ) (s : State) → id ∷ [] ≡ images_read class moment s
one_read id copy class is moment s = ap (λ (c : RequestClass). images_read c moment s) (sym is)

pub only_read : (id other : BackupId) → Contains (id ∷ []) other → id ≡ other
only_read id other (zero, lt, is) = is
only_read id other (suc k, lt, is) = absurd (omega arith)

-- Damage among them.

pub damaged_so : (c : DiskImage) (l : Ledger) (ids : List BackupId) (f : CopyFault) (recorded found : List ℕ) → ReadsFail c l ids f → answer_of f ≡ Damaged recorded found → IsOneDamaged c l ids recorded found
damaged_so c l ids fault.NoMemory recorded found fails is = absurd (cc is)
damaged_so c l ids fault.DiskFault recorded found fails is = absurd (cc is)
damaged_so c l ids (fault.Damaged first second) recorded found fails is =
    let first_is : first ≡ recorded = cc is in
    let second_is : second ≡ found = cc is in
    subst (λ (r : List ℕ). IsOneDamaged c l ids r found) first_is (subst (λ (r : List ℕ). IsOneDamaged c l ids first r) second_is fails)

-- a read of one of some images
pub one_fails : (c : DiskImage) (l : Ledger) → IsLedger l → (id : BackupId) → has_image id l.outline.images ≡ true → (ids : List BackupId) → Contains ids id → (f : CopyFault)
    → ((image : Image) (copy : CopyRecord) → IsImageOf l id image copy → ReadingFails c l image.entry copy f) → ReadsFail c l ids f
one_fails c l order id there ids among fault.NoMemory fails = tt
one_fails c l order id there ids among fault.DiskFault fails = tt
one_fails c l order id there ids among (fault.Damaged recorded found) fails =
    let one = image_there l order id there in
    record { id = id; among = among; image = record { image = one.0; copy = one.1; is = one.2; damaged = fails one.0 one.1 one.2 } }

-- after a look round
pub fails_before : (old mid : Disk) → LookedAround old mid → (l : Ledger) (ids : List BackupId) (f : CopyFault) → ReadsFail mid.seen l ids f → ReadsFail old.seen l ids f
fails_before old mid looked l ids f fails = subst (λ (c : DiskImage). ReadsFail c l ids f) (same_seen old mid looked) fails

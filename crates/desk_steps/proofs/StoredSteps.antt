-- What a backup leaves that was stored, and one that wasn't.
use Rattle.desk_model.proofs.Common.{◌≡◌, ◌≢◌, ◌≤◌, ◌<◌, ◌+◌, ◌∙◌, ℕ, Bool, true, false, List, codes, length, max, refl, sym, ap, subst, arith, if◌then◌else◌, ◌&&◌, nat_lt, nat_tests, and_parts, Option, Some, None, Answer, BackupId, Request, State, StorageUnit, first_refusal, unless_refused, step, IsBase}
use Rattle.site_types.specs.Classes.{RequestClass, site_change, site_file, backup, restore, restore_at, class_of}
use Rattle.site_types.specs.declared.answer.Answer.TheVariants as answer
use Rattle.site_types.specs.declared.image.Base.{Base}
use Rattle.site_types.specs.declared.image.Base.TheVariants as base
use Rattle.site_types.specs.declared.image.ImageRecord.{ImageRecord}
use Rattle.vault_disk.specs.Disk.{Disk}
use Rattle.segment_pool.specs.Faults.{IsDiskFault}
use Rattle.segment_pool.specs.declared.fault.PoolFault.{PoolFault}
use Rattle.segment_pool.specs.declared.fault.PoolFault.TheVariants as fault
use Rattle.pool_journal.specs.declared.entry.WholeImage.{WholeImage}
use Rattle.policy_book.specs.Changes.{client_sealed, last_known}
use Rattle.image_catalogue.specs.Images.{record_named, with_record}
use Rattle.desk_model.specs.Backups.{segment_refusals}
use Rattle.vault_ledger.specs.Fitting.{image_fits, whole_entry}
use Rattle.vault_ledger.specs.Keeping.{Between, KeptLedger}
use Rattle.vault_ledger.specs.Ledger.{Ledger, state_over, with_backup}
use Rattle.vault_ledger.specs.Sealing.{HasSlots, SealingFails, pieces_after, pieces_before, state_sealed}
use Rattle.vault_ledger.specs.Storage.{Follows, IsStored, IsUnitFor, IsUnstored, StorageState}
use Rattle.vault_ledger.proofs.FittingImages.{fits_by}
use Rattle.vault_ledger.proofs.SealedBackups.{nothing_between}
use Rattle.desk_index.specs.Answers.{IsOfStep, IsRefusal, MayFail, places_first}
use Rattle.desk_index.specs.Index.{IsAdmitted, IsIndexOf, SameLists}
use Rattle.desk_index.specs.declared.index.Index.{Index}
use Rattle.desk_index.proofs.AdmittedImages.{admitted_index, fresh_in}
use Rattle.desk_steps.specs.Backups.{SealsNow, backs_up, is_backup, unstored_answer}
use Rattle.desk_steps.specs.Steps.{StepsOver}
use Rattle.desk_steps.proofs.StepCases.{failed_over}

-- Answers.

places : (class : RequestClass) → backs_up class ≡ true → places_first class ≡ true
places (site_change request) is = absurd (cc is)
places site_file is = absurd (cc is)
places (backup client policy schedule start) is = refl
places (restore id copy) is = absurd (cc is)
places (restore_at client policy before) is = absurd (cc is)

pub unstored_kind : (f : PoolFault) (slots : ℕ) → IsOfStep (unstored_answer f slots)
unstored_kind fault.NoMemory slots = tt
unstored_kind fault.DiskFault slots = tt
unstored_kind (fault.Damaged recorded found) slots = tt
unstored_kind (fault.Full count) slots = λ same. absurd (omega (arith, ap length same))

-- where it is a refusal the disk didn't fail
pub refusal_other : (f : PoolFault) (slots : ℕ) → IsRefusal (unstored_answer f slots) → IsDiskFault f → ⊥
refusal_other fault.NoMemory slots refusal disk = disk
refusal_other fault.DiskFault slots refusal disk = refusal
refusal_other (fault.Damaged recorded found) slots refusal disk = disk
refusal_other (fault.Full count) slots refusal disk = disk

pub memory_so : (f : PoolFault) (slots : ℕ) → unstored_answer f slots ≡ answer.OutOfMemory → f ≡ fault.NoMemory
memory_so fault.NoMemory slots is = refl
memory_so fault.DiskFault slots is = absurd (cc is)
memory_so (fault.Damaged recorded found) slots is = absurd (cc is)
memory_so (fault.Full count) slots is = absurd (cc is)

pub disk_so : (f : PoolFault) (slots : ℕ) → unstored_answer f slots ≡ answer.DiskFault → f ≡ fault.DiskFault
disk_so fault.NoMemory slots is = absurd (cc is)
disk_so fault.DiskFault slots is = refl
disk_so (fault.Damaged recorded found) slots is = absurd (cc is)
disk_so (fault.Full count) slots is = absurd (cc is)

-- The index.

-- the base of an image that fits is from 1 on
pub base_some : (l : Ledger) (w : WholeImage) → image_fits l.outline w ≡ true → w.base ≢ base.Time 0
base_some l w fits zero_is = let low : (1 ≤ 0) × (0 < w.id.time) = subst (λ (b : Base). IsBase b w.id.time) zero_is (fits_by l.outline w fits).base in absurd (omega (arith, low.0))

-- the storage of an index into which an image was taken follows as before
pub follows_still : (l : Ledger) (w : WholeImage) (before middle : Index) → IsIndexOf l before → IsAdmitted w before middle → Follows l middle.storage
follows_still l w before middle of admitted = subst (Follows l) (sym admitted.storage) of.follows

-- with a storage that follows the backup it is that of the ledger with it
pub stored_index : (l : Ledger) (w : WholeImage) (bytes : List ℕ) (old new : Disk) (end end' : ℕ) (before middle : Index) (storage : StorageState) → IsIndexOf l before → IsAdmitted w before middle → (stored : IsStored l w bytes old new end end' storage) → IsIndexOf (with_backup w stored.segments l) (record middle { storage = storage })
stored_index l w bytes old new end end' before middle storage of admitted stored =
    admitted_index l w stored.segments before (record before { storage = storage }) (record middle { storage = storage }) of (record { site = refl; catalogue = refl })
    (record { site = admitted.site; catalogue = admitted.catalogue; storage = refl }) stored.follows

-- an image that was taken in is taken out again
pub lists_back : (l : Ledger) (w : WholeImage) (before middle after : Index) (id : BackupId) (last : Option ℕ) → IsIndexOf l before → image_fits l.outline w ≡ true → IsAdmitted w before middle → id ≡ w.id → last ≡ last_known w.id.client before.site.book
    → ((b : Index) (image : ImageRecord) → id ≡ image.id → record_named image.id b.catalogue ≡ None → middle.site ≡ record (b.site) { book = client_sealed image.id.client image.id.time b.site.book } → middle.catalogue ≡ with_record image b.catalogue → last ≡ last_known image.id.client b.site.book → (after.site ≡ b.site) × (after.catalogue ≡ b.catalogue))
    → SameLists before after
lists_back l w before middle after id last of fits admitted id_is last_is back =
    let both = back before (whole_entry before.site.book w) id_is (fresh_in l w before of fits) admitted.site admitted.catalogue last_is in
    record { site = both.0; catalogue = both.1 }

pub index_back : (l : Ledger) (before after : Index) → IsIndexOf l before → SameLists before after → Follows l after.storage → IsIndexOf l after
index_back l before after of same follows = record { site = same.site ∙ of.site; listed = same.catalogue ∙ of.listed; follows = follows }

-- The step.

no_refusal : (before after slots : ℕ) → (before < after → after ≤ slots) → (nat_lt before after && nat_lt slots after) ≡ false
no_refusal before after slots enough = at (nat_lt before after) refl
  where
    at : (b : Bool) → nat_lt before after ≡ b → (b && nat_lt slots after) ≡ false
    at true more = let fits = enough (grind (arith, nat_tests, more)) in grind (arith, nat_tests, fits)
    at false none = refl

module _ (l : Ledger) (request : Request) (is : is_backup request ≡ true) (payload : List ℕ) (moment : ℕ) (w : WholeImage) (bytes line : List ℕ) (seals : SealsNow l request payload moment w bytes line) (unit : StorageUnit) (is_for : IsUnitFor l w unit) (old new : Disk) (end end' : ℕ) where
  abbrev s : State
  s = state_over old.seen l

  abbrev t : State
  t = state_sealed s w bytes

  abbrev before : ℕ
  before = length (pieces_before s w)

  abbrev after : ℕ
  after = length (pieces_after s w bytes)

  abbrev lacks : Bool
  lacks = nat_lt before after && nat_lt unit.slots after

  abbrev many : Answer
  many = answer.TooMany (codes "segments") (max unit.slots before + 1) unit.slots

  abbrev done : Bool → Answer × State
  done b = unless_refused s (if b then Some many else None) (answer.Done line, t)

  abbrev pub Seals : Type 0
  Seals = old.tells → KeptLedger old end l → Between s t old new

  abbrev pub Rests : Type 0
  Rests = old.tells → KeptLedger old end l → (HasSlots unit.slots s w bytes → ⊥) → Between s s old new

  step_is : KeptLedger old end l → step s request payload moment ≡ done lacks
  step_is kept = seals.steps old.seen kept.is_true ∙ ap (λ (u : StorageUnit). unless_refused s (first_refusal (segment_refusals u (pieces_before s w) (pieces_after s w bytes))) (answer.Done line, t)) (sym is_for.unit_is)

  -- there are slots
  step_done : KeptLedger old end l → HasSlots unit.slots s w bytes → step s request payload moment ≡ (answer.Done line, t)
  step_done kept has = step_is kept ∙ ap done (no_refusal before after unit.slots has)

  -- or there aren't
  step_refused : KeptLedger old end l → before < after → unit.slots < after → step s request payload moment ≡ (many, s)
  step_refused kept more few = step_is kept ∙ ap done (refused more few)
    where
      refused : before < after → unit.slots < after → lacks ≡ true
      refused more few = grind (arith, nat_tests, more, few)

  pub done_over : (storage : StorageState) (stored : IsStored l w bytes old new end end' storage) (index : Index) → IsIndexOf (with_backup w stored.segments l) index → Seals → (old.tells → KeptLedger old end l → HasSlots unit.slots s w bytes) → StepsOver l request payload moment (answer.Done line) old new end end' index
  done_over storage stored index of between slots = record {
    goes_on = λ other. record {
      ledger = with_backup w stored.segments l;
      is = of;
      says = stored.says;
      kept = λ told kept.
          let more = stored.kept told kept in
          (more.0, more.1 ∙ sym (ap (λ (p : Answer × State). p.1) (step_done kept (slots told kept))));
    };
    from = λ told kept.
        let step_so = step_done kept (slots told kept) in
        record {
          answers = sym (ap (λ (p : Answer × State). p.0) step_so);
          stops = subst (λ (u : State). Between s u old new) (sym (ap (λ (p : Answer × State). p.1) step_so)) (between told kept);
        };
  }

  abbrev Failed : Answer × State → Type 0
  Failed p = MayFail (class_of request) p.0 × Between s p.1 old new

  -- the disk failed: where there are slots the record may be there, and else it isn't
  disk_failed : old.tells → KeptLedger old end l → Seals → Rests → MayFail (class_of request) (step s request payload moment).0 × Between s (step s request payload moment).1 old new
  disk_failed told kept between unfilled = at lacks refl
    where
      at : (b : Bool) → lacks ≡ b → Failed (step s request payload moment)
      at false has = subst Failed (sym (step_is kept ∙ ap done has)) (tt, between told kept)
      at true few =
          let both = and_parts (nat_lt before after) (nat_lt unit.slots after) few in
          let more = both.0 in
          let less = both.1 in
          subst Failed (sym (step_is kept ∙ ap done few)) (
            (refl, places (class_of request) is),
            unfilled told kept (λ has.
                let enough = has (grind (arith, nat_tests, more)) in
                absurd (grind (arith, nat_tests, less, enough))),
          )

  pub fault_over : (f : PoolFault) (storage : StorageState) (index : Index) → ((IsDiskFault f → ⊥) → IsUnstored l old new end end' storage) → ((IsDiskFault f → ⊥) → IsIndexOf l index)
      → (old.tells → KeptLedger old end l → SealingFails unit.slots s w bytes f) → Seals → Rests → (f ≡ fault.NoMemory → new ≡ old) → StepsOver l request payload moment (unstored_answer f unit.slots) old new end end' index
  fault_over fault.DiskFault storage index unstored of fails between unfilled memory = failed_over l request payload moment old new end end' index (λ told kept. disk_failed told kept between unfilled)
  fault_over fault.NoMemory storage index unstored of fails between unfilled memory = record {
    goes_on = λ other. record {
      ledger = l;
      is = of (λ disk. disk);
      says = (unstored (λ disk. disk)).says;
      kept = (unstored (λ disk. disk)).kept;
    };
    from = λ told kept. record {
      answers = tt;
      stops = subst (λ (d : Disk). Between s s old d) (sym (memory refl)) (nothing_between l s old end kept);
    };
  }
  fault_over (fault.Damaged recorded found) storage index unstored of fails between unfilled memory = record {
    goes_on = λ other. record {
      ledger = l;
      is = of (λ disk. disk);
      says = (unstored (λ disk. disk)).says;
      kept = λ told kept. absurd (fails told kept);
    };
    from = λ told kept. absurd (fails told kept);
  }
  fault_over (fault.Full count) storage index unstored of fails between unfilled memory = record {
    goes_on = λ other. record {
      ledger = l;
      is = of (λ disk. disk);
      says = (unstored (λ disk. disk)).says;
      kept = λ told kept.
          let full = fails told kept in
          let more = (unstored (λ disk. disk)).kept told kept in
          (more.0, more.1 ∙ sym (ap (λ (p : Answer × State). p.1) (step_refused kept full.0 full.1)));
    };
    from = λ told kept.
        let full = fails told kept in
        let step_so = step_refused kept full.0 full.1 in
        let few = full.1 in
        record {
          answers = ap (λ (n : ℕ). answer.TooMany (codes "segments") n unit.slots) full.2 ∙ sym (ap (λ (p : Answer × State). p.0) step_so);
          stops = subst (λ (u : State). Between s u old new) (sym (ap (λ (p : Answer × State). p.1) step_so))
              (unfilled told kept (λ has. let enough = has full.0 in absurd (omega (arith, enough, few))));
        };
  }

-- A restore of an image by its id.
use Rattle.desk_model.proofs.Common.{◌≡◌, ◌≢◌, ◌∙◌, ℕ, true, List, [], length, map, refl, sym, ap, subst, Option, Some, None, is_some, Answer, Request, BackupId, CopyRecord, State, Image, first_refusal, has_image, image_named, record_named}
use Rattle.site_types.specs.Classes.{RequestClass, class_of, restore}
use Rattle.site_types.specs.declared.answer.Answer.TheVariants.{Done}
use Rattle.site_types.specs.declared.image.ImageRecord.{ImageRecord}
use Rattle.vault_disk.specs.Disk.{Disk, Image as DiskImage}
use Rattle.vault_disk.specs.Steps.{LookedAround}
use Rattle.copy_fragments.specs.declared.whole_copy.CopyFault.{CopyFault}
use Rattle.copy_fragments.specs.declared.whole_copy.CopyFault.TheVariants as fault
use Rattle.desk_model.specs.Restores.{restore_refusals}
use Rattle.desk_model.proofs.ImageLists.{has_entry}
use Rattle.desk_rules.specs.declared.decision.Decision.{Decision}
use Rattle.desk_rules.specs.Decisions.{IsDecision}
use Rattle.desk_rules.specs.Seen.{blank, seen}
use Rattle.desk_rules.proofs.SeenLemmas.{entries_seen}
use Rattle.vault_ledger.specs.Keeping.{KeptLedger}
use Rattle.vault_ledger.specs.Ledger.{Ledger, are_true, state_over}
use Rattle.vault_ledger.specs.Storage.{ReadingFails}
use Rattle.desk_index.specs.Answers.{IsRefused, IsStepRefusal, MayFail}
use Rattle.desk_index.specs.Index.{IsIndexOf}
use Rattle.desk_index.specs.declared.index.Index.{Index}
use Rattle.desk_steps.specs.Steps.{IsRefusedOverTrue, StepsOver}
use Rattle.desk_steps.specs.Readings.{GivesImage, IsImageOf, answer_of, bytes_over}
use Rattle.desk_steps.proofs.DecidedSteps.{Decided, decided_over, decided_seen, done_none, refused_so, some_so, step_so}
use Rattle.desk_steps.specs.Asked.{GivesNothing}
use Rattle.desk_steps.proofs.AskedImages.{first_gives}
use Rattle.desk_steps.proofs.ReadImages.{image_there, named_has, undamaged_one}
use Rattle.desk_steps.proofs.StepCases.{Stays, looked_over}

-- What is decided of a restore.

module _ (request : Request) (id : BackupId) (copy : Option ℕ) (restores : class_of request ≡ restore id copy) (payload : List ℕ) (moment : ℕ) (index : Index) (size : ℕ) (d : Decision) (size_is : length payload ≡ size) (decided : Decided index request size moment d) where
  abbrev class : RequestClass
  class = restore id copy

  refused_on : (s : State) → IsDecision s request payload moment d → ((body : List ℕ) → d.answer ≢ Done body) → IsStepRefusal d.answer × IsRefused s request payload moment d.answer
  refused_on s here other = refused_so s request class payload moment d restores here d.answer (some_so s request class payload moment d restores here (λ answer_is change_is. other [] answer_is))

  pub refusal_gives : ((body : List ℕ) → d.answer ≢ Done body) → GivesNothing d.answer
  refusal_gives other =
      first_gives (restore_refusals (image_named id (seen index.site index.catalogue).images) id copy) d.answer (tt, (tt, (tt, tt)))
      (some_so (seen index.site index.catalogue) request class payload moment d restores (decided_seen index request payload size moment d size_is decided) (λ answer_is change_is. other [] answer_is))

  pub refusal_plain : ((body : List ℕ) → d.answer ≢ Done body) → IsStepRefusal d.answer
  refusal_plain other = (refused_on (seen index.site index.catalogue) (decided_seen index request payload size moment d size_is decided) other).0

  module _ (l : Ledger) (is : IsIndexOf l index) where
    here : (c : DiskImage) → are_true c l l.outline.stored ≡ true → IsDecision (state_over c l) request payload moment d
    here c all = decided_over index request payload size moment d size_is decided l is c all

    pub refusal_over : ((body : List ℕ) → d.answer ≢ Done body) → IsRefusedOverTrue l request payload moment d.answer
    refusal_over other c all = (refused_on (state_over c l) (here c all) other).1

    -- what is done is of an image that is there
    pub image_has : (body : List ℕ) → d.answer ≡ Done body → has_image id l.outline.images ≡ true
    image_has body done =
        sym (has_entry id l.outline.images) ∙ ap (λ (es : List ImageRecord). is_some (record_named id es)) (sym is.listed ∙ sym (entries_seen index.catalogue)) ∙ has_entry id images
        ∙ there (image_named id images) refl (done_none (seen index.site index.catalogue) request class payload moment d restores (decided_seen index request payload size moment d size_is decided) body done)
      where
        images : List Image
        images = map blank index.catalogue

        there : (o : Option Image) → image_named id images ≡ o → first_refusal (restore_refusals o id copy) ≡ None → has_image id images ≡ true
        there None is_none none = absurd (cc none)
        there (Some image) is_some none = named_has id images image is_some

    pub gives_image : (body : List ℕ) → d.answer ≡ Done body → GivesImage l id request payload moment
    gives_image body done c all =
        let this = here c all in
        step_so (state_over c l) request class payload moment d restores this (done_none (state_over c l) request class payload moment d restores this body done)

-- What is read is answered.

module _ (l : Ledger) (index : Index) (is : IsIndexOf l index) (id : BackupId) (there : has_image id l.outline.images ≡ true) (request : Request) (payload : List ℕ) (moment : ℕ) (gives : GivesImage l id request payload moment) (old new : Disk) (end : ℕ) (looked : old.tells → LookedAround old new) where
  pub given_over : (bytes : List ℕ) → (old.tells → bytes ≡ bytes_over old.seen l id) → StepsOver l request payload moment (Done bytes) old new end end index
  given_over bytes given = looked_over l request payload moment (Done bytes) old new end index is looked (λ told kept.
      let stepped = gives old.seen kept.is_true in
      (ap Done (given told) ∙ sym (ap (λ (p : Answer × State). p.0) stepped), sym (ap (λ (p : Answer × State). p.1) stepped)))

  fault_stays : (f : CopyFault) → (old.tells → (image : Image) (copy : CopyRecord) → IsImageOf l id image copy → ReadingFails old.seen l image.entry copy f) → old.tells → KeptLedger old end l → Stays (state_over old.seen l) request payload moment (answer_of f)
  fault_stays fault.NoMemory fails told kept = (tt, refl)
  fault_stays fault.DiskFault fails told kept = (subst (MayFail (class_of request)) (sym (ap (λ (p : Answer × State). p.0) (gives old.seen kept.is_true))) tt, tt)
  fault_stays (fault.Damaged recorded found) fails told kept =
      let one = image_there l is.follows.order id there in
      absurd (undamaged_one l is.follows.order id one.0 one.1 one.2 old.seen kept.is_true (fault.Damaged recorded found) (fails told one.0 one.1 one.2))

  pub fault_over : (f : CopyFault) → (old.tells → (image : Image) (copy : CopyRecord) → IsImageOf l id image copy → ReadingFails old.seen l image.entry copy f) → StepsOver l request payload moment (answer_of f) old new end end index
  fault_over f fails = looked_over l request payload moment (answer_of f) old new end index is looked (fault_stays f fails)

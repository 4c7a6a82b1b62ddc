-- A restore of a client under a policy as it was at a moment.
use Rattle.desk_model.proofs.Common.{◌≡◌, ◌≢◌, ◌∙◌, ◌-◌, ⊎_elim, ℕ, zero, suc, Bool, true, false, List, [], ◌∷◌, length, map, take, drop, refl, sym, ap, subst, arith, Option, Some, None, Result, Ok, Err, is_none, is_some, unwrap_or, Contains, Answer, Request, BackupId, State, Image, first_refusal, has_image, step, unless_refused, record_named, same_id, false≢true}
use Rattle.std.specs.Result.{result_err, result_unwrap_or}
use Rattle.std.proofs.lemmas.List.{take-append-drop}
use Rattle.std.proofs.lemmas.List.Elements.{Contains-append_right}
use Rattle.site_types.specs.Classes.{RequestClass, restore_at, class_of}
use Rattle.site_types.specs.declared.answer.Answer.TheVariants.{Done, BadStream}
use Rattle.site_types.specs.declared.image.ImageRecord.{ImageRecord}
use Rattle.vault_disk.specs.Disk.{Disk, Image as DiskImage}
use Rattle.vault_disk.specs.Steps.{LookedAround}
use Rattle.copy_fragments.specs.declared.whole_copy.CopyFault.{CopyFault}
use Rattle.copy_fragments.specs.declared.whole_copy.CopyFault.TheVariants as fault
use Rattle.restore_engine.specs.Chains.{Chain, chain_at}
use Rattle.restore_engine.proofs.ReferenceLemmas.{chain_kept}
use Rattle.desk_model.specs.Restores.{bytes_with, chain_asked, given_by, has_files, ids_of, last_bytes, missing_of, restore_at_case}
use Rattle.desk_model.proofs.ImageLists.{has_entry, same_self}
use Rattle.desk_model.proofs.Passing.{all_passed, none_passes}
use Rattle.desk_rules.specs.declared.decision.Decision.{Decision}
use Rattle.desk_rules.specs.Decisions.{IsDecision}
use Rattle.desk_rules.specs.Seen.{seen}
use Rattle.desk_rules.proofs.SeenLemmas.{entries_seen}
use Rattle.vault_ledger.specs.Ledger.{Ledger, are_true, state_over}
use Rattle.vault_ledger.proofs.SoundLedgers.{entries_over}
use Rattle.desk_index.specs.Answers.{IsRefused, IsStepRefusal, MayFail, reads_first}
use Rattle.desk_index.specs.Index.{IsIndexOf}
use Rattle.desk_index.specs.declared.index.Index.{Index}
use Rattle.desk_steps.specs.Steps.{IsRefusedOverTrue, StepsOver}
use Rattle.desk_steps.specs.Readings.{IsUndamaged, answer_of, bytes_over}
use Rattle.desk_steps.specs.Asked.{GivesNothing, answer_given, images_read, wanted}
use Rattle.desk_steps.specs.Chains.{GivesChain, IsGiven, files_under}
use Rattle.desk_steps.proofs.DecidedSteps.{Decided, decided_over, decided_seen, done_none, refused_so, some_so, step_so}
use Rattle.desk_steps.proofs.AskedImages.{first_gives}
use Rattle.desk_steps.proofs.StepCases.{Stays, looked_over}

-- The images that are wanted.

pub wanted_in : (files : Bool) (ids : List BackupId) (id : BackupId) → Contains (wanted files ids) id → Contains ids id
wanted_in true ids id among = among
wanted_in false ids id among = subst (λ (l : List BackupId). Contains l id) (take-append-drop (length ids - 1) ids) (Contains-append_right (take (length ids - 1) ids) (drop (length ids - 1) ids) id among)

last_from : (images : List Image) (n : ℕ) (ids : List BackupId) → suc n ≡ length ids → last_bytes (bytes_with images (drop n ids)) ≡ last_bytes (bytes_with images ids)
last_from images n [] is = absurd (omega (arith, is))
last_from images zero (id ∷ ids) is = refl
last_from images (suc n) (id ∷ []) is = absurd (omega (arith, is))
last_from images (suc n) (id ∷ next ∷ ids) is = last_from images n (next ∷ ids) (omega (arith, is))

last_same : (images : List Image) (ids : List BackupId) → last_bytes (bytes_with images (drop (length ids - 1) ids)) ≡ last_bytes (bytes_with images ids)
last_same images [] = refl
last_same images (id ∷ ids) = last_from images (length (id ∷ ids) - 1) (id ∷ ids) (omega arith)

given_wanted : (files : Bool) (images : List Image) (ids : List BackupId) → given_by files (bytes_with images (wanted files ids)) ≡ given_by files (bytes_with images ids)
given_wanted true images ids = refl
given_wanted false images ids = ap Ok (last_same images ids)

-- what is answered with what is given
given_so : (s : State) (given : Result (List ℕ) ℕ) → unless_refused s (first_refusal ((is_some (result_err given), BadStream (unwrap_or (result_err given) 0)) ∷ [])) (Done (result_unwrap_or given []), s) ≡ (answer_given given, s)
given_so s (Ok body) = refl
given_so s (Err offset) = refl

-- What is decided of such a restore.

module _ (request : Request) (client policy : List ℕ) (before : Option ℕ) (restores : class_of request ≡ restore_at client policy before) (payload : List ℕ) (moment : ℕ) (index : Index) (size : ℕ) (d : Decision) (size_is : length payload ≡ size) (decided : Decided index request size moment d) where
  abbrev class : RequestClass
  class = restore_at client policy before

  abbrev latest : ℕ
  latest = unwrap_or before moment

  abbrev start : State
  start = seen index.site index.catalogue

  seen_so : IsDecision start request payload moment d
  seen_so = decided_seen index request payload size moment d size_is decided

  first_on : (s : State) → IsDecision s request payload moment d → ((body : List ℕ) → d.answer ≢ Done body) → first_refusal (restore_at_case client policy latest s).refusals ≡ Some d.answer
  first_on s this other = some_so s request class payload moment d restores this (λ answer_is change_is. other [] answer_is)

  refused_on : (s : State) → IsDecision s request payload moment d → ((body : List ℕ) → d.answer ≢ Done body) → IsStepRefusal d.answer × IsRefused s request payload moment d.answer
  refused_on s this other = refused_so s request class payload moment d restores this d.answer (first_on s this other)

  pub chain_refusal_plain : ((body : List ℕ) → d.answer ≢ Done body) → IsStepRefusal d.answer
  chain_refusal_plain other = (refused_on start seen_so other).0

  pub chain_refusal_gives : ((body : List ℕ) → d.answer ≢ Done body) → GivesNothing d.answer
  chain_refusal_gives other = first_gives (restore_at_case client policy latest start).refusals d.answer (tt, (tt, (tt, (tt, (tt, tt))))) (first_on start seen_so other)

  here : (l : Ledger) → IsIndexOf l index → (c : DiskImage) → are_true c l l.outline.stored ≡ true → IsDecision (state_over c l) request payload moment d
  here l is c all = decided_over index request payload size moment d size_is decided l is c all

  pub chain_refusal_over : ((body : List ℕ) → d.answer ≢ Done body) → (l : Ledger) → IsIndexOf l index → IsRefusedOverTrue l request payload moment d.answer
  chain_refusal_over other l is c all = (refused_on (state_over c l) (here l is c all) other).1

  module _ (body : List ℕ) (done : d.answer ≡ Done body) where
    none_on : (s : State) → IsDecision s request payload moment d → first_refusal (restore_at_case client policy latest s).refusals ≡ None
    none_on s this = done_none s request class payload moment d restores this body done

    -- there is a chain, and it is whole
    pub chain_whole : (ids : List BackupId) × (chain_at policy client latest index.catalogue ≡ Some (Ok ids))
    chain_whole =
        let passed = all_passed (restore_at_case client policy latest start).refusals (none_on start seen_so) in
        let found = there (chain_asked client policy latest start) passed.1.1.0 passed.1.1.1.0 in
        (found.0, ap (chain_at policy client latest) (sym (entries_seen index.catalogue)) ∙ found.1)
      where
        there : (o : Option Chain) → is_none o ≡ false → is_some (missing_of o) ≡ false → (ids : List BackupId) × (o ≡ Some (Ok ids))
        there None some whole = absurd (cc some)
        there (Some (Ok ids)) some whole = (ids, refl)
        there (Some (Err missing)) some whole = absurd (cc whole)

    module _ (ids : List BackupId) (found : chain_at policy client latest index.catalogue ≡ Some (Ok ids)) (l : Ledger) (is : IsIndexOf l index) where
      -- each of its images is there
      pub chain_there : (id : BackupId) → Contains ids id → has_image id l.outline.images ≡ true
      chain_there id among =
          let kept = chain_kept policy client latest index.catalogue ids found id among in
          let same : same_id kept.0.id id ≡ true = ap (λ (x : BackupId). same_id x id) kept.2 ∙ same_self id in
          sym (has_entry id l.outline.images) ∙ ap (λ (es : List ImageRecord). is_some (record_named id es)) (sym is.listed) ∙ is_there (is_some (record_named id index.catalogue)) refl kept.0 kept.1 same
        where
          is_there : (b : Bool) → is_some (record_named id index.catalogue) ≡ b → (i : ImageRecord) → Contains index.catalogue i → same_id i.id id ≡ true → b ≡ true
          is_there true there i inside same = refl
          is_there false none i inside same = absurd (false≢true (sym (none_passes (λ (x : ImageRecord). same_id x.id id) index.catalogue none i inside) ∙ same))

      module _ (files : Bool) (files_are : files ≡ files_under policy index.site.book) where
        files_over : files ≡ has_files policy l.outline
        files_over = files_are ∙ ap (λ s. files_under policy s.book) is.site

        pub chain_asked_for : wanted files ids ≡ images_read (class_of request) moment l.outline
        chain_asked_for =
            (λ j. wanted (files_over j) (ids_of (sym (ap (chain_at policy client latest) (sym is.listed) ∙ found) j)))
            ∙ ap (λ (class : RequestClass). images_read class moment l.outline) (sym restores)

        pub gives_chain : GivesChain l files (wanted files ids) request payload moment
        gives_chain c all =
            let s : State = state_over c l in
            let this : IsDecision s request payload moment d = here l is c all in
            let chain_is : chain_asked client policy latest s ≡ Some (Ok ids) = ap (chain_at policy client latest) (entries_over c l l.outline.images ∙ sym is.listed) ∙ found in
            let given_is : given_by (has_files policy s) (bytes_with s.images (ids_of (chain_asked client policy latest s))) ≡ given_by files (bytes_with s.images (wanted files ids)) =
            (λ j. given_by (sym files_over j) (bytes_with s.images (ids_of (chain_is j)))) ∙ sym (given_wanted files s.images ids) in
            step_so s request class payload moment d restores this (none_on s this)
            ∙ given_so s (given_by (has_files policy s) (bytes_with s.images (ids_of (chain_asked client policy latest s))))
            ∙ ap (λ (g : Result (List ℕ) ℕ). (answer_given g, s)) given_is

-- What is given is answered.

module _ (s : State) (request : Request) (payload : List ℕ) (moment : ℕ) where
  given_stays : (given : Result (List ℕ) ℕ) → step s request payload moment ≡ (answer_given given, s) → (a : Answer) → IsGiven given a → Stays s request payload moment a
  given_stays given stepped a is = ⊎_elim
      (λ lacks. subst (Stays s request payload moment) (sym lacks) (tt, refl))
      (λ same. subst (Stays s request payload moment) (sym same) (at given stepped))
      is
    where
      at : (g : Result (List ℕ) ℕ) → step s request payload moment ≡ (answer_given g, s) → Stays s request payload moment (answer_given g)
      at (Ok body) is = (sym (ap (λ (p : Answer × State). p.0) is), sym (ap (λ (p : Answer × State). p.1) is))
      at (Err offset) is = (sym (ap (λ (p : Answer × State). p.0) is), sym (ap (λ (p : Answer × State). p.1) is))

  unread_stays : reads_first request ≡ true → (given : Result (List ℕ) ℕ) → step s request payload moment ≡ (answer_given given, s) → (f : CopyFault) → IsUndamaged f → Stays s request payload moment (answer_of f)
  unread_stays reads given stepped fault.NoMemory undamaged = (tt, refl)
  unread_stays reads given stepped fault.DiskFault undamaged = (subst (MayFail (class_of request)) (sym (ap (λ (p : Answer × State). p.0) stepped)) (at given), tt)
    where
      at : (g : Result (List ℕ) ℕ) → MayFail (class_of request) (answer_given g)
      at (Ok body) = tt
      at (Err offset) = reads
  unread_stays reads given stepped (fault.Damaged recorded found) undamaged = absurd undamaged

module _ (l : Ledger) (index : Index) (is : IsIndexOf l index) (files : Bool) (ids : List BackupId) (request : Request) (payload : List ℕ) (moment : ℕ) (gives : GivesChain l files ids request payload moment) (old new : Disk) (end : ℕ) (looked : old.tells → LookedAround old new) where
  -- the images were read
  pub chain_over : (images : List (List ℕ)) → (old.tells → images ≡ map (bytes_over old.seen l) ids) → (a : Answer) → IsGiven (given_by files images) a → StepsOver l request payload moment a old new end end index
  chain_over images read a given = looked_over l request payload moment a old new end index is looked (λ told kept.
      given_stays (state_over old.seen l) request payload moment (given_by files (map (bytes_over old.seen l) ids)) (gives old.seen kept.is_true) a (subst (λ (bytes : List (List ℕ)). IsGiven (given_by files bytes) a) (read told) given))

  -- one of them wasn't
  pub unread_over : reads_first request ≡ true → (f : CopyFault) → (old.tells → are_true old.seen l l.outline.stored ≡ true → IsUndamaged f) → StepsOver l request payload moment (answer_of f) old new end end index
  unread_over reads f undamaged = looked_over l request payload moment (answer_of f) old new end index is looked (λ told kept.
      unread_stays (state_over old.seen l) request payload moment reads (given_by files (map (bytes_over old.seen l) ids)) (gives old.seen kept.is_true) f (undamaged told kept.is_true))

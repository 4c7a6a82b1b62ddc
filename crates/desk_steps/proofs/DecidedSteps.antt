-- What a decision over the index of a ledger says of a step.
use Rattle.desk_model.proofs.Common.{◌≡◌, ◌≢◌, ◌∙◌, ℕ, true, List, length, codes, refl, sym, ap, subst, arith, nat_lt, nat_tests, Option, Some, None, Answer, Request, State, Asked, Case, case_of, first_refusal, step, step_of, unless_refused, payload_limit}
use Rattle.site_types.specs.Classes.{RequestClass, site_change, site_file, backup, restore, restore_at, class_of}
use Rattle.site_types.specs.declared.answer.Answer.TheVariants as answer
use Rattle.site_types.specs.declared.answer.Answer.TheVariants.{Done}
use Rattle.vault_disk.specs.Disk.{Image as DiskImage}
use Rattle.desk_model.specs.Backups.{backup_content}
use Rattle.desk_rules.specs.declared.decision.Change.TheVariants.{Nothing}
use Rattle.desk_rules.specs.declared.decision.Decision.{Decision}
use Rattle.desk_rules.specs.Decisions.{Decides, DecidesAs, IsChange, IsDecision, IsStateOf, told}
use Rattle.desk_rules.specs.Seen.{seen}
use Rattle.desk_rules.proofs.SeenLemmas.{entries_seen}
use Rattle.vault_ledger.specs.Ledger.{Ledger, are_true, state_over}
use Rattle.vault_ledger.proofs.SoundLedgers.{entries_over, over_is_sound}
use Rattle.desk_index.specs.Answers.{IsRefused, IsStepRefusal}
use Rattle.desk_index.specs.Index.{IsIndexOf}
use Rattle.desk_index.specs.declared.index.Index.{Index}
use Rattle.desk_index.proofs.Deciding.{sized_seen}
use Rattle.desk_index.proofs.Refusing.{ArePlain, first_plain, plain_settings, refused_as}

-- What a step refuses.

-- a limit of something else than bytes
limited : (kind : List ℕ) (count limit : ℕ) → (kind ≢ codes "bytes") → IsStepRefusal (answer.TooMany kind count limit)
limited kind count limit other = ((λ same. absurd (other same)), tt)

-- too many bytes
too_long : (size : ℕ) → nat_lt payload_limit size ≡ true → IsStepRefusal (answer.TooMany (codes "bytes") size payload_limit)
too_long size more = ((λ same. (refl, grind (arith, nat_tests, more))), tt)

plain_case : (s : State) (class : RequestClass) (payload : List ℕ) (moment : ℕ) → ArePlain (case_of s class payload moment).refusals
plain_case s (site_change request) payload moment = plain_settings request s
plain_case s site_file payload moment = tt
plain_case s (backup client policy schedule start) payload moment =
    ((λ _. limited (codes "images") _ _ (λ same. cc same)), ((λ _. (tt, tt)), ((λ _. (tt, tt)), ((λ _. limited (codes "clients") _ _ (λ same. omega (arith, ap length same))), ((λ _. (tt, tt)), ((λ _. (tt, tt)), ((λ _. (tt, tt)), ((λ _. (tt, tt)), ((λ _. (tt, tt)), ((λ _. limited (codes "time") _ _ (λ same. cc same)), tt))))))))))
plain_case s (restore id copy) payload moment = ((λ _. (tt, tt)), ((λ _. (tt, tt)), (too_long _, tt)))
plain_case s (restore_at client policy before) payload moment = ((λ _. (tt, tt)), ((λ _. (tt, tt)), ((λ _. (tt, tt)), ((λ _. (tt, tt)), (too_long _, tt)))))

-- the content of a backup
pub plain_content : (asked : Asked) (payload : List ℕ) (moment : ℕ) (s : State) → ArePlain (backup_content asked payload moment s)
plain_content asked payload moment s = ((λ _. (tt, tt)), ((λ _. limited (codes "pieces") _ _ (λ same. omega (arith, ap length same))), ((λ _. (tt, tt)), tt)))

-- A decision on a request of this class.

module _ (s : State) (request : Request) (class : RequestClass) (payload : List ℕ) (moment : ℕ) (d : Decision) (class_is : class_of request ≡ class) (decided : IsDecision s request payload moment d) where
  abbrev this : Case
  this = case_of s class payload moment

  abbrev first : Option Answer
  first = first_refusal this.refusals

  abbrev says : Option Answer → Type 0
  says o = DecidesAs o (told class this.answer) (IsChange s class payload moment) d

  said : says first
  said = subst (λ (c : RequestClass). Decides s c payload moment d) class_is decided

  step_is : step s request payload moment ≡ step_of s this
  step_is = ap (λ (c : RequestClass). step_of s (case_of s c payload moment)) class_is

  pub refused_so : (a : Answer) → first ≡ Some a → IsStepRefusal d.answer × IsRefused s request payload moment d.answer
  refused_so a is =
      let answer_is : a ≡ d.answer = sym (subst says is said).0 in
      let plain : IsStepRefusal d.answer = subst IsStepRefusal answer_is (first_plain this.refusals a (plain_case s class payload moment) is) in
      (plain, refused_as s request payload moment d.answer plain.1 (step_is ∙ ap (λ (o : Option Answer). unless_refused s o (unless_refused s (first_refusal this.shown) (this.answer, this.after))) is ∙ ap (λ (x : Answer). (x, s)) answer_is))

  pub passed_so : first ≡ None → (d.answer ≡ told class this.answer) × IsChange s class payload moment d.change
  passed_so none = subst says none said

  pub step_so : first ≡ None → step s request payload moment ≡ unless_refused s (first_refusal this.shown) (this.answer, this.after)
  step_so none = step_is ∙ ap (λ (o : Option Answer). unless_refused s o (unless_refused s (first_refusal this.shown) (this.answer, this.after))) none

  -- what changes something isn't refused
  pub none_so : d.change ≢ Nothing → first ≡ None
  none_so changes = at first refl
    where
      at : (o : Option Answer) → first ≡ o → first ≡ None
      at None is = is
      at (Some a) is = absurd (changes (subst says is said).1)

  -- nor is what is done
  pub done_none : (body : List ℕ) → d.answer ≡ Done body → first ≡ None
  done_none body done = at first refl
    where
      at : (o : Option Answer) → first ≡ o → first ≡ None
      at None is = is
      at (Some a) is = absurd (subst IsStepRefusal done (refused_so a is).0).1

  -- what isn't decided as where nothing refuses it is refused
  pub some_so : ((d.answer ≡ told class this.answer) → IsChange s class payload moment d.change → ⊥) → first ≡ Some d.answer
  some_so other = at first refl
    where
      at : (o : Option Answer) → first ≡ o → first ≡ Some d.answer
      at None is = absurd (other (passed_so is).0 (passed_so is).1)
      at (Some a) is = is ∙ ap Some (sym (subst says is said).0)

-- A decision over an index.

abbrev pub Decided : Index → Request → ℕ → ℕ → Decision → Type 0
Decided index request size moment d = (s : State) (bytes : List ℕ) → IsStateOf index.site index.catalogue s → length bytes ≡ size → IsDecision s request bytes moment d

-- over pools that are true a ledger's state is one that is decided on
pub over_of : (l : Ledger) (index : Index) → IsIndexOf l index → (c : DiskImage) → are_true c l l.outline.stored ≡ true → IsStateOf index.site index.catalogue (state_over c l)
over_of l index is c all =
    let sound = over_is_sound c l is.follows.order all in
    record {
      site_is = sym is.site;
      images_are = entries_over c l l.outline.images ∙ sym is.listed;
      sized = λ image among. (sound.images image among).size;
      idle = sound.no_jobs;
    }

module _ (index : Index) (request : Request) (payload : List ℕ) (size moment : ℕ) (d : Decision) (size_is : length payload ≡ size) (decided : Decided index request size moment d) where
  pub decided_over : (l : Ledger) → IsIndexOf l index → (c : DiskImage) → are_true c l l.outline.stored ≡ true → IsDecision (state_over c l) request payload moment d
  decided_over l is c all = decided (state_over c l) payload (over_of l index is c all) size_is

  pub decided_seen : IsDecision (seen index.site index.catalogue) request payload moment d
  decided_seen = decided (seen index.site index.catalogue) payload (record { site_is = refl; images_are = entries_seen index.catalogue; sized = sized_seen index.catalogue; idle = refl }) size_is

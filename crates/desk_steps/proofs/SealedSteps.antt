-- What a decision over the index of a ledger says of a backup.
use Rattle.std.proofs.Common.{inl, inr}
use Rattle.desk_model.proofs.Common.{◌≡◌, ◌≢◌, ◌≤◌, ◌∙◌, ℕ, Bool, true, false, List, [], ◌∷◌, ◌++◌, length, refl, sym, ap, subst, if◌then◌else◌, Option, Some, None, Result, Ok, Err, unwrap_or, Answer, Request, State, Asked, asked_of, has, policy_name, unit_name, disk0, StorageUnit, Book, first_refusal, unless_refused, last_moment, backup_refusals, image_asked, operations_in, unit_at, pieces, Image, Sound, stored_on}
use Rattle.site_types.specs.Classes.{RequestClass, site_change, site_file, backup, restore, restore_at, class_of}
use Rattle.site_types.specs.declared.answer.Answer.TheVariants.{Done}
use Rattle.site_types.specs.declared.schedule.Start.{Start}
use Rattle.pool_journal.specs.declared.entry.WholeImage.{WholeImage}
use Rattle.desk_model.specs.Backups.{backup_content, backup_done, backup_shown, pieces_held_asked, pieces_needed_asked, segment_refusals, unit_asked}
use Rattle.desk_model.specs.Pieces.{with_pieces}
use Rattle.desk_model.proofs.NamedLemmas.{found_named, some_named}
use Rattle.desk_model.proofs.RuleLemmas.{are_sealed, rules_hold}
use Rattle.desk_rules.specs.declared.content.Content.{Content}
use Rattle.desk_rules.specs.declared.decision.Change.TheVariants.{SealNow}
use Rattle.desk_rules.specs.declared.decision.Decision.{Decision}
use Rattle.desk_rules.specs.declared.decision.JobBody.{JobBody}
use Rattle.desk_rules.specs.declared.decision.JobBody.TheVariants.{Backup}
use Rattle.desk_rules.specs.Contents.{IsShown, policy_in}
use Rattle.desk_rules.specs.Decisions.{IsDecision, IsStateOf, backup_body}
use Rattle.desk_rules.specs.Seen.{seen}
use Rattle.desk_rules.proofs.ContentLemmas.{policy_known}
use Rattle.desk_rules.proofs.SeenLemmas.{entries_seen}
use Rattle.vault_ledger.specs.Fitting.{image_fits, whole_unit}
use Rattle.vault_ledger.specs.Ledger.{Ledger, state_over}
use Rattle.vault_ledger.specs.Sealing.{pieces_after, pieces_before, state_sealed}
use Rattle.vault_ledger.specs.Wellformed.{IsLedger}
use Rattle.vault_ledger.proofs.FittingImages.{fits_by, fits_same}
use Rattle.desk_index.specs.Answers.{IsRefused, IsStepRefusal}
use Rattle.desk_index.specs.Index.{IsIndexOf}
use Rattle.desk_index.specs.declared.index.Index.{Index}
use Rattle.desk_index.proofs.Deciding.{sized_seen}
use Rattle.desk_index.proofs.Refusing.{first_plain, refused_as}
use Rattle.desk_steps.specs.Backups.{SealsNow, backs_up, is_backup, sealed_with, whole_of}
use Rattle.desk_steps.specs.Steps.{IsRefusedOverTrue}
use Rattle.desk_steps.proofs.AllowedBackups.{allowed_fits}
use Rattle.desk_steps.proofs.DecidedSteps.{Decided, decided_over, decided_seen, none_so, over_of, passed_so, plain_content, refused_so, some_so, step_so}

record IsBackup (class : RequestClass) : Type 0 where
  client : List ℕ
  policy : Option (List ℕ)
  schedule : Option (List ℕ)
  start : Option Start
  is : class ≡ backup client policy schedule start

backup_class : (class : RequestClass) → backs_up class ≡ true → IsBackup class
backup_class (backup client policy schedule start) is = record { client = client; policy = policy; schedule = schedule; start = start; is = refl }
backup_class (site_change request) is = absurd (cc is)
backup_class site_file is = absurd (cc is)
backup_class (restore id copy) is = absurd (cc is)
backup_class (restore_at client policy before) is = absurd (cc is)

-- the image of a body has the bytes that it is given
sized_so : (body : JobBody) (size moment : ℕ) → (whole_of body size moment).length ≡ size
sized_so (Backup id policy schedule kind base lifecycle version length) size moment = refl

-- Refusals behind others.

first_behind : (before behind : List (Bool × Answer)) → first_refusal before ≡ None → first_refusal (before ++ behind) ≡ first_refusal behind
first_behind [] behind none = refl
first_behind (r ∷ before) behind none = at r.0 (first_behind before behind) none
  where
    at : (b : Bool) → (first_refusal before ≡ None → first_refusal (before ++ behind) ≡ first_refusal behind) → (if b then Some r.1 else first_refusal before) ≡ None → (if b then Some r.1 else first_refusal (before ++ behind)) ≡ first_refusal behind
    at true later some = absurd (cc some)
    at false later rest = later rest

first_before : (before behind : List (Bool × Answer)) (a : Answer) → first_refusal before ≡ Some a → first_refusal (before ++ behind) ≡ Some a
first_before [] behind a is = absurd (cc is)
first_before (r ∷ before) behind a is = at r.0 (first_before before behind a) is
  where
    at : (b : Bool) → (first_refusal before ≡ Some a → first_refusal (before ++ behind) ≡ Some a) → (if b then Some r.1 else first_refusal before) ≡ Some a → (if b then Some r.1 else first_refusal (before ++ behind)) ≡ Some a
    at true later here = here
    at false later rest = later rest

-- The unit of a backup.

-- its unit has its name
unit_named : (l : Ledger) → IsLedger l → (w : WholeImage) → image_fits l.outline w ≡ true → (unit_at (whole_unit l.outline w) l.outline.site.book).name ≡ whole_unit l.outline w
unit_named l order w fits =
    let one = some_named unit_name name book.units there in
    ap (λ (o : Option StorageUnit). (unwrap_or o disk0).name) one.1 ∙ (found_named unit_name name book.units one.0 one.1).0
  where
    book : Book
    book = l.outline.site.book

    name : List ℕ
    name = whole_unit l.outline w

    there : has unit_name name book.units ≡ true
    there = (are_sealed book.units (operations_in w.lifecycle w.version book) (rules_hold book order.shape.sound.site.lifecycles w.lifecycle w.version (fits_by l.outline w fits).version)).there

-- what is sealed where nothing but its unit's slots may refuse it
module _ (s : State) (asked : Asked) (payload : List ℕ) (size moment : ℕ) where
  abbrev image : Image
  image = image_asked asked payload moment s

  abbrev whole : WholeImage
  whole = whole_of (backup_body asked size moment s) (length image.bytes) moment

  segments_same : (unit_at (whole_unit s whole) s.site.book).name ≡ whole_unit s whole
      → segment_refusals (unit_asked asked s) (pieces_held_asked asked s) (pieces_needed_asked asked payload moment s) ≡ segment_refusals (unit_at (whole_unit s whole) s.site.book) (pieces_before s whole) (pieces_after s whole image.bytes)
  segments_same own = ap (λ (name : List ℕ). segment_refusals (unit_asked asked s) (stored_on name s.stored) (with_pieces (stored_on name s.stored) (pieces (unit_asked asked s).segment image.bytes))) own

  sealed_step : (w : WholeImage) (bytes line : List ℕ) → w ≡ whole → bytes ≡ image.bytes → (unit_at (whole_unit s w) s.site.book).name ≡ whole_unit s w → first_refusal (backup_content asked payload moment s) ≡ None → (backup_done asked payload moment s).0 ≡ Done line
      → unless_refused s (first_refusal (backup_shown asked payload moment s)) (backup_done asked payload moment s) ≡ sealed_with s w bytes line
  sealed_step w bytes line w_is bytes_are own none answer_is =
      let own_whole : (unit_at (whole_unit s whole) s.site.book).name ≡ whole_unit s whole = subst (λ (x : WholeImage). (unit_at (whole_unit s x) s.site.book).name ≡ whole_unit s x) w_is own in
      let shown_is : first_refusal (backup_shown asked payload moment s) ≡ first_refusal (segment_refusals (unit_at (whole_unit s whole) s.site.book) (pieces_before s whole) (pieces_after s whole image.bytes)) =
      first_behind (backup_content asked payload moment s) (segment_refusals (unit_asked asked s) (pieces_held_asked asked s) (pieces_needed_asked asked payload moment s)) none ∙ ap first_refusal (segments_same own_whole) in
      let done_is : backup_done asked payload moment s ≡ (Done line, state_sealed s whole image.bytes) = λ i. (answer_is i, (backup_done asked payload moment s).1) in
      (λ i. unless_refused s (shown_is i) (done_is i)) ∙ (λ i. sealed_with s (sym w_is i) (sym bytes_are i) line)

-- A decision on a backup.

module _ (index : Index) (request : Request) (payload : List ℕ) (size moment : ℕ) (d : Decision) (is : is_backup request ≡ true) (size_is : length payload ≡ size) (decided : Decided index request size moment d) where
  abbrev asks : IsBackup (class_of request)
  asks = backup_class (class_of request) is

  abbrev class : RequestClass
  class = backup asks.client asks.policy asks.schedule asks.start

  abbrev asked : Asked
  asked = asked_of asks.client asks.policy asks.schedule asks.start

  abbrev start : State
  start = seen index.site index.catalogue

  seen_so : IsDecision start request payload moment d
  seen_so = decided_seen index request payload size moment d size_is decided

  -- no image is sealed, or nothing is done: it is refused
  abbrev pub SealsNothing : Type 0
  SealsNothing = (line : List ℕ) (body : JobBody) → d.answer ≡ Done line → d.change ≢ SealNow body

  refused_on : (s : State) → IsDecision s request payload moment d → SealsNothing → IsStepRefusal d.answer × IsRefused s request payload moment d.answer
  refused_on s here other = refused_so s request class payload moment d asks.is here d.answer (some_so s request class payload moment d asks.is here (λ answer_is change_is. other _ (backup_body asked (length payload) moment s) answer_is change_is))

  pub refusal_plain : SealsNothing → IsStepRefusal d.answer
  refusal_plain other = (refused_on start seen_so other).0

  pub refusal_over : (l : Ledger) → IsIndexOf l index → SealsNothing → IsRefusedOverTrue l request payload moment d.answer
  refusal_over l of other c all = (refused_on (state_over c l) (decided_over index request payload size moment d size_is decided l of c all) other).1

  -- an image is sealed
  module _ (body : JobBody) (sealed_is : d.change ≡ SealNow body) where
    passed_on : (s : State) → IsDecision s request payload moment d → first_refusal (backup_refusals asked moment s) ≡ None
    passed_on s here = none_so s request class payload moment d asks.is here (λ nothing. cc (sym sealed_is ∙ nothing))

    body_on : (s : State) → IsDecision s request payload moment d → body ≡ backup_body asked (length payload) moment s
    body_on s here = cc (sym sealed_is ∙ (passed_so s request class payload moment d asks.is here (passed_on s here)).1)

    answer_on : (s : State) → IsDecision s request payload moment d → d.answer ≡ (backup_done asked payload moment s).0
    answer_on s here = (passed_so s request class payload moment d asks.is here (passed_on s here)).0

    start_here : IsStateOf index.site index.catalogue start
    start_here = record { site_is = refl; images_are = entries_seen index.catalogue; sized = sized_seen index.catalogue; idle = refl }

    -- the policy is one of the site
    pub policy_here : has policy_name (policy_in body) index.site.book.policies ≡ true
    policy_here = ap (λ (b : JobBody). has policy_name (policy_in b) index.site.book.policies) (body_on start seen_so) ∙ policy_known asked moment start (passed_on start seen_so)

    -- What refuses its content.

    abbrev pub Shows : Result Content Answer → Type 0
    Shows result = (s : State) (a : Asked) (size moment : ℕ) → IsStateOf index.site index.catalogue s → first_refusal (backup_refusals a moment s) ≡ None → body ≡ backup_body a size moment s → IsShown (backup_content a payload moment s) result

    content_on : (a : Answer) → Shows (Err a) → (s : State) → IsStateOf index.site index.catalogue s → IsDecision s request payload moment d → IsStepRefusal a × IsRefused s request payload moment a
    content_on a shows s state here = elim (shows s asked (length payload) moment state (passed_on s here) (body_on s here)) [
      | inl lacks ↦ subst (λ (x : Answer). IsStepRefusal x × IsRefused s request payload moment x) (sym lacks) ((tt, tt), (tt, refl))
      | inr first ↦
          let plain : IsStepRefusal a = first_plain (backup_content asked payload moment s) a (plain_content asked payload moment s) first in
          (plain, refused_as s request payload moment a plain.1 (step_so s request class payload moment d asks.is here (passed_on s here) ∙ ap (λ (o : Option Answer). unless_refused s o (backup_done asked payload moment s)) (first_before (backup_content asked payload moment s) (segment_refusals (unit_asked asked s) (pieces_held_asked asked s) (pieces_needed_asked asked payload moment s)) a first)))
    ]

    pub content_plain : (a : Answer) → Shows (Err a) → IsStepRefusal a
    content_plain a shows = (content_on a shows start start_here seen_so).0

    pub content_over : (a : Answer) → Shows (Err a) → (l : Ledger) → IsIndexOf l index → IsRefusedOverTrue l request payload moment a
    content_over a shows l of c all = (content_on a shows (state_over c l) (over_of l index of c all) (decided_over index request payload size moment d size_is decided l of c all)).1

    -- What is sealed.

    abbrev pub Makes : List ℕ → Type 0
    Makes bytes = (s : State) (a : Asked) (size moment : ℕ) → IsStateOf index.site index.catalogue s → first_refusal (backup_refusals a moment s) ≡ None → body ≡ backup_body a size moment s → bytes ≡ (image_asked a payload moment s).bytes

    module _ (content : Content) (shows : Shows (Ok content)) (bytes : List ℕ) (makes : Makes bytes) (w : WholeImage) (w_is : w ≡ whole_of body (length bytes) moment) where
      -- in a state with the index's site and images
      module _ (s : State) (state : IsStateOf index.site index.catalogue s) (here : IsDecision s request payload moment d) where
        bytes_on : bytes ≡ (image_asked asked payload moment s).bytes
        bytes_on = makes s asked (length payload) moment state (passed_on s here) (body_on s here)

        none_on : first_refusal (backup_content asked payload moment s) ≡ None
        none_on = shows s asked (length payload) moment state (passed_on s here) (body_on s here)

        whole_on : w ≡ whole_of (backup_body asked (length payload) moment s) (length (image_asked asked payload moment s).bytes) moment
        whole_on = w_is ∙ (λ i. whole_of (body_on s here i) (length (bytes_on i)) moment)

        fits_on : Sound s → moment ≤ last_moment → image_fits s w ≡ true
        fits_on sound early = ap (image_fits s) whole_on ∙ allowed_fits s sound asked payload (length payload) moment early (passed_on s here) none_on

      -- the ledger is the outline of a sound state
      fits_here : (l : Ledger) → IsIndexOf l index → moment ≤ last_moment → image_fits l.outline w ≡ true
      fits_here l of early =
          let shape = of.follows.order.shape in
          let s : State = record (l.outline) { images = shape.images; stored = shape.stored } in
          let state : IsStateOf index.site index.catalogue s = record { site_is = sym of.site; images_are = shape.listed ∙ sym of.listed; sized = λ image among. (shape.sound.images image among).size; idle = shape.sound.no_jobs } in
          sym (fits_same l.outline shape.images shape.stored w shape.listed) ∙ fits_on s state (decided s payload state size_is) shape.sound early

      pub seals_now : (l : Ledger) → IsIndexOf l index → moment ≤ last_moment → (line : List ℕ) → d.answer ≡ Done line → SealsNow l request payload moment w bytes line
      seals_now l of early line line_is = record {
        fits = fits_here l of early;
        long = ap (λ (x : WholeImage). x.length) w_is ∙ sized_so body (length bytes) moment;
        steps = λ c all.
            let s : State = state_over c l in
            let state = over_of l index of c all in
            let here = decided_over index request payload size moment d size_is decided l of c all in
            step_so s request class payload moment d asks.is here (passed_on s here)
            ∙ sealed_step s asked payload (length payload) moment w bytes line (whole_on s state here) (bytes_on s state here) (unit_named l of.follows.order w (fits_here l of early)) (none_on s state here) (sym (answer_on s here) ∙ line_is);
      }

-- The requests of a site file, all of them or none.
use Rattle.std.proofs.Common.{◌≡◌, ◌≢◌, ◌∙◌, ⊎_elim, ◌≤◌, ◌<◌, ◌+◌, ℕ, zero, suc, Bool, true, false, List, [], ◌∷◌, length, drop, get_or, Option, Some, None, Result, Ok, Err, refl, sym, ap, subst, arith}
use Rattle.std.specs.Prelude.{IfOk, IfErr, All, if◌then◌else◌, map, IsUtf8}
use Rattle.std.specs.List.{AllPass}
use Rattle.std.specs.Option.{option_map_or, option_and_then}
use Rattle.std.specs.Str.{is_utf8}
use Rattle.std.proofs.lemmas.List.{at_drop_more, at_drop_all}
use Rattle.std.proofs.lemmas.Str.{IsUtf8-from_is_utf8, is_utf8-from_IsUtf8}
use Rattle.site_types.specs.Classes.{RequestClass, class_of, site_file}
use Rattle.site_types.specs.Lines.{IsFormed, line_of}
use Rattle.site_types.specs.declared.answer.Answer.{Answer}
use Rattle.site_types.specs.declared.answer.Answer.TheVariants.{Done, BadRequest}
use Rattle.site_types.specs.declared.image.ImageRecord.{ImageRecord}
use Rattle.site_types.specs.declared.request.Request.{Request}
use Rattle.site_types.specs.declared.request.Request.TheVariants.{Load}
use Rattle.vault_disk.specs.Disk.{Image as DiskImage}
use Rattle.pool_journal.specs.Entries.{IsStaged}
use Rattle.pool_journal.specs.declared.entry.Entry.TheVariants as entry
use Rattle.policy_book.specs.SiteFile.{site_requests}
use Rattle.desk_model.specs.declared.site.Site.{Site}
use Rattle.desk_model.specs.State.{State}
use Rattle.desk_model.specs.Refusals.{first_refusal, step_of}
use Rattle.desk_model.specs.Settings.{is_setting, setting_refusals, set_by, all_set, count_text, load_of, load_result, file_requests}
use Rattle.desk_model.specs.Step.{case_of, step}
use Rattle.desk_model.proofs.Asking.{line_asks}
use Rattle.desk_rules.specs.Decisions.{Decides, IsDecision, IsStateOf}
use Rattle.desk_rules.specs.declared.decision.Change.TheVariants as change
use Rattle.desk_rules.specs.declared.decision.Decision.{Decision}
use Rattle.desk_rules.specs.Seen.{seen}
use Rattle.desk_rules.proofs.SeenLemmas.{entries_seen}
use Rattle.vault_ledger.specs.Fitting.{settled, settled_by}
use Rattle.vault_ledger.specs.Ledger.{Ledger, state_over, with_outline}
use Rattle.vault_ledger.specs.Storage.{HavePools, StorageState}
use Rattle.vault_ledger.specs.Wellformed.{IsLedger}
use Rattle.vault_ledger.proofs.FollowedSettings.{have_before, set_to}
use Rattle.vault_ledger.proofs.KeptSettings.{set_kept}
use Rattle.vault_ledger.proofs.LedgerStates.{refused_over, set_over_both}
use Rattle.desk_index.specs.Answers.{IsRefusalOf, IsStepRefusal}
use Rattle.desk_index.specs.Changes.{AreOfFile, AreRefused, AreSet, IsReady, IsRefusedOver}
use Rattle.desk_index.specs.Index.{IsIndexOf, IsSet}
use Rattle.desk_index.specs.declared.index.Index.{Index}
use Rattle.desk_index.specs.declared.ready.Ready.{Ready}
use Rattle.desk_index.proofs.Changing.{setting_plain, settles}
use Rattle.desk_index.proofs.Deciding.{sized_seen}
use Rattle.desk_index.proofs.FileLines.{few_requests}
use Rattle.desk_index.proofs.Refusing.{refused_as}

-- what follows a request in a list, where it is refused so or not at all
abbrev unless_set : List Request → State → Option Answer → Result State Answer
unless_set requests t refusal = option_map_or (λ a. Err a) refusal (all_set requests t)

-- One after the other.

-- the requests so far lead from a ledger to that of the index, and the pools of that one are there for the first one too
pub record SetFrom (requests : List Request) (i : ℕ) (l : Ledger) (index : Index) : Type 0 where
  pub outline : State
  pub rest : all_set requests l.outline ≡ all_set (drop i requests) outline
  pub index_is : IsIndexOf (with_outline l outline) index
  pub back : (storage : StorageState) → HavePools (with_outline l outline) storage.pools → HavePools l storage.pools

-- they do so from each ledger of which the index was
pub record SetSoFar (requests : List Request) (i : ℕ) (old index : Index) : Type 0 where
  pub so_far : (l : Ledger) → IsIndexOf l old → SetFrom requests i l index
  pub copies : index.storage.copies ≡ old.storage.copies
  pub catalogue : index.catalogue ≡ old.catalogue

pub none_set : (requests : List Request) (old : Index) → SetSoFar requests 0 old old
none_set requests old = record { so_far = λ l is. record { outline = l.outline; rest = refl; index_is = is; back = λ storage have. have }; copies = refl; catalogue = refl }

module _ (requests : List Request) (i : ℕ) (l : Ledger) (index : Index) (from : SetFrom requests i l index) where
  pub each_set : length requests ≤ i → AreSet l (all_set requests l.outline) index None
  each_set past = (from.outline, from.rest ∙ at_drop_all (λ (rs : List Request). all_set rs from.outline) requests i past, from.index_is)

  module _ (request : Request) (lt : i < length requests) (is : request ≡ get_or requests i request) where
    one_more : (refusal : Option Answer) → first_refusal (setting_refusals request from.outline) ≡ refusal → all_set requests l.outline ≡ unless_set (drop (i + 1) requests) (set_by request from.outline) refusal
    one_more refusal first =
        from.rest
        ∙ at_drop_more (λ (rs : List Request). all_set rs from.outline) requests i request lt
        ∙ ap (λ (r : Request). all_set (r ∷ drop (i + 1) requests) from.outline) (sym is)
        ∙ ap (unless_set (drop (i + 1) requests) (set_by request from.outline)) first

    -- the next one was carried out
    pub next_set : (new : Index) → IsSet (with_outline l from.outline) request index new None → SetFrom requests (i + 1) l new
    next_set new set = record {
      outline = set_by request from.outline;
      rest = one_more None set.0;
      index_is = set.1;
      back = λ storage have. from.back storage (have_before (with_outline l from.outline) request storage.pools from.index_is.follows.order set.0 have);
    }

    -- or refused
    pub refused_set : (a : Answer) (new : Index) → IsSet (with_outline l from.outline) request index new (Some a) → AreSet l (all_set requests l.outline) new (Some a)
    refused_set a new set = one_more (Some a) set.0

-- the pools of the index are there for the first ledger
pub pools_back : (requests : List Request) (i : ℕ) (l : Ledger) (index : Index) (from : SetFrom requests i l index) (new : Index) → IsIndexOf (with_outline l from.outline) new → HavePools l new.storage.pools
pools_back requests i l index from new is = from.back new.storage is.follows.pools.have

-- A refusal of one of them is one that a step may give.
pub each_plain : (requests : List Request) (s : State) (a : Answer) → all_set requests s ≡ Err a → IsStepRefusal a
each_plain [] s a is = absurd (cc is)
each_plain (request ∷ requests) s a is = at (first_refusal (setting_refusals request s)) refl (each_plain requests (set_by request s) a) is
  where
    at : (o : Option Answer) → first_refusal (setting_refusals request s) ≡ o → (all_set requests (set_by request s) ≡ Err a → IsStepRefusal a) → unless_set requests (set_by request s) o ≡ Err a → IsStepRefusal a
    at None here later rest = later rest
    at (Some b) here later rest =
        let same : b ≡ a = cc rest in
        setting_plain request s a (here ∙ ap Some same)

-- All of them were carried out, so they are few: the book that they make is a sound one.
pub few_set : (requests : List Request) (l : Ledger) (new : Index) → AreOfFile requests → AreSet l (all_set requests l.outline) new None → length requests ≤ 288017
few_set requests l new file set = few_requests file.0 requests file.1 l.outline set.0 set.1 set.2.follows.order.shape.sound.site

-- Their lines make the state after them.
lines_settled : (requests : List Request) (s t : State) → All IsFormed requests → AllPass is_setting requests → all_set requests s ≡ Ok t → settled s (map line_of requests) ≡ Some t
lines_settled [] s t formed settings is = let same : s ≡ t = cc is in ap Some same
lines_settled (request ∷ requests) s t formed settings is = at (first_refusal (setting_refusals request s)) refl (lines_settled requests (set_by request s) t (λ k d lt. formed (suc k) d (omega (arith, lt))) (λ k d lt. settings (suc k) d (omega (arith, lt)))) is
  where
    at : (o : Option Answer) → first_refusal (setting_refusals request s) ≡ o → (all_set requests (set_by request s) ≡ Ok t → settled (set_by request s) (map line_of requests) ≡ Some t) → unless_set requests (set_by request s) o ≡ Ok t → option_and_then (λ u. settled u (map line_of requests)) (settled_by s (line_of request)) ≡ Some t
    at None here later rest = ap (λ (o : Option State). option_and_then (λ u. settled u (map line_of requests)) o) (settles s request (settings zero request (omega arith)) (formed zero request (omega arith)) here) ∙ later rest
    at (Some a) here later rest = absurd (cc rest)

-- Over the pools' files they do the same as on the ledger.

abbrev pub over : DiskImage → Ledger → Result State Answer → Result State Answer
over c l (Ok s) = Ok (state_over c (with_outline l s))
over c l (Err a) = Err a

pub all_over : (c : DiskImage) (requests : List Request) (l : Ledger) → IsLedger l → All IsFormed requests → all_set requests (state_over c l) ≡ over c l (all_set requests l.outline)
all_over c [] l order formed = refl
all_over c (request ∷ requests) l order formed =
    ap (λ (refusals : List (Bool × Answer)). unless_set requests (set_by request (state_over c l)) (first_refusal refusals)) (refused_over c l request)
    ∙ at (first_refusal (setting_refusals request l.outline)) refl
    (λ none. all_over c requests (set_to request l) (set_kept l order request (line_asks (line_of request) request (formed zero request (omega arith))) none) (λ k d lt. formed (suc k) d (omega (arith, lt))))
  where
    at : (o : Option Answer) → first_refusal (setting_refusals request l.outline) ≡ o
        → (first_refusal (setting_refusals request l.outline) ≡ None → all_set requests (state_over c (set_to request l)) ≡ over c l (all_set requests (set_by request l.outline)))
        → unless_set requests (set_by request (state_over c l)) o ≡ over c l (unless_set requests (set_by request l.outline) o)
    at None is later = ap (all_set requests) (set_over_both c l order request is) ∙ later is
    at (Some a) is later = refl

-- The answers to a load.

file_of : (payload : List ℕ) (requests : List Request) (b : Bool) → b ≡ true → site_requests payload ≡ Some requests → (if b then site_requests payload else None) ≡ Some requests
file_of payload requests true utf8 is = is
file_of payload requests false utf8 is = absurd (cc utf8)

no_file : (payload : List ℕ) (b : Bool) → (b ≡ true → site_requests payload ≡ None) → (if b then site_requests payload else None) ≡ None
no_file payload true none = none refl
no_file payload false none = refl

none_read : (payload : List ℕ) → (IsUtf8 payload → site_requests payload ≡ None) → file_requests payload ≡ None
none_read payload none = no_file payload (is_utf8 payload) (λ e. none (IsUtf8-from_is_utf8 payload e))

load_only : (request : Request) → class_of request ≡ site_file → request ≡ Load
load_only Load file = refl
load_only request file = absurd (cc file)

-- nothing refuses it before its payload is read
pub always_loads : (site : Site) (images : List ImageRecord) (load : Request) → class_of load ≡ site_file → (payload : List ℕ) (size moment : ℕ) (d : Decision) → length payload ≡ size
    → ((s : State) (bytes : List ℕ) → IsStateOf site images s → length bytes ≡ size → IsDecision s load bytes moment d) → d.change ≢ change.Load → ⊥
always_loads site images load file payload size moment d size_is decided other =
    let s = seen site images in
    let here : IsDecision s load payload moment d = decided s payload (record { site_is = refl; images_are = entries_seen images; sized = sized_seen images; idle = refl }) size_is in
    other (subst (λ (class : RequestClass). Decides s class payload moment d) file here).1

module _ (load : Request) (file : class_of load ≡ site_file) (payload : List ℕ) where
  -- a payload that is no site file
  pub plain_site : (IsUtf8 payload → site_requests payload ≡ None) → IsRefusalOf load payload (BadRequest 1)
  plain_site none = ((load_only load file, refl, none_read payload none), tt)

  module _ (moment : ℕ) where
    load_is : (s : State) → step s load payload moment ≡ load_of (file_requests payload) s
    load_is s = ap (λ (c : RequestClass). step_of s (case_of s c payload moment)) file

    pub no_site : (l : Ledger) → (IsUtf8 payload → site_requests payload ≡ None) → IsRefusedOver l load payload moment (BadRequest 1)
    no_site l none c = refused_as (state_over c l) load payload moment (BadRequest 1) tt (load_is (state_over c l) ∙ ap (λ (o : Option (List Request)). load_of o (state_over c l)) (none_read payload none))

    module _ (requests : List Request) (utf8 : IsUtf8 payload) (is : site_requests payload ≡ Some requests) (l : Ledger) (order : IsLedger l) (formed : All IsFormed requests) where
      loads : (c : DiskImage) (result : Result State Answer) → all_set requests l.outline ≡ result → step (state_over c l) load payload moment ≡ load_result requests (state_over c l) (over c l result)
      loads c result set =
          let s = state_over c l in
          let read : file_requests payload ≡ Some requests = file_of payload requests (is_utf8 payload) (is_utf8-from_IsUtf8 payload utf8) is in
          load_is s ∙ ap (λ (o : Option (List Request)). load_of o s) read ∙ ap (load_result requests s) (all_over c requests l order formed ∙ ap (over c l) set)

      refused_load : (a : Answer) → IsStepRefusal a → all_set requests l.outline ≡ Err a → IsRefusedOver l load payload moment a
      refused_load a plain refused c = refused_as (state_over c l) load payload moment a plain.1 (loads c (Err a) refused)

      pub ready_load : AllPass is_setting requests → (new : Index) (result : Result Ready Answer) → IfOk result (λ r. IsStaged (entry.Settings (map line_of requests)) r.staged) → IfOk result (λ r. r.body ≡ count_text requests)
          → IfOk result (λ _. AreSet l (all_set requests l.outline) new None) → IfOk result (λ r. IsReady l load payload moment r.staged r.body new)
      ready_load settings new (Ok r) staged_is body_is set = record {
        lines = map line_of requests;
        staged_is = staged_is;
        outline = set.0;
        settled_is = lines_settled requests l.outline set.0 formed settings set.1;
        index_is = set.2;
        steps = λ c. loads c (Ok set.0) set.1 ∙ ap (λ (b : List ℕ). (Done b, state_over c (with_outline l set.0))) (sym body_is);
      }
      ready_load settings new (Err a) staged_is body_is set = tt

      -- all or none: a refusal, or want of memory
      pub refused_all : {T : Type 0} (result : Result T Answer) → IfErr result IsStepRefusal → IfErr result (AreRefused (all_set requests l.outline)) → IfErr result (IsRefusedOver l load payload moment)
      refused_all (Ok x) plain set = tt
      refused_all (Err a) plain set = ⊎_elim (λ memory. subst (IsRefusedOver l load payload moment) (sym memory) (λ c. (tt, refl))) (λ refused. refused_load a plain refused) set

-- What a decision says of a request that changes the site, over the index of a ledger.
use Rattle.std.proofs.Common.{◌≡◌, ◌≢◌, ◌∙◌, ℕ, zero, suc, Bool, true, List, [], ◌∷◌, length, map, Some, None, refl, sym, ap, subst, arith}
use Rattle.std.specs.Prelude.{Option, Contains}
use Rattle.std.proofs.lemmas.List.{length-replicate}
use Rattle.site_types.specs.Classes.{RequestClass, site_change, class_of}
use Rattle.site_types.specs.declared.answer.Answer.{Answer}
use Rattle.site_types.specs.declared.answer.Answer.TheVariants.{Done}
use Rattle.site_types.specs.declared.image.ImageRecord.{ImageRecord}
use Rattle.site_types.specs.declared.request.Request.{Request}
use Rattle.site_types.specs.declared.request.Request.TheVariants.{Load, Backup, Restore, RestoreAt}
use Rattle.desk_model.specs.declared.site.Site.{Site}
use Rattle.desk_model.specs.State.{State, Image}
use Rattle.desk_model.specs.Refusals.{first_refusal}
use Rattle.desk_model.specs.Settings.{is_setting, setting_refusals}
use Rattle.desk_rules.specs.declared.decision.Change.{Change}
use Rattle.desk_rules.specs.declared.decision.Change.TheVariants.{Nothing, Settings, Load as LoadFile, SealNow}
use Rattle.desk_rules.specs.declared.decision.Decision.{Decision}
use Rattle.desk_rules.specs.declared.decision.SiteChange.{SiteChange}
use Rattle.desk_rules.specs.Decisions.{Decides, DecidesAs, IsDecision, IsStateOf, SetsSite}
use Rattle.desk_rules.specs.Seen.{blank, seen}
use Rattle.desk_rules.specs.SiteChanges.{IsSiteChange}
use Rattle.desk_rules.proofs.SeenLemmas.{entries_seen}
use Rattle.vault_ledger.specs.Ledger.{Ledger}
use Rattle.vault_ledger.proofs.KeptSettings.{refusals_same}
use Rattle.desk_index.specs.Index.{IsIndexOf}
use Rattle.desk_index.specs.declared.index.Index.{Index}

pub class_change : (request : Request) → is_setting request ≡ true → class_of request ≡ site_change request
class_change Load is = absurd (cc is)
class_change (Backup client policy schedule start) is = absurd (cc is)
class_change (Restore id copy) is = absurd (cc is)
class_change (RestoreAt client policy before) is = absurd (cc is)
class_change request is = refl

-- the images that a decision sees have their lengths
pub sized_seen : (records : List ImageRecord) (i : Image) → Contains (map blank records) i → i.entry.length ≡ length i.bytes
sized_seen [] i (k, lt, is) = absurd (omega (arith, lt))
sized_seen (r ∷ rs) i (zero, lt, is) = subst (λ (x : Image). x.entry.length ≡ length x.bytes) is (sym (length-replicate r.length 0))
sized_seen (r ∷ rs) i (suc k, lt, is) = sized_seen rs i (k, omega (arith, lt), is)

-- what is decided over any state with the site and the catalogue of an index
abbrev pub Decided : Index → Request → Decision → Type 0
Decided index request d = (s : State) (bytes : List ℕ) → IsStateOf index.site index.catalogue s → length bytes ≡ 0 → IsDecision s request bytes 0 d

-- What is decided where this is the first refusal.

abbrev DecidesSetting : Site → Request → Option Answer → Decision → Type 0
DecidesSetting site r first d = DecidesAs first (Done []) (SetsSite site r) d

sets_so : (site : Site) (r : Request) (c : Change) → SetsSite site r c → ((change : SiteChange) → c ≢ Settings change) → ⊥
sets_so site r (Settings change) is other = other change refl
sets_so site r Nothing is other = is
sets_so site r LoadFile is other = is
sets_so site r (SealNow body) is other = is

first_some : (site : Site) (r : Request) (first : Option Answer) (d : Decision) → DecidesSetting site r first d → ((change : SiteChange) → d.change ≢ Settings change) → first ≡ Some d.answer
first_some site r None d said other = absurd (sets_so site r d.change said.1 other)
first_some site r (Some refusal) d said other = ap Some (sym said.0)

first_none : (site : Site) (r : Request) (first : Option Answer) (d : Decision) (change : SiteChange) → DecidesSetting site r first d → d.change ≡ Settings change → (first ≡ None) × IsSiteChange site r change
first_none site r None d change said is = (refl, subst (SetsSite site r) is said.1)
first_none site r (Some refusal) d change said is = absurd (cc (sym is ∙ said.1))

module _ (l : Ledger) (index : Index) (is : IsIndexOf l index) (r : Request) (d : Decision) (setting : is_setting r ≡ true) (decided : Decided index r d) where
  -- the ledger refuses the same as what is seen
  refusals_seen : setting_refusals r (seen index.site index.catalogue) ≡ setting_refusals r l.outline
  refusals_seen =
      let sound = is.follows.order.shape.sound in
      (λ i. setting_refusals r (record { site = is.site i; images = map blank index.catalogue; stored = []; jobs = sym sound.no_jobs i; next_job = sym sound.next_job i }))
      ∙ refusals_same r l.outline (map blank index.catalogue) [] (entries_seen index.catalogue ∙ is.listed)

  seen_so : DecidesSetting index.site r (first_refusal (setting_refusals r (seen index.site index.catalogue))) d
  seen_so =
      let of : IsStateOf index.site index.catalogue (seen index.site index.catalogue) = record { site_is = refl; images_are = entries_seen index.catalogue; sized = sized_seen index.catalogue; idle = refl } in
      subst (λ (c : RequestClass). Decides (seen index.site index.catalogue) c [] 0 d) (class_change r setting) (decided (seen index.site index.catalogue) [] of refl)

  said : DecidesSetting index.site r (first_refusal (setting_refusals r l.outline)) d
  said = subst (λ (refusals : List (Bool × Answer)). DecidesSetting index.site r (first_refusal refusals) d) refusals_seen seen_so

  -- what changes no site is refused
  pub refused_so : ((change : SiteChange) → d.change ≢ Settings change) → first_refusal (setting_refusals r l.outline) ≡ Some d.answer
  refused_so other = first_some index.site r (first_refusal (setting_refusals r l.outline)) d said other

  -- what changes it isn't, and the change is that of the request
  pub passed_so : (change : SiteChange) → d.change ≡ Settings change → (first_refusal (setting_refusals r l.outline) ≡ None) × IsSiteChange index.site r change
  passed_so change settings = first_none index.site r (first_refusal (setting_refusals r l.outline)) d change said settings

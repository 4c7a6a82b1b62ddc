-- What the values of each form make is written as that form with these values. So a request that was read is read again from its line.
use Rattle.site_types.proofs.Common.{◌≡◌, ℕ, List, [], ◌∷◌, Bool, true, false, nat_lt, Option, Some, None, option_map, unwrap_or, if◌then◌else◌, Result, Ok, Err, codes, refl, sym, ap, ◌∙◌, IfOk, option_and_then, decimal, calendar_text, calendar_of, Scheduling, are_marks, is_one, pair_of, policy_add_of, schedule_keys, schedule_made, schedule_of, schedule_texts, spelled, unit_add_of, unit_change_of, id_of, id_text, Given, name_of, IsFormed, path_of, written, windows_text, windows_of, rule_of, offset_of, offset_text, Request}
use Rattle.site_types.specs.Forms.{restore_of}
use Rattle.site_types.specs.Requests.{IsReading, read_words}
use Rattle.site_types.specs.declared.id.BackupId.{BackupId}
use Rattle.site_types.specs.Values.{kind_of, kind_text, type_of, type_text, start_of, start_text, yes_or_no, yes_or_no_text}
use Rattle.site_types.specs.declared.calendar.CalendarItem.{CalendarItem}
use Rattle.site_types.specs.declared.forms.FormName.{FormName}
use Rattle.site_types.specs.declared.forms.FormName.TheVariants as form
use Rattle.site_types.specs.declared.image.Kind.{Kind}
use Rattle.site_types.specs.declared.request.Request.TheVariants as request
use Rattle.site_types.specs.declared.request.WordFault.{WordFault}
use Rattle.site_types.specs.declared.schedule.PolicyType.{PolicyType}
use Rattle.site_types.specs.declared.window.Windows.{Windows}
use Rattle.site_types.proofs.KeptLemmas.{kept, as_it_stands, name_kept, number_kept}
use Rattle.site_types.proofs.OptionLemmas.{same_value}
use Rattle.site_types.proofs.RereadLemmas.{Fit, Spells, texts_of, words_reread}
use Rattle.site_types.proofs.SpellingLemmas.{id_spelled, kind_spelled, type_spelled, yes_or_no_spelled, start_spelled, path_spelled, rule_spelled, offset_spelled, windows_spelled, calendar_spelled}

-- what a request is written as
abbrev Written : Type 0
Written = FormName × List (Option (List ℕ))

-- what is made where a test passes
pub chosen : (b : Bool) (request r : Request) → (if b then Some request else None) ≡ Some r → request ≡ r
chosen true request r is = same_value request r is
chosen false request r is = absurd (cc is)

-- Forms of one value that is wanted, and of two.

one_spelled : {A : Type 0} (makes : A → Request) (written : Option A → Written) → ((x : A) → spelled (makes x) ≡ written (Some x)) → (o : Option A) (r : Request) → option_map makes o ≡ Some r → spelled r ≡ written o
one_spelled makes written so None r is = absurd (cc is)
one_spelled makes written so (Some x) r is = ap spelled (sym (same_value (makes x) r is)) ∙ so x

two_spelled : {A B : Type 0} (makes : A → B → Request) (written : Option A → Option B → Written) → ((x : A) (y : B) → spelled (makes x y) ≡ written (Some x) (Some y)) → (o : Option A) (p : Option B) (r : Request) → pair_of makes o p ≡ Some r → spelled r ≡ written o p
two_spelled makes written so None p r is = absurd (cc is)
two_spelled makes written so (Some x) None r is = absurd (cc is)
two_spelled makes written so (Some x) (Some y) r is = ap spelled (sym (same_value (makes x y) r is)) ∙ so x y

-- Forms of units, policies and schedules.

unit_add_spelled : (name : Option (List ℕ)) (capacity segment fragment slots high low : Option ℕ) (r : Request) → unit_add_of name capacity segment fragment slots high low ≡ Some r
    → spelled r ≡ (form.UnitAdd, name ∷ option_map decimal capacity ∷ option_map decimal segment ∷ option_map decimal fragment ∷ option_map decimal slots ∷ option_map decimal high ∷ option_map decimal low ∷ [])
unit_add_spelled None capacity segment fragment slots high low r is = absurd (cc is)
unit_add_spelled (Some name) None segment fragment slots high low r is = absurd (cc is)
unit_add_spelled (Some name) (Some capacity) segment fragment slots high low r is = ap spelled (sym (chosen (nat_lt (unwrap_or low 80) (unwrap_or high 98)) (request.UnitAdd name capacity segment fragment slots high low) r is))

unit_change_spelled : (name : Option (List ℕ)) (capacity slots high low : Option ℕ) (r : Request) → unit_change_of name capacity slots high low ≡ Some r
    → spelled r ≡ (form.UnitChange, name ∷ option_map decimal capacity ∷ option_map decimal slots ∷ option_map decimal high ∷ option_map decimal low ∷ [])
unit_change_spelled None capacity slots high low r is = absurd (cc is)
unit_change_spelled (Some name) capacity slots high low r is = ap spelled (sym (chosen (are_marks high low) (request.UnitChange name capacity slots high low) r is))

policy_add_spelled : (policy : Option (List ℕ)) (policy_type : Option PolicyType) (lifecycle : Option (List ℕ)) (r : Request) → policy_add_of policy policy_type lifecycle ≡ Some r → spelled r ≡ (form.PolicyAdd, policy ∷ option_map type_text policy_type ∷ lifecycle ∷ [])
policy_add_spelled None policy_type lifecycle r is = absurd (cc is)
policy_add_spelled (Some policy) None lifecycle r is = absurd (cc is)
policy_add_spelled (Some policy) (Some policy_type) None r is = absurd (cc is)
policy_add_spelled (Some policy) (Some policy_type) (Some lifecycle) r is = ap spelled (sym (same_value (request.PolicyAdd policy policy_type lifecycle) r is))

-- A restore, of an image or of a client.
restore_spelled : (id : Option BackupId) (copy : Option ℕ) (client policy : Option (List ℕ)) (before : Option ℕ) (r : Request) → restore_of id copy client policy before ≡ Some r
    → spelled r ≡ (form.Restore, option_map id_text id ∷ option_map decimal copy ∷ client ∷ policy ∷ option_map decimal before ∷ [])
restore_spelled (Some id) copy None None None r is = ap spelled (sym (same_value (request.Restore id copy) r is))
restore_spelled (Some id) copy None None (Some moment) r is = absurd (cc is)
restore_spelled (Some id) copy None (Some policy) before r is = absurd (cc is)
restore_spelled (Some id) copy (Some client) policy before r is = absurd (cc is)
restore_spelled None None None policy before r is = absurd (cc is)
restore_spelled None None (Some client) None before r is = absurd (cc is)
restore_spelled None None (Some client) (Some policy) before r is = ap spelled (sym (same_value (request.RestoreAt client policy before) r is))
restore_spelled None (Some number) client policy before r is = absurd (cc is)

module _ (makes : Scheduling) (name : FormName) (so : (policy schedule : List ℕ) (kind : Kind) (frequency : Option ℕ) (calendar : Option (List CalendarItem)) (windows : Windows) → spelled (makes policy schedule kind frequency calendar windows) ≡ (name, schedule_texts policy schedule kind frequency calendar windows)) where
  scheduled : (policy schedule : Option (List ℕ)) (kind : Option Kind) (frequency : Option ℕ) (calendar : Option (List CalendarItem)) (windows : Option Windows) (r : Request) → schedule_of makes policy schedule kind frequency calendar windows ≡ Some r
      → spelled r ≡ (name, policy ∷ schedule ∷ option_map kind_text kind ∷ option_map decimal frequency ∷ option_map calendar_text calendar ∷ option_map windows_text windows ∷ [])
  scheduled None schedule kind frequency calendar windows r is = absurd (cc is)
  scheduled (Some policy) None kind frequency calendar windows r is = absurd (cc is)
  scheduled (Some policy) (Some schedule) None frequency calendar windows r is = absurd (cc is)
  scheduled (Some policy) (Some schedule) (Some kind) frequency calendar None r is = absurd (cc is)
  scheduled (Some policy) (Some schedule) (Some kind) frequency calendar (Some windows) r is =
      ap spelled (sym (chosen (is_one frequency calendar) (makes policy schedule kind frequency calendar windows) r is)) ∙ so policy schedule kind frequency calendar windows

  schedule_spells : (v : Given) (r : Request) → Fit schedule_keys v → schedule_made makes v ≡ Some r → spelled r ≡ (name, texts_of schedule_keys v)
  schedule_spells v r fit is = scheduled _ _ _ _ _ _ r is ∙ (λ i.
      (name, name_kept _ (fit (codes "policy")) i ∷ name_kept _ (fit (codes "schedule")) i ∷ kept kind_of kind_text kind_spelled _ (fit (codes "kind")) i ∷ number_kept 1 3153600000 _ (fit (codes "frequency")) i ∷ kept calendar_of calendar_text calendar_spelled _ (fit (codes "calendar")) i ∷ kept windows_of windows_text windows_spelled _ (fit (codes "windows")) i ∷ []))

-- One fact a row.
spells : (name : FormName) → Spells name
spells form.UnitAdd v r fit is = unit_add_spelled _ _ _ _ _ _ _ r is ∙ (λ i.
    (form.UnitAdd, name_kept _ (fit (codes "name")) i ∷ number_kept 1 1125899906842624 _ (fit (codes "capacity")) i ∷ number_kept 16 131072 _ (fit (codes "segment")) i ∷ number_kept 1 1048576 _ (fit (codes "fragment")) i ∷ number_kept 1 16777216 _ (fit (codes "slots")) i ∷ number_kept 1 100 _ (fit (codes "high")) i ∷ number_kept 0 99 _ (fit (codes "low")) i ∷ []))
spells form.UnitChange v r fit is = unit_change_spelled _ _ _ _ _ r is ∙ (λ i.
    (form.UnitChange, name_kept _ (fit (codes "name")) i ∷ number_kept 1 1125899906842624 _ (fit (codes "capacity")) i ∷ number_kept 1 16777216 _ (fit (codes "slots")) i ∷ number_kept 1 100 _ (fit (codes "high")) i ∷ number_kept 0 99 _ (fit (codes "low")) i ∷ []))
spells form.ClientAdd v r fit is = one_spelled request.ClientAdd (λ name. (form.ClientAdd, name ∷ [])) (λ name. refl) _ r is ∙ (λ i. (form.ClientAdd, name_kept _ (fit (codes "name")) i ∷ []))
spells form.ClientRemove v r fit is = one_spelled request.ClientRemove (λ name. (form.ClientRemove, name ∷ [])) (λ name. refl) _ r is ∙ (λ i. (form.ClientRemove, name_kept _ (fit (codes "name")) i ∷ []))
spells form.PolicyAdd v r fit is = policy_add_spelled _ _ _ r is ∙ (λ i. (form.PolicyAdd, name_kept _ (fit (codes "policy")) i ∷ kept type_of type_text type_spelled _ (fit (codes "type")) i ∷ name_kept _ (fit (codes "lifecycle")) i ∷ []))
spells form.PolicyChange v r fit is =
    one_spelled (λ policy. request.PolicyChange policy (option_and_then yes_or_no (v (codes "active"))) (option_and_then name_of (v (codes "lifecycle"))))
    (λ policy. (form.PolicyChange, policy ∷ option_map yes_or_no_text (option_and_then yes_or_no (v (codes "active"))) ∷ option_and_then name_of (v (codes "lifecycle")) ∷ [])) (λ policy. refl) _ r is
    ∙ (λ i. (form.PolicyChange, name_kept _ (fit (codes "policy")) i ∷ kept yes_or_no yes_or_no_text yes_or_no_spelled _ (fit (codes "active")) i ∷ name_kept _ (fit (codes "lifecycle")) i ∷ []))
spells form.PolicyRemove v r fit is = one_spelled request.PolicyRemove (λ policy. (form.PolicyRemove, policy ∷ [])) (λ policy. refl) _ r is ∙ (λ i. (form.PolicyRemove, name_kept _ (fit (codes "policy")) i ∷ []))
spells form.PolicyClientAdd v r fit is = two_spelled request.PolicyClientAdd (λ policy client. (form.PolicyClientAdd, policy ∷ client ∷ [])) (λ policy client. refl) _ _ r is ∙ (λ i. (form.PolicyClientAdd, name_kept _ (fit (codes "policy")) i ∷ name_kept _ (fit (codes "client")) i ∷ []))
spells form.PolicyClientRemove v r fit is = two_spelled request.PolicyClientRemove (λ policy client. (form.PolicyClientRemove, policy ∷ client ∷ [])) (λ policy client. refl) _ _ r is ∙ (λ i. (form.PolicyClientRemove, name_kept _ (fit (codes "policy")) i ∷ name_kept _ (fit (codes "client")) i ∷ []))
spells form.PolicySelect v r fit is = two_spelled request.PolicySelect (λ policy path. (form.PolicySelect, policy ∷ option_map written path ∷ [])) (λ policy path. refl) _ _ r is ∙ (λ i. (form.PolicySelect, name_kept _ (fit (codes "policy")) i ∷ kept path_of written path_spelled _ (fit (codes "path")) i ∷ []))
spells form.PolicyUnselect v r fit is = two_spelled request.PolicyUnselect (λ policy path. (form.PolicyUnselect, policy ∷ option_map written path ∷ [])) (λ policy path. refl) _ _ r is ∙ (λ i. (form.PolicyUnselect, name_kept _ (fit (codes "policy")) i ∷ kept path_of written path_spelled _ (fit (codes "path")) i ∷ []))
spells form.ScheduleAdd v r fit is = schedule_spells request.ScheduleAdd form.ScheduleAdd (λ policy schedule kind frequency calendar windows. refl) v r fit is
spells form.ScheduleChange v r fit is = schedule_spells request.ScheduleChange form.ScheduleChange (λ policy schedule kind frequency calendar windows. refl) v r fit is
spells form.ScheduleRemove v r fit is = two_spelled request.ScheduleRemove (λ policy schedule. (form.ScheduleRemove, policy ∷ schedule ∷ [])) (λ policy schedule. refl) _ _ r is ∙ (λ i. (form.ScheduleRemove, name_kept _ (fit (codes "policy")) i ∷ name_kept _ (fit (codes "schedule")) i ∷ []))
spells form.ZoneSet v r fit is = ap spelled (sym (chosen (is_one (option_and_then rule_of (v (codes "rule"))) (option_and_then offset_of (v (codes "offset")))) (request.ZoneSet _ _) r is)) ∙ (λ i. (form.ZoneSet, as_it_stands rule_of rule_spelled _ (fit (codes "rule")) i ∷ kept offset_of offset_text offset_spelled _ (fit (codes "offset")) i ∷ []))
spells form.Load v r fit is = ap spelled (sym (same_value request.Load r is))
spells form.Backup v r fit is =
    one_spelled (λ client. request.Backup client (option_and_then name_of (v (codes "policy"))) (option_and_then name_of (v (codes "schedule"))) (option_and_then start_of (v (codes "start"))))
    (λ client. (form.Backup, client ∷ option_and_then name_of (v (codes "policy")) ∷ option_and_then name_of (v (codes "schedule")) ∷ option_map start_text (option_and_then start_of (v (codes "start"))) ∷ [])) (λ client. refl) _ r is
    ∙ (λ i. (form.Backup, name_kept _ (fit (codes "client")) i ∷ name_kept _ (fit (codes "policy")) i ∷ name_kept _ (fit (codes "schedule")) i ∷ kept start_of start_text start_spelled _ (fit (codes "start")) i ∷ []))
spells form.Restore v r fit is = restore_spelled _ _ _ _ _ r is ∙ (λ i.
    (form.Restore, kept id_of id_text id_spelled _ (fit (codes "id")) i ∷ number_kept 1 32 _ (fit (codes "copy")) i ∷ name_kept _ (fit (codes "client")) i ∷ name_kept _ (fit (codes "policy")) i ∷ number_kept 0 250000000000 _ (fit (codes "before")) i ∷ []))

pub reread : (words : List (List ℕ)) (r : Request) → read_words words ≡ Ok r → IsFormed r
reread words r is = words_reread spells words r is

pub formed_so : (words : List (List ℕ)) (result : Result Request WordFault) → IsReading result (read_words words) → IfOk result IsFormed
formed_so words (Ok r) is = reread words r is
formed_so words (Err fault) is = tt

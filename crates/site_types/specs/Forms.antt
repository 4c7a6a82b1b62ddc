-- The table of forms: the words of each, its keys in order, and the request that their values make.
use Rattle.std.specs.Prelude.{ℕ, ◌&&◌, Bool, true, false, nat_lt, if◌then◌else◌, is_none, List, [], ◌∷◌, codes, map, find, Option, Some, None, option_map, unwrap_or, ℤ}
use Rattle.std.specs.Fmt.{decimal}
use Rattle.std.specs.Option.{option_zip}
use Rattle.std.specs.Str.{bytes_eq}
use Rattle.site_types.specs.Calendars.{calendar_of}
use Rattle.site_types.specs.CalendarTexts.{calendar_text}
use Rattle.site_types.specs.Ids.{id_of, id_text}
use Rattle.site_types.specs.Keys.{Key, Given, key_stated, name_of, number_in, value_in}
use Rattle.site_types.specs.Paths.{path_of, written}
use Rattle.site_types.specs.Values.{kind_of, kind_text, type_of, type_text, yes_or_no, yes_or_no_text, start_of, start_text}
use Rattle.site_types.specs.WindowTexts.{windows_text}
use Rattle.site_types.specs.WindowWords.{windows_of}
use Rattle.site_types.specs.ZoneWords.{rule_of, offset_of, offset_text}
use Rattle.site_types.specs.declared.calendar.CalendarItem.{CalendarItem}
use Rattle.site_types.specs.declared.forms.Form.{Form as Row}
use Rattle.site_types.specs.declared.forms.FormName.{FormName}
use Rattle.site_types.specs.declared.forms.FormName.TheVariants as form
use Rattle.site_types.specs.declared.id.BackupId.{BackupId}
use Rattle.site_types.specs.declared.image.Kind.{Kind}
use Rattle.site_types.specs.declared.keys.Grammar.{Grammar}
use Rattle.site_types.specs.declared.keys.Grammar.TheVariants as grammar
use Rattle.site_types.specs.declared.request.Request.{Request}
use Rattle.site_types.specs.declared.request.Request.TheVariants as request
use Rattle.site_types.specs.declared.schedule.PolicyType.{PolicyType}
use Rattle.site_types.specs.declared.window.Windows.{Windows}

-- The keys that forms have.

abbrev pub key : List ℕ → Grammar → Key
key name values = record { name = name; grammar = values }

abbrev pub name_key : Key
name_key = key (codes "name") grammar.Name

abbrev pub policy_key : Key
policy_key = key (codes "policy") grammar.Name

abbrev pub client_key : Key
client_key = key (codes "client") grammar.Name

abbrev pub schedule_key : Key
schedule_key = key (codes "schedule") grammar.Name

abbrev pub lifecycle_key : Key
lifecycle_key = key (codes "lifecycle") grammar.Name

abbrev pub capacity_key : Key
capacity_key = key (codes "capacity") (grammar.Number 1 1125899906842624)

abbrev pub segment_key : Key
segment_key = key (codes "segment") (grammar.Number 16 131072)

abbrev pub fragment_key : Key
fragment_key = key (codes "fragment") (grammar.Number 1 1048576)

abbrev pub slots_key : Key
slots_key = key (codes "slots") (grammar.Number 1 16777216)

abbrev pub high_key : Key
high_key = key (codes "high") (grammar.Number 1 100)

abbrev pub low_key : Key
low_key = key (codes "low") (grammar.Number 0 99)

abbrev pub type_key : Key
type_key = key (codes "type") grammar.PolicyType

abbrev pub active_key : Key
active_key = key (codes "active") grammar.YesOrNo

abbrev pub path_key : Key
path_key = key (codes "path") grammar.Path

abbrev pub kind_key : Key
kind_key = key (codes "kind") grammar.Kind

abbrev pub frequency_key : Key
frequency_key = key (codes "frequency") (grammar.Number 1 3153600000)

abbrev pub calendar_key : Key
calendar_key = key (codes "calendar") grammar.Calendar

abbrev pub windows_key : Key
windows_key = key (codes "windows") grammar.Windows

abbrev pub rule_key : Key
rule_key = key (codes "rule") grammar.Rule

abbrev pub offset_key : Key
offset_key = key (codes "offset") grammar.Offset

abbrev pub start_key : Key
start_key = key (codes "start") grammar.Start

abbrev pub id_key : Key
id_key = key (codes "id") grammar.Id

abbrev pub copy_key : Key
copy_key = key (codes "copy") (grammar.Number 1 32)

abbrev pub before_key : Key
before_key = key (codes "before") (grammar.Number 0 250000000000)

-- What the values of a form's keys make: the request, or nothing where one is missing or they don't go together.

-- a unit that is added: the low mark is below the high one, 98 and 80 where they aren't given
abbrev pub unit_add_of : Option (List ℕ) → (capacity segment fragment slots high low : Option ℕ) → Option Request
unit_add_of None capacity segment fragment slots high low = None
unit_add_of (Some name) None segment fragment slots high low = None
unit_add_of (Some name) (Some capacity) segment fragment slots high low = if nat_lt (unwrap_or low 80) (unwrap_or high 98) then Some (request.UnitAdd name capacity segment fragment slots high low) else None

-- a unit that is changed: both marks or none, the low one below the high one
abbrev pub are_marks : Option ℕ → Option ℕ → Bool
are_marks None None = true
are_marks None (Some low) = false
are_marks (Some high) None = false
are_marks (Some high) (Some low) = nat_lt low high

abbrev pub unit_change_of : Option (List ℕ) → (capacity slots high low : Option ℕ) → Option Request
unit_change_of None capacity slots high low = None
unit_change_of (Some name) capacity slots high low = if are_marks high low then Some (request.UnitChange name capacity slots high low) else None

-- two values
abbrev pub pair_of : {A B : Type 0} → (A → B → Request) → Option A → Option B → Option Request
pair_of makes first second = option_map (λ both. makes both.0 both.1) (option_zip first second)

abbrev pub policy_add_of : Option (List ℕ) → Option PolicyType → Option (List ℕ) → Option Request
policy_add_of None policy_type lifecycle = None
policy_add_of (Some policy) None lifecycle = None
policy_add_of (Some policy) (Some policy_type) None = None
policy_add_of (Some policy) (Some policy_type) (Some lifecycle) = Some (request.PolicyAdd policy policy_type lifecycle)

-- one of two alternatives
abbrev pub is_one : {A B : Type 0} → Option A → Option B → Bool
is_one None None = false
is_one None (Some b) = true
is_one (Some a) None = true
is_one (Some a) (Some b) = false

-- a schedule that is added or put in another's place, with a frequency or a calendar
abbrev pub Scheduling : Type 0
Scheduling = List ℕ → List ℕ → Kind → Option ℕ → Option (List CalendarItem) → Windows → Request

abbrev pub schedule_of : Scheduling → Option (List ℕ) → Option (List ℕ) → Option Kind → Option ℕ → Option (List CalendarItem) → Option Windows → Option Request
schedule_of makes None schedule kind frequency calendar windows = None
schedule_of makes (Some policy) None kind frequency calendar windows = None
schedule_of makes (Some policy) (Some schedule) None frequency calendar windows = None
schedule_of makes (Some policy) (Some schedule) (Some kind) frequency calendar None = None
schedule_of makes (Some policy) (Some schedule) (Some kind) frequency calendar (Some windows) = if is_one frequency calendar then Some (makes policy schedule kind frequency calendar windows) else None

abbrev pub schedule_keys : List Key
schedule_keys = policy_key ∷ schedule_key ∷ kind_key ∷ frequency_key ∷ calendar_key ∷ windows_key ∷ []

abbrev pub schedule_made : Scheduling → Given → Option Request
schedule_made makes v = schedule_of makes (value_in name_of v policy_key) (value_in name_of v schedule_key) (value_in kind_of v kind_key) (number_in v frequency_key) (value_in calendar_of v calendar_key) (value_in windows_of v windows_key)

-- the zone: a rule or an offset
abbrev pub zone_of : Option (List ℕ) → Option ℤ → Option Request
zone_of rule offset = if is_one rule offset then Some (request.ZoneSet rule offset) else None

-- a restore: of an image by its id, or of a client under a policy; the keys of the two don't go together
abbrev pub restore_of : Option BackupId → Option ℕ → (client policy : Option (List ℕ)) → (before : Option ℕ) → Option Request
restore_of (Some id) copy client policy before = if is_none client && is_none policy && is_none before then Some (request.Restore id copy) else None
restore_of None copy client policy before = if is_none copy then pair_of (λ c p. request.RestoreAt c p before) client policy else None

-- a form: its one or two words, its keys in their order, and the request that their values make
pub record Form : Type 0 where
  pub name : FormName
  pub first : List ℕ
  pub second : Option (List ℕ)
  pub keys : List Key
  pub made : Given → Option Request

abbrev pub row : FormName → List ℕ → Option (List ℕ) → List Key → (Given → Option Request) → Form
row name first second keys made = record { name = name; first = first; second = second; keys = keys; made = made }

abbrev pub form_named : FormName → Form
form_named form.UnitAdd =
    row form.UnitAdd (codes "unit") (Some (codes "add")) (name_key ∷ capacity_key ∷ segment_key ∷ fragment_key ∷ slots_key ∷ high_key ∷ low_key ∷ [])
    (λ v. unit_add_of (value_in name_of v name_key) (number_in v capacity_key) (number_in v segment_key) (number_in v fragment_key) (number_in v slots_key) (number_in v high_key) (number_in v low_key))
form_named form.UnitChange =
    row form.UnitChange (codes "unit") (Some (codes "change")) (name_key ∷ capacity_key ∷ slots_key ∷ high_key ∷ low_key ∷ [])
    (λ v. unit_change_of (value_in name_of v name_key) (number_in v capacity_key) (number_in v slots_key) (number_in v high_key) (number_in v low_key))
form_named form.ClientAdd = row form.ClientAdd (codes "client") (Some (codes "add")) (name_key ∷ []) (λ v. option_map request.ClientAdd (value_in name_of v name_key))
form_named form.ClientRemove = row form.ClientRemove (codes "client") (Some (codes "remove")) (name_key ∷ []) (λ v. option_map request.ClientRemove (value_in name_of v name_key))
form_named form.PolicyAdd =
    row form.PolicyAdd (codes "bppolicynew") (Some (codes "add")) (policy_key ∷ type_key ∷ lifecycle_key ∷ [])
    (λ v. policy_add_of (value_in name_of v policy_key) (value_in type_of v type_key) (value_in name_of v lifecycle_key))
form_named form.PolicyChange =
    row form.PolicyChange (codes "bppolicynew") (Some (codes "change")) (policy_key ∷ active_key ∷ lifecycle_key ∷ [])
    (λ v. option_map (λ policy. request.PolicyChange policy (value_in yes_or_no v active_key) (value_in name_of v lifecycle_key)) (value_in name_of v policy_key))
form_named form.PolicyRemove = row form.PolicyRemove (codes "bppolicynew") (Some (codes "remove")) (policy_key ∷ []) (λ v. option_map request.PolicyRemove (value_in name_of v policy_key))
form_named form.PolicyClientAdd = row form.PolicyClientAdd (codes "bppolicynew") (Some (codes "client-add")) (policy_key ∷ client_key ∷ []) (λ v. pair_of request.PolicyClientAdd (value_in name_of v policy_key) (value_in name_of v client_key))
form_named form.PolicyClientRemove = row form.PolicyClientRemove (codes "bppolicynew") (Some (codes "client-remove")) (policy_key ∷ client_key ∷ []) (λ v. pair_of request.PolicyClientRemove (value_in name_of v policy_key) (value_in name_of v client_key))
form_named form.PolicySelect = row form.PolicySelect (codes "bppolicynew") (Some (codes "select")) (policy_key ∷ path_key ∷ []) (λ v. pair_of request.PolicySelect (value_in name_of v policy_key) (value_in path_of v path_key))
form_named form.PolicyUnselect = row form.PolicyUnselect (codes "bppolicynew") (Some (codes "unselect")) (policy_key ∷ path_key ∷ []) (λ v. pair_of request.PolicyUnselect (value_in name_of v policy_key) (value_in path_of v path_key))
form_named form.ScheduleAdd = row form.ScheduleAdd (codes "bpplsched") (Some (codes "add")) schedule_keys (schedule_made request.ScheduleAdd)
form_named form.ScheduleChange = row form.ScheduleChange (codes "bpplsched") (Some (codes "change")) schedule_keys (schedule_made request.ScheduleChange)
form_named form.ScheduleRemove = row form.ScheduleRemove (codes "bpplsched") (Some (codes "remove")) (policy_key ∷ schedule_key ∷ []) (λ v. pair_of request.ScheduleRemove (value_in name_of v policy_key) (value_in name_of v schedule_key))
form_named form.ZoneSet = row form.ZoneSet (codes "bpzone") (Some (codes "set")) (rule_key ∷ offset_key ∷ []) (λ v. zone_of (value_in rule_of v rule_key) (value_in offset_of v offset_key))
form_named form.Load = row form.Load (codes "bpload") None [] (λ v. Some request.Load)
form_named form.Backup =
    row form.Backup (codes "bpbackup") None (client_key ∷ policy_key ∷ schedule_key ∷ start_key ∷ [])
    (λ v. option_map (λ client. request.Backup client (value_in name_of v policy_key) (value_in name_of v schedule_key) (value_in start_of v start_key)) (value_in name_of v client_key))
form_named form.Restore =
    row form.Restore (codes "bprestore") None (id_key ∷ copy_key ∷ client_key ∷ policy_key ∷ before_key ∷ [])
    (λ v. restore_of (value_in id_of v id_key) (number_in v copy_key) (value_in name_of v client_key) (value_in name_of v policy_key) (number_in v before_key))

-- all of them, in the order of the table
abbrev pub form_names : List FormName
form_names =
    form.UnitAdd ∷ form.UnitChange ∷ form.ClientAdd ∷ form.ClientRemove
    ∷ form.PolicyAdd ∷ form.PolicyChange ∷ form.PolicyRemove ∷ form.PolicyClientAdd ∷ form.PolicyClientRemove ∷ form.PolicySelect ∷ form.PolicyUnselect
    ∷ form.ScheduleAdd ∷ form.ScheduleChange ∷ form.ScheduleRemove
    ∷ form.ZoneSet ∷ form.Load ∷ form.Backup ∷ form.Restore ∷ []

unfoldable pub forms : List Form
forms = map form_named form_names

-- the form of a request, and the texts of its values in the order of the form's keys, where they are given
abbrev pub schedule_texts : List ℕ → List ℕ → Kind → Option ℕ → Option (List CalendarItem) → Windows → List (Option (List ℕ))
schedule_texts policy schedule kind frequency calendar windows = Some policy ∷ Some schedule ∷ Some (kind_text kind) ∷ option_map decimal frequency ∷ option_map calendar_text calendar ∷ Some (windows_text windows) ∷ []

abbrev pub spelled : Request → FormName × List (Option (List ℕ))
spelled (request.UnitAdd name capacity segment fragment slots high low) =
    (form.UnitAdd, Some name ∷ Some (decimal capacity) ∷ option_map decimal segment ∷ option_map decimal fragment ∷ option_map decimal slots ∷ option_map decimal high ∷ option_map decimal low ∷ [])
spelled (request.UnitChange name capacity slots high low) = (form.UnitChange, Some name ∷ option_map decimal capacity ∷ option_map decimal slots ∷ option_map decimal high ∷ option_map decimal low ∷ [])
spelled (request.ClientAdd name) = (form.ClientAdd, Some name ∷ [])
spelled (request.ClientRemove name) = (form.ClientRemove, Some name ∷ [])
spelled (request.PolicyAdd policy policy_type lifecycle) = (form.PolicyAdd, Some policy ∷ Some (type_text policy_type) ∷ Some lifecycle ∷ [])
spelled (request.PolicyChange policy active lifecycle) = (form.PolicyChange, Some policy ∷ option_map yes_or_no_text active ∷ lifecycle ∷ [])
spelled (request.PolicyRemove policy) = (form.PolicyRemove, Some policy ∷ [])
spelled (request.PolicyClientAdd policy client) = (form.PolicyClientAdd, Some policy ∷ Some client ∷ [])
spelled (request.PolicyClientRemove policy client) = (form.PolicyClientRemove, Some policy ∷ Some client ∷ [])
spelled (request.PolicySelect policy path) = (form.PolicySelect, Some policy ∷ Some (written path) ∷ [])
spelled (request.PolicyUnselect policy path) = (form.PolicyUnselect, Some policy ∷ Some (written path) ∷ [])
spelled (request.ScheduleAdd policy schedule kind frequency calendar windows) = (form.ScheduleAdd, schedule_texts policy schedule kind frequency calendar windows)
spelled (request.ScheduleChange policy schedule kind frequency calendar windows) = (form.ScheduleChange, schedule_texts policy schedule kind frequency calendar windows)
spelled (request.ScheduleRemove policy schedule) = (form.ScheduleRemove, Some policy ∷ Some schedule ∷ [])
spelled (request.ZoneSet rule offset) = (form.ZoneSet, rule ∷ option_map offset_text offset ∷ [])
spelled request.Load = (form.Load, [])
spelled (request.Backup client policy schedule start) = (form.Backup, Some client ∷ policy ∷ schedule ∷ option_map start_text start ∷ [])
spelled (request.Restore id copy) = (form.Restore, Some (id_text id) ∷ option_map decimal copy ∷ None ∷ None ∷ None ∷ [])
spelled (request.RestoreAt client policy before) = (form.Restore, None ∷ None ∷ Some client ∷ Some policy ∷ option_map decimal before ∷ [])

-- the form of a request
abbrev pub form_of : Request → Form
form_of r = form_named (spelled r).0

-- The form whose words stand at the front of these.

abbrev pub has_second : Option (List ℕ) → List (List ℕ) → Bool
has_second None words = true
has_second (Some second) [] = false
has_second (Some second) (word ∷ words) = bytes_eq second word

abbrev pub begins : List ℕ → Option (List ℕ) → List (List ℕ) → Bool
begins first second [] = false
begins first second (word ∷ words) = bytes_eq first word && has_second second words

abbrev pub form_among : List (List ℕ) → Option Form
form_among words = find (λ f. begins f.first f.second words) forms

-- how many words a form has, and which
abbrev pub count_of : Option (List ℕ) → ℕ
count_of None = 1
count_of (Some second) = 2

abbrev pub words_behind : Option (List ℕ) → List (List ℕ)
words_behind None = []
words_behind (Some second) = second ∷ []

abbrev pub form_words : Form → List (List ℕ)
form_words f = f.first ∷ words_behind f.second

-- a row of the code's table, with what is made of its values
abbrev pub row_stated : Row → Form
row_stated r = row r.name r.first.now (option_map (λ word. word.now) r.second) (map key_stated r.keys.now) (form_named r.name).made

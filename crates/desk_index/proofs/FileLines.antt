-- The lines of a site file: each but the first, which may set the zone, is of a form that adds something to the book.
use Rattle.desk_model.proofs.Common.{capacity_key, fragment_key, high_key, low_key, name_key, segment_key, slots_key, ◌≡◌, ◌≤◌, ◌∙◌, ℕ, Bool, true, false, List, [], ◌∷◌, ◌++◌, codes, length, drop, refl, sym, ap, subst, arith, Option, Some, None, Result, Ok, Err, option_map, option_and_then, false≢true, Request, State, IsSoundBook, form_named, unit_add_of, all_set}
use Rattle.std.specs.List.{list_all}
use Rattle.std.specs.Result.{result_ok}
use Rattle.std.proofs.lemmas.Bool.{and_from, and_parts}
use Rattle.std.proofs.lemmas.List.Folds.{list_all-append}
use Rattle.toml.specs.Data.{Data, table, Items, no_items, item, Members, get_member}
use Rattle.toml.specs.Parse.{parse_document}
use Rattle.site_types.specs.Forms.{Form, begins, form_among, form_names, forms, is_one, pair_of, policy_add_of, schedule_of}
use Rattle.site_types.specs.Keys.{Given, name_of, number_in, value_in}
use Rattle.site_types.specs.Requests.{read_as, read_words}
use Rattle.site_types.specs.declared.calendar.CalendarItem.{CalendarItem}
use Rattle.site_types.specs.declared.forms.FormName.{FormName}
use Rattle.site_types.specs.declared.forms.FormName.TheVariants as form
use Rattle.site_types.specs.declared.image.Kind.{Kind}
use Rattle.site_types.specs.declared.request.Request.TheVariants as request
use Rattle.site_types.specs.declared.schedule.PolicyType.{PolicyType}
use Rattle.site_types.specs.declared.window.Windows.{Windows}
use Rattle.site_types.proofs.OptionLemmas.{chained, guarded, mapped, same_value}
use Rattle.site_types.proofs.RereadLemmas.{found_row, read_parts}
use Rattle.policy_book.specs.SiteFile as file
use Rattle.desk_model.proofs.FewRequests.{adds, few_behind}

abbrev adding_name : FormName → Bool
adding_name form.UnitAdd = true
adding_name form.ClientAdd = true
adding_name form.PolicyAdd = true
adding_name form.PolicyClientAdd = true
adding_name form.PolicySelect = true
adding_name form.ScheduleAdd = true
adding_name _ = false

abbrev adding_form : Option Form → Bool
adding_form None = false
adding_form (Some f) = adding_name f.name

unfoldable adding : file.Line → Bool
adding line = adding_form (form_among line)

-- what is made of the values of such a form

is_same : (x r : Request) → adds x ≡ true → x ≡ r → adds r ≡ true
is_same x r is same = ap adds (sym same) ∙ is

unit_adds : (name : Option (List ℕ)) (capacity segment fragment slots high low : Option ℕ) (r : Request) → unit_add_of name capacity segment fragment slots high low ≡ Some r → adds r ≡ true
unit_adds None capacity segment fragment slots high low r is = absurd (cc is)
unit_adds (Some name) None segment fragment slots high low r is = absurd (cc is)
unit_adds (Some name) (Some capacity) segment fragment slots high low r is = is_same _ r refl (same_value (request.UnitAdd name capacity segment fragment slots high low) r (guarded _ (Some (request.UnitAdd name capacity segment fragment slots high low)) r is).1)

policy_adds : (policy : Option (List ℕ)) (policy_type : Option PolicyType) (lifecycle : Option (List ℕ)) (r : Request) → policy_add_of policy policy_type lifecycle ≡ Some r → adds r ≡ true
policy_adds None policy_type lifecycle r is = absurd (cc is)
policy_adds (Some policy) None lifecycle r is = absurd (cc is)
policy_adds (Some policy) (Some policy_type) None r is = absurd (cc is)
policy_adds (Some policy) (Some policy_type) (Some lifecycle) r is = is_same _ r refl (same_value (request.PolicyAdd policy policy_type lifecycle) r is)

pair_adds : {A B : Type 0} (makes : A → B → Request) → ((a : A) (b : B) → adds (makes a b) ≡ true) → (a : Option A) (b : Option B) (r : Request) → pair_of makes a b ≡ Some r → adds r ≡ true
pair_adds makes each None b r is = absurd (cc is)
pair_adds makes each (Some a) None r is = absurd (cc is)
pair_adds makes each (Some a) (Some b) r is = is_same _ r (each a b) (same_value (makes a b) r is)

schedule_adds : (policy schedule : Option (List ℕ)) (kind : Option Kind) (frequency : Option ℕ) (calendar : Option (List CalendarItem)) (windows : Option Windows) (r : Request) → schedule_of request.ScheduleAdd policy schedule kind frequency calendar windows ≡ Some r → adds r ≡ true
schedule_adds None schedule kind frequency calendar windows r is = absurd (cc is)
schedule_adds (Some policy) None kind frequency calendar windows r is = absurd (cc is)
schedule_adds (Some policy) (Some schedule) None frequency calendar windows r is = absurd (cc is)
schedule_adds (Some policy) (Some schedule) (Some kind) frequency calendar None r is = absurd (cc is)
schedule_adds (Some policy) (Some schedule) (Some kind) frequency calendar (Some windows) r is =
    is_same _ r refl (same_value (request.ScheduleAdd policy schedule kind frequency calendar windows) r (guarded (is_one frequency calendar) (Some (request.ScheduleAdd policy schedule kind frequency calendar windows)) r is).1)

made_adds : (name : FormName) → adding_name name ≡ true → (v : Given) (r : Request) → (form_named name).made v ≡ Some r → adds r ≡ true
made_adds form.UnitAdd is v r made = unit_adds (value_in name_of v name_key) (number_in v capacity_key) (number_in v segment_key) (number_in v fragment_key) (number_in v slots_key) (number_in v high_key) (number_in v low_key) r made
made_adds form.ClientAdd is v r made = let one = mapped request.ClientAdd _ r made in is_same _ r refl one.2
made_adds form.PolicyAdd is v r made = policy_adds _ _ _ r made
made_adds form.PolicyClientAdd is v r made = pair_adds request.PolicyClientAdd (λ policy client. refl) _ _ r made
made_adds form.PolicySelect is v r made = pair_adds request.PolicySelect (λ policy path. refl) _ _ r made
made_adds form.ScheduleAdd is v r made = schedule_adds _ _ _ _ _ _ r made
made_adds name is v r made = absurd (false≢true is)

named_so : (name : FormName) → (form_named name).name ≡ name
named_so form.UnitAdd = refl
named_so _ = refl

words_add : (line : file.Line) (r : Request) → adding line ≡ true → read_words line ≡ Ok r → adds r ≡ true
unfolding forms adding
words_add line r is read = at (form_among line) refl is read
  where
    by_row : (name : FormName) → adding_name (form_named name).name ≡ true → read_as (Some (form_named name)) line ≡ Ok r → adds r ≡ true
    by_row name is read = made_adds name (ap adding_name (sym (named_so name)) ∙ is) _ r (read_parts _ _ _ r read).1

    at : (o : Option Form) → form_among line ≡ o → adding_form o ≡ true → read_as o line ≡ Ok r → adds r ≡ true
    at None found is read = absurd (false≢true is)
    at (Some f) found is read =
        let row = found_row line (λ g. begins g.first g.second line) form_names f found in
        subst (λ (g : Form). adding_name g.name ≡ true → read_as (Some g) line ≡ Ok r → adds r ≡ true) (sym row.1) (by_row row.0) is read

line_adds : (line : file.Line) (r : Request) → adding line ≡ true → file.change_read line ≡ Some r → adds r ≡ true
line_adds line r is read =
    let change = chained file.change_in (result_ok (read_words line)) r read in
    let same : change.0 ≡ r = same_value change.0 r (guarded (file.changes_site change.0) (Some change.0) r change.2).1 in
    at (read_words line) refl (change.1 ∙ ap (λ (q : Request). Some q) same)
  where
    at : (o : Result Request ℕ) → read_words line ≡ o → result_ok o ≡ Some r → adds r ≡ true
    at (Ok q) read some = words_add line r is (read ∙ ap (λ (q : Request). Ok q) (same_value q r some))
    at (Err index) read some = absurd (cc some)

lines_add : (lines : List file.Line) (rs : List Request) → list_all adding lines ≡ true → file.requests_of lines ≡ Some rs → list_all adds rs ≡ true
lines_add [] rs are is = ap (list_all adds) (sym (same_value [] rs is))
lines_add (line ∷ lines) rs are is =
    let parts = and_parts (adding line) (list_all adding lines) are in
    let first = chained _ (file.change_read line) rs is in
    let rest = mapped (λ qs. first.0 ∷ qs) (file.requests_of lines) rs first.2 in
    ap (list_all adds) (sym rest.2) ∙ and_from (adds first.0) (list_all adds rest.0) (line_adds line first.0 parts.0 first.1) (lines_add lines rest.0 parts.1 rest.1)

behind_add : (lines : List file.Line) (rs : List Request) → list_all adding (drop 1 lines) ≡ true → file.requests_of lines ≡ Some rs → list_all adds (drop 1 rs) ≡ true
behind_add [] rs are is = ap (λ (qs : List Request). list_all adds (drop 1 qs)) (sym (same_value [] rs is))
behind_add (line ∷ lines) rs are is =
    let first = chained _ (file.change_read line) rs is in
    let rest = mapped (λ qs. first.0 ∷ qs) (file.requests_of lines) rs first.2 in
    ap (λ (qs : List Request). list_all adds (drop 1 qs)) (sym rest.2) ∙ lines_add lines rest.0 are rest.1

-- Lines that a file may have.

abbrev all_add : Option (List file.Line) → Bool
all_add None = true
all_add (Some lines) = list_all adding lines

joined_add : (a b : Option (List file.Line)) → all_add a ≡ true → all_add b ≡ true → all_add (file.joined a b) ≡ true
joined_add None b first rest = refl
joined_add (Some xs) None first rest = refl
joined_add (Some xs) (Some ys) first rest = list_all-append adding xs ys ∙ and_from (list_all adding xs) (list_all adding ys) first rest

chain_adds : {A : Type 0} (f : A → Option (List file.Line)) → ((x : A) → all_add (f x) ≡ true) → (o : Option A) → all_add (option_and_then f o) ≡ true
chain_adds f each None = refl
chain_adds f each (Some x) = each x

items_add : (f : Data → Option (List file.Line)) → ((d : Data) → all_add (f d) ≡ true) → (items : Items) → all_add (file.of_items f items) ≡ true
items_add f each no_items = refl
items_add f each (item value items) = joined_add (f value) (file.of_items f items) (each value) (items_add f each items)

array_adds : (f : Data → Option (List file.Line)) → ((d : Data) → all_add (f d) ≡ true) → (value : Option Data) → all_add (file.of_array f value) ≡ true
array_adds f each value = chain_adds (file.of_items f) (items_add f each) (file.array_at value)

table_adds : (f : Members → Option (List file.Line)) → ((m : Members) → all_add (f m) ≡ true) → (d : Data) → all_add (file.table_with f d) ≡ true
table_adds f each (table members) = each members
table_adds f each _ = refl

tables_add : (key : List ℕ) (f : Members → Option (List file.Line)) → ((m : Members) → all_add (f m) ≡ true) → (m : Members) → all_add (file.tables_at key f m) ≡ true
tables_add key f each m = array_adds (file.table_with f) (table_adds f each) (get_member key m)

-- the first words of these lines
abbrev Adding : file.Line → Type 0
Adding form = (words : List (List ℕ)) → adding (form ++ words) ≡ true

request_adds : (words : file.Line) → Adding words → (keys parts : List (List ℕ)) (m : Members) → all_add (file.one (file.request_of words keys parts m)) ≡ true
request_adds words so keys parts m = at (file.words_of keys parts m)
  where
    at : (o : Option file.Line) → all_add (file.one (option_map (λ more. words ++ more) o)) ≡ true
    at None = refl
    at (Some more) = and_from (adding (words ++ more)) true (so more) refl

word_adds : (words : file.Line) → Adding words → (word : List ℕ → List ℕ) (value : Data) → all_add (file.with_word words word value) ≡ true
word_adds words so word value = at (file.text_of value)
  where
    at : (o : Option (List ℕ)) → all_add (option_map (λ text. (words ++ word text ∷ []) ∷ []) o) ≡ true
    at None = refl
    at (Some text) = and_from (adding (words ++ word text ∷ [])) true (so (word text ∷ [])) refl

unit_line_adds : (m : Members) → all_add (file.unit_line m) ≡ true
unfolding forms adding
unit_line_adds m = request_adds (codes "unit" ∷ codes "add" ∷ []) (λ words. refl) (codes "name" ∷ codes "capacity" ∷ codes "segment" ∷ codes "fragment" ∷ codes "slots" ∷ codes "high" ∷ codes "low" ∷ []) [] m

client_line_adds : (m : Members) → all_add (file.client_line m) ≡ true
unfolding forms adding
client_line_adds m = request_adds (codes "client" ∷ codes "add" ∷ []) (λ words. refl) (codes "name" ∷ []) [] m

policy_line_adds : (m : Members) → all_add (file.policy_line m) ≡ true
unfolding forms adding
policy_line_adds m = request_adds (codes "bppolicynew" ∷ codes "add" ∷ []) (λ words. refl) (codes "policy" ∷ codes "type" ∷ codes "lifecycle" ∷ []) file.policy_parts m

clients_add : (m : Members) (policy : List ℕ) → all_add (file.clients_of m policy) ≡ true
unfolding forms adding
clients_add m policy = array_adds _ (word_adds (file.on_policy (codes "bppolicynew") (codes "client-add") policy) (λ words. refl) file.client_word) (get_member (codes "clients") m)

selections_add : (m : Members) (policy : List ℕ) → all_add (file.selections_of m policy) ≡ true
unfolding forms adding
selections_add m policy = array_adds _ (word_adds (file.on_policy (codes "bppolicynew") (codes "select") policy) (λ words. refl) file.path_word) (get_member (codes "selections") m)

schedule_line_adds : (policy : List ℕ) (m : Members) → all_add (file.schedule_line policy m) ≡ true
unfolding forms adding
schedule_line_adds policy m = request_adds (file.on_policy (codes "bpplsched") (codes "add") policy) (λ words. refl) (codes "schedule" ∷ codes "kind" ∷ codes "frequency" ∷ codes "calendar" ∷ codes "windows" ∷ []) [] m

policy_lines_add : (m : Members) → all_add (file.policy_lines m) ≡ true
policy_lines_add m = joined_add (file.policy_line m) (option_and_then (file.parts_of m) (file.policy_name m)) (policy_line_adds m) (chain_adds (file.parts_of m) (λ policy.
    joined_add (file.clients_of m policy) (file.joined (file.selections_of m policy) (file.schedules_of m policy)) (clients_add m policy) (
    joined_add (file.selections_of m policy) (file.schedules_of m policy) (selections_add m policy) (tables_add (codes "schedule") (file.schedule_line policy) (schedule_line_adds policy) m))) (file.policy_name m))

-- at most one line before them
abbrev IsShort : Option (List file.Line) → Type 0
IsShort o = (lines : List file.Line) → o ≡ Some lines → length lines ≤ 1

behind_first : (a b : Option (List file.Line)) → IsShort a → all_add b ≡ true → all_add (option_map (drop 1) (file.joined a b)) ≡ true
behind_first None b short are = refl
behind_first (Some xs) None short are = refl
behind_first (Some []) (Some []) short are = refl
behind_first (Some []) (Some (line ∷ lines)) short are = (and_parts (adding line) (list_all adding lines) are).1
behind_first (Some (line ∷ [])) (Some ys) short are = are
behind_first (Some (line ∷ next ∷ lines)) (Some ys) short are = let most = short (line ∷ next ∷ lines) refl in absurd (omega (arith, most))

zone_short : (o : Option Data) → IsShort (file.zone_lines o)
zone_short None lines is = let none : [] ≡ lines = same_value [] lines is in subst (λ (l : List file.Line). length l ≤ 1) none (omega arith)
zone_short (Some (table m)) lines is =
    let one = mapped (λ (line : file.Line). line ∷ []) _ lines is in
    subst (λ (l : List file.Line). length l ≤ 1) one.2 (omega arith)
zone_short (Some d) lines is = absurd (cc is)

file_adds : (m : Members) (lines : List file.Line) → file.file_lines m ≡ Some lines → list_all adding (drop 1 lines) ≡ true
file_adds m lines is =
    let all = (guarded _ (file.all_lines m) lines is).1 in
    let behind = behind_first (file.zone_lines (get_member (codes "zone") m)) _ (zone_short (get_member (codes "zone") m)) (
    joined_add (file.tables_at (codes "unit") file.unit_line m) _ (tables_add (codes "unit") file.unit_line unit_line_adds m) (
    joined_add (file.tables_at (codes "client") file.client_line m) _ (tables_add (codes "client") file.client_line client_line_adds m) (tables_add (codes "policy") file.policy_lines policy_lines_add m))) in
    sym (ap (λ (o : Option (List file.Line)). all_add (option_map (drop 1) o)) all) ∙ behind

-- Nothing of a site file with more requests is carried out.
pub few_requests : (payload : List ℕ) (rs : List Request) → file.site_requests payload ≡ Some rs → (s t : State) → all_set rs s ≡ Ok t → IsSoundBook t.site.book → length rs ≤ 288017
few_requests payload rs is s t set sound =
    let lines = chained file.requests_of _ rs is in
    let members = chained file.file_lines (parse_document payload) lines.0 lines.1 in
    few_behind rs s t (behind_add lines.0 rs (file_adds members.0 lines.0 members.2) lines.2) set sound

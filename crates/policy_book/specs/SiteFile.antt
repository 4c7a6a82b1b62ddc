-- A site file as the words of its requests: each of its tables is one request, with a word for each of its keys.
use Rattle.std.specs.Prelude.{ℕ, Bool, true, false, if◌then◌else◌, List, [], ◌∷◌, ◌++◌, codes, Option, Some, None, option_map, option_and_then}
use Rattle.std.specs.List.{list_any}
use Rattle.std.specs.Result.{result_ok}
use Rattle.std.specs.Str.{bytes_eq}
use Rattle.std.specs.Fmt.{signed_decimal}
use Rattle.toml.specs.Data.{Data, string, integer, float, boolean, datetime, array, table, Items, no_items, item, Members, no_members, member, get_member}
use Rattle.toml.specs.Parse.{parse_document}
use Rattle.site_types.specs.Classes.{class_of, is_site_change}
use Rattle.site_types.specs.Paths.{written}
use Rattle.site_types.specs.Requests.{read_words}
use Rattle.site_types.specs.declared.request.Request.{Request}

-- the words of a request
abbrev pub Line : Type 0
Line = List (List ℕ)

-- the text of a value: that of a string, or the decimal digits of an integer
abbrev pub text_of : Data → Option (List ℕ)
text_of (string text) = Some text
text_of (integer number) = Some (signed_decimal number)
text_of (float _) = None
text_of (boolean _) = None
text_of (datetime _) = None
text_of (array _) = None
text_of (table _) = None

abbrev pub word_of : List ℕ → List ℕ → List ℕ
word_of key value = key ++ codes "=" ++ value

-- one thing before others that may be none
abbrev pub before : {A : Type 0} → A → Option (List A) → Option (List A)
before x None = None
before x (Some xs) = Some (x ∷ xs)

-- one list before another, where both are there
abbrev pub joined : {A : Type 0} → Option (List A) → Option (List A) → Option (List A)
joined None others = None
joined (Some xs) None = None
joined (Some xs) (Some ys) = Some (xs ++ ys)

abbrev pub is_among : List (List ℕ) → List ℕ → Bool
is_among keys key = list_any (λ k. bytes_eq k key) keys

abbrev pub valued : List ℕ → Option (List ℕ) → Option Line → Option Line
valued key None words = None
valued key (Some value) words = before (word_of key value) words

-- the words of a table's keys, which have to be among these, each with a value that has a text; the keys of its parts are left out
abbrev pub words_of : List (List ℕ) → List (List ℕ) → Members → Option Line
words_of keys parts no_members = Some []
words_of keys parts (member key value members) =
    if is_among parts key
    then words_of keys parts members
    else (if is_among keys key then valued key (text_of value) (words_of keys parts members) else None)

-- the request of a table
abbrev pub request_of : Line → List (List ℕ) → List (List ℕ) → Members → Option Line
request_of form keys parts members = option_map (λ words. form ++ words) (words_of keys parts members)

-- something of each item, in their order; none where there is none of one
abbrev pub of_items : {A : Type 0} → (Data → Option (List A)) → Items → Option (List A)
of_items f no_items = Some []
of_items f (item value items) = joined (f value) (of_items f items)

-- the items of an array, and of no other value; what isn't there has none
abbrev pub array_at : Option Data → Option Items
array_at None = Some no_items
array_at (Some (array items)) = Some items
array_at (Some _) = None

abbrev pub of_array : {A : Type 0} → (Data → Option (List A)) → Option Data → Option (List A)
of_array f value = option_and_then (of_items f) (array_at value)

-- a table, and no other value
abbrev pub table_with : {A : Type 0} → (Members → Option (List A)) → Data → Option (List A)
table_with f (table members) = f members
table_with f _ = None

-- the part of this name may be missing, else it is an array of tables
abbrev pub tables_at : {A : Type 0} → List ℕ → (Members → Option (List A)) → Members → Option (List A)
tables_at key f members = of_array (table_with f) (get_member key members)

abbrev pub one : Option Line → Option (List Line)
one request = option_map (λ line. line ∷ []) request

-- The zone: a table that names a rule or an offset.
abbrev pub zone_line : Members → Option (List Line)
zone_line members = one (request_of (codes "bpzone" ∷ codes "set" ∷ []) (codes "rule" ∷ codes "offset" ∷ []) [] members)

abbrev pub zone_lines : Option Data → Option (List Line)
zone_lines None = Some []
zone_lines (Some (table members)) = zone_line members
zone_lines (Some _) = None

-- Units and clients.
abbrev pub unit_line : Members → Option (List Line)
unit_line members =
    one (request_of (codes "unit" ∷ codes "add" ∷ []) (codes "name" ∷ codes "capacity" ∷ codes "segment" ∷ codes "fragment" ∷ codes "slots" ∷ codes "high" ∷ codes "low" ∷ []) [] members)

abbrev pub client_line : Members → Option (List Line)
client_line members = one (request_of (codes "client" ∷ codes "add" ∷ []) (codes "name" ∷ []) [] members)

-- A policy: itself, the clients of its list, its selections and its schedules, each with the policy's name.
abbrev pub policy_parts : List (List ℕ)
policy_parts = codes "clients" ∷ codes "selections" ∷ codes "schedule" ∷ []

abbrev pub policy_line : Members → Option (List Line)
policy_line members = one (request_of (codes "bppolicynew" ∷ codes "add" ∷ []) (codes "policy" ∷ codes "type" ∷ codes "lifecycle" ∷ []) policy_parts members)

-- the first words of a request on a policy
abbrev pub on_policy : List ℕ → List ℕ → List ℕ → Line
on_policy command action policy = command ∷ action ∷ word_of (codes "policy") policy ∷ []

-- the word for an item of a policy's lists
abbrev pub client_word : List ℕ → List ℕ
client_word client = word_of (codes "client") client

abbrev pub path_word : List ℕ → List ℕ
path_word path = word_of (codes "path") (written path)

-- a request with one word more
abbrev pub with_word : Line → (List ℕ → List ℕ) → Data → Option (List Line)
with_word form word value = option_map (λ text. (form ++ word text ∷ []) ∷ []) (text_of value)

abbrev pub clients_of : Members → List ℕ → Option (List Line)
clients_of members policy = of_array (with_word (on_policy (codes "bppolicynew") (codes "client-add") policy) client_word) (get_member (codes "clients") members)

abbrev pub selections_of : Members → List ℕ → Option (List Line)
selections_of members policy = of_array (with_word (on_policy (codes "bppolicynew") (codes "select") policy) path_word) (get_member (codes "selections") members)

abbrev pub schedule_line : List ℕ → Members → Option (List Line)
schedule_line policy members =
    one (request_of (on_policy (codes "bpplsched") (codes "add") policy) (codes "schedule" ∷ codes "kind" ∷ codes "frequency" ∷ codes "calendar" ∷ codes "windows" ∷ []) [] members)

abbrev pub schedules_of : Members → List ℕ → Option (List Line)
schedules_of members policy = tables_at (codes "schedule") (schedule_line policy) members

abbrev pub parts_of : Members → List ℕ → Option (List Line)
parts_of members policy = joined (clients_of members policy) (joined (selections_of members policy) (schedules_of members policy))

abbrev pub policy_name : Members → Option (List ℕ)
policy_name members = option_and_then text_of (get_member (codes "policy") members)

abbrev pub policy_lines : Members → Option (List Line)
policy_lines members = joined (policy_line members) (option_and_then (parts_of members) (policy_name members))

-- no other keys than these
abbrev pub has_keys : List (List ℕ) → Members → Bool
has_keys keys no_members = true
has_keys keys (member key value members) = if is_among keys key then has_keys keys members else false

-- The requests of a file: the zone, the units, the clients, and each policy with its parts.
abbrev pub all_lines : Members → Option (List Line)
all_lines members =
    joined (zone_lines (get_member (codes "zone") members))
    (joined (tables_at (codes "unit") unit_line members)
    (joined (tables_at (codes "client") client_line members)
    (tables_at (codes "policy") policy_lines members)))

abbrev pub file_lines : Members → Option (List Line)
file_lines members = if has_keys (codes "zone" ∷ codes "unit" ∷ codes "client" ∷ codes "policy" ∷ []) members then all_lines members else None

-- the change of the site that a line of words asks for, where it asks for one
abbrev pub changes_site : Request → Bool
changes_site request = is_site_change (class_of request)

abbrev pub change_in : Request → Option Request
change_in request = if changes_site request then Some request else None

abbrev pub change_read : Line → Option Request
change_read line = option_and_then change_in (result_ok (read_words line))

-- the requests that lines ask for, where each of them is a change of the site
abbrev pub requests_of : List Line → Option (List Request)
requests_of [] = Some []
requests_of (line ∷ lines) = option_and_then (λ request. option_map (λ requests. request ∷ requests) (requests_of lines)) (change_read line)

-- the requests of a site file, where the bytes are one
abbrev pub site_requests : List ℕ → Option (List Request)
site_requests bytes = option_and_then requests_of (option_and_then file_lines (parse_document bytes))

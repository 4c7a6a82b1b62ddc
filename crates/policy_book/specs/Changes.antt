-- The changes of a book: for each, the refusals in their order, and the book afterwards.
use Rattle.std.specs.Prelude.{ℕ, Bool, true, false, not, ◌&&◌, nat_le, is_some, List, [], ◌∷◌, ◌++◌, length, codes, Option, Some, None, option_map, find, filter, unwrap_or, max}
use Rattle.std.specs.List.{list_any}
use Rattle.std.specs.Option.{option_map_or}
use Rattle.std.specs.Str.{bytes_eq}
use Rattle.site_types.specs.declared.unit.Unit.{Unit as StorageUnit}
use Rattle.site_types.specs.declared.schedule.Schedule.{Schedule}
use Rattle.site_types.specs.declared.image.Kind.{Kind}
use Rattle.site_types.specs.declared.image.Kind.TheVariants.{Full, Differential, Cumulative}
use Rattle.slp_tree.specs.Lifecycles.{latest_named}
use Rattle.policy_book.specs.declared.client.Client.{Client}
use Rattle.policy_book.specs.declared.units.NewUnit.{NewUnit}
use Rattle.policy_book.specs.declared.units.UnitChange.{UnitChange}
use Rattle.policy_book.specs.declared.fault.BookFault.{BookFault}
use Rattle.policy_book.specs.declared.fault.BookFault.TheVariants.{Exists, Unknown, InUse, TooMany, Rule}
use Rattle.policy_book.specs.Lists.{named, has, put, without, changed, itself}
use Rattle.site_types.specs.Paths.{written}
use Rattle.policy_book.specs.Book.{Policy, Book, unit_name, client_name, policy_name, schedule_name, unit_limit, client_limit, policy_limit, listed_limit, selection_limit, schedule_limit}

-- Units.

abbrev pub unit_of : List ℕ → ℕ → NewUnit → StorageUnit
unit_of name number u = record {
  name = name;
  number = number;
  capacity = u.capacity;
  segment = unwrap_or u.segment 131072;
  fragment = unwrap_or u.fragment 4096;
  slots = unwrap_or u.slots 8388608;
  high = unwrap_or u.high 98;
  low = unwrap_or u.low 80;
}

abbrev pub unit_added : List ℕ → NewUnit → Book → Book
unit_added name u book = record book { units = put unit_name (unit_of name (length book.units) u) book.units }

abbrev pub unit_add_refusals : List ℕ → Book → List (Bool × BookFault)
unit_add_refusals name book =
    (nat_le unit_limit (length book.units), TooMany (codes "units") (length book.units) unit_limit)
    ∷ (has unit_name name book.units, Exists name)
    ∷ []

-- what is given changes, and all else of the unit stays
abbrev pub unit_with : UnitChange → StorageUnit → StorageUnit
unit_with c u = record u { capacity = unwrap_or c.capacity u.capacity; slots = unwrap_or c.slots u.slots; high = unwrap_or c.high u.high; low = unwrap_or c.low u.low }

abbrev pub unit_changed : List ℕ → UnitChange → Book → Book
unit_changed name c book = record book { units = changed unit_name name (unit_with c) book.units }

abbrev pub unit_change_refusals : List ℕ → Book → List (Bool × BookFault)
unit_change_refusals name book = (not (has unit_name name book.units), Unknown name) ∷ []

-- Clients.

abbrev pub client_added : List ℕ → Book → Book
client_added name book = record book { clients = put client_name (record { name = name; last = 0 }) book.clients }

abbrev pub client_add_refusals : List ℕ → Book → List (Bool × BookFault)
client_add_refusals name book =
    (nat_le client_limit (length book.clients), TooMany (codes "clients") (length book.clients) client_limit)
    ∷ (has client_name name book.clients, Exists name)
    ∷ []

-- the first policy by name that lists a client
abbrev pub lister : List ℕ → List Policy → Option Policy
lister name policies = find (λ p. has itself name p.clients) policies

abbrev pub lister_text : Option Policy → List ℕ
lister_text p = codes "policy " ++ option_map_or policy_name p []

abbrev pub client_removed : List ℕ → Book → Book
client_removed name book = record book { clients = without client_name name book.clients }

abbrev pub client_remove_refusals : List ℕ → Book → List (Bool × BookFault)
client_remove_refusals name book =
    (not (has client_name name book.clients), Unknown name)
    ∷ (is_some (lister name book.policies), InUse name (lister_text (lister name book.policies)))
    ∷ []

-- the client's last id time is raised to this one where it is lower
abbrev pub raised : ℕ → Client → Client
raised time c = record c { last = max c.last time }

abbrev pub last_raised : List ℕ → ℕ → Book → Book
last_raised name time book = record book { clients = changed client_name name (raised time) book.clients }

-- a client's last id time, 0 for one that isn't there
abbrev pub last_of : List ℕ → Book → ℕ
last_of name book = option_map_or (λ c. c.last) (named client_name name book.clients) 0

-- a backup of the client with this time was sealed: its last id time is raised, and a client that isn't there is added
abbrev pub client_sealed : List ℕ → ℕ → Book → Book
client_sealed name time book = record book { clients = put client_name (record { name = name; last = max (last_of name book) time }) book.clients }

-- a client's last id time where the client is in the book
abbrev pub last_known : List ℕ → Book → Option ℕ
last_known name book = option_map (λ c. c.last) (named client_name name book.clients)

-- a client with this last id time
abbrev pub with_last : ℕ → Client → Client
with_last time c = record c { last = time }

-- a backup of the client that was sealed is taken back, with what was known before: the client isn't there, or its last id time is that again
abbrev pub client_unsealed : List ℕ → Option ℕ → Book → Book
client_unsealed name None book = client_removed name book
client_unsealed name (Some last) book = record book { clients = changed client_name name (with_last last) book.clients }

-- Policies.

abbrev pub has_lifecycle : List ℕ → Book → Bool
has_lifecycle name book = is_some (latest_named name book.lifecycles)

abbrev pub policy_added : List ℕ → Bool → List ℕ → Book → Book
policy_added name files lifecycle book = record book { policies = put policy_name (record { name = name; files = files; active = true; lifecycle = lifecycle; clients = []; selections = []; schedules = [] }) book.policies }

abbrev pub policy_add_refusals : List ℕ → List ℕ → Book → List (Bool × BookFault)
policy_add_refusals name lifecycle book =
    (nat_le policy_limit (length book.policies), TooMany (codes "policies") (length book.policies) policy_limit)
    ∷ (has policy_name name book.policies, Exists name)
    ∷ (not (has_lifecycle lifecycle book), Unknown lifecycle)
    ∷ []

-- the policy of this name is changed so
abbrev pub with_policy : List ℕ → (Policy → Policy) → Book → Book
with_policy name change book = record book { policies = changed policy_name name change book.policies }

abbrev pub lacks_policy : List ℕ → Book → Bool × BookFault
lacks_policy name book = (not (has policy_name name book.policies), Unknown name)

-- something of the policy of this name
abbrev pub of_policy : {A : Type 0} → A → (Policy → A) → List ℕ → Book → A
of_policy other f name book = option_map_or f (named policy_name name book.policies) other

abbrev pub policy_with : Option Bool → Option (List ℕ) → Policy → Policy
policy_with active lifecycle p = record p { active = unwrap_or active p.active; lifecycle = unwrap_or lifecycle p.lifecycle }

abbrev pub policy_change_refusals : List ℕ → Option (List ℕ) → Book → List (Bool × BookFault)
policy_change_refusals name lifecycle book =
    lacks_policy name book
    ∷ (option_map_or (λ l. not (has_lifecycle l book)) lifecycle false, Unknown (unwrap_or lifecycle []))
    ∷ []

abbrev pub policy_removed : List ℕ → Book → Book
policy_removed name book = record book { policies = without policy_name name book.policies }

abbrev pub policy_remove_refusals : List ℕ → Book → List (Bool × BookFault)
policy_remove_refusals name book =
    lacks_policy name book
    ∷ (bytes_eq name (codes "adhoc"), InUse name (codes "desk"))
    ∷ []

-- A policy's clients.

abbrev pub pair_text : List ℕ → List ℕ → List ℕ
pair_text policy other = policy ++ codes "/" ++ other

abbrev pub clients_of : List ℕ → Book → List (List ℕ)
clients_of policy book = of_policy [] (λ p. p.clients) policy book

abbrev pub with_listed : List ℕ → Policy → Policy
with_listed client p = record p { clients = put itself client p.clients }

abbrev pub client_list_refusals : List ℕ → List ℕ → Book → List (Bool × BookFault)
client_list_refusals policy client book =
    lacks_policy policy book
    ∷ (nat_le listed_limit (length (clients_of policy book)), TooMany (codes "policy-clients") (length (clients_of policy book)) listed_limit)
    ∷ (not (has client_name client book.clients), Unknown client)
    ∷ (has itself client (clients_of policy book), Exists (pair_text policy client))
    ∷ []

abbrev pub without_listed : List ℕ → Policy → Policy
without_listed client p = record p { clients = without itself client p.clients }

abbrev pub client_unlist_refusals : List ℕ → List ℕ → Book → List (Bool × BookFault)
client_unlist_refusals policy client book =
    lacks_policy policy book
    ∷ (not (has itself client (clients_of policy book)), Unknown (pair_text policy client))
    ∷ []

-- A policy's selections.

abbrev pub selections_of : List ℕ → Book → List (List ℕ)
selections_of policy book = of_policy [] (λ p. p.selections) policy book

abbrev pub is_selected : List ℕ → List ℕ → Book → Bool
is_selected policy path book = list_any (λ s. bytes_eq s path) (selections_of policy book)

abbrev pub with_path : List ℕ → Policy → Policy
with_path path p = record p { selections = p.selections ++ path ∷ [] }

abbrev pub select_refusals : List ℕ → List ℕ → Book → List (Bool × BookFault)
select_refusals policy path book =
    lacks_policy policy book
    ∷ (nat_le selection_limit (length (selections_of policy book)), TooMany (codes "selections") (length (selections_of policy book)) selection_limit)
    ∷ (is_selected policy path book, Exists (written path))
    ∷ []

abbrev pub without_path : List ℕ → Policy → Policy
without_path path p = record p { selections = filter (λ s. not (bytes_eq s path)) p.selections }

abbrev pub unselect_refusals : List ℕ → List ℕ → Book → List (Bool × BookFault)
unselect_refusals policy path book =
    lacks_policy policy book
    ∷ (not (is_selected policy path book), Unknown (written path))
    ∷ []

-- A policy's schedules.

abbrev pub schedules_of : List ℕ → Book → List Schedule
schedules_of policy book = of_policy [] (λ p. p.schedules) policy book

abbrev pub is_full : Kind → Bool
is_full Full = true
is_full Differential = false
is_full Cumulative = false

-- rule 8: the schedules of a policy that takes bytes as they come are full
abbrev pub breaks_rule_8 : List ℕ → Kind → Book → Bool
breaks_rule_8 policy kind book = of_policy false (λ p. not p.files && not (is_full kind)) policy book

abbrev pub with_schedule : Schedule → Policy → Policy
with_schedule schedule p = record p { schedules = put schedule_name schedule p.schedules }

abbrev pub schedule_add_refusals : List ℕ → List ℕ → Kind → Book → List (Bool × BookFault)
schedule_add_refusals policy schedule kind book =
    lacks_policy policy book
    ∷ (nat_le schedule_limit (length (schedules_of policy book)), TooMany (codes "schedules") (length (schedules_of policy book)) schedule_limit)
    ∷ (has schedule_name schedule (schedules_of policy book), Exists (pair_text policy schedule))
    ∷ (breaks_rule_8 policy kind book, Rule 8)
    ∷ []

abbrev pub schedule_change_refusals : List ℕ → List ℕ → Kind → Book → List (Bool × BookFault)
schedule_change_refusals policy schedule kind book =
    lacks_policy policy book
    ∷ (not (has schedule_name schedule (schedules_of policy book)), Unknown (pair_text policy schedule))
    ∷ (breaks_rule_8 policy kind book, Rule 8)
    ∷ []

abbrev pub without_schedule : List ℕ → Policy → Policy
without_schedule schedule p = record p { schedules = without schedule_name schedule p.schedules }

abbrev pub schedule_remove_refusals : List ℕ → List ℕ → Book → List (Bool × BookFault)
schedule_remove_refusals policy schedule book =
    lacks_policy policy book
    ∷ (not (has schedule_name schedule (schedules_of policy book)), Unknown (pair_text policy schedule))
    ∷ []

-- The book of a site: its units, clients, lifecycles and policies.
use Rattle.std.specs.Prelude.{ℕ, ◌≤◌, Bool, true, false, List, [], ◌∷◌, length, codes}
use Rattle.site_types.specs.declared.unit.Unit.{Unit as StorageUnit}
use Rattle.site_types.specs.declared.lifecycle.Operation.{Operation}
use Rattle.site_types.specs.declared.lifecycle.Retention.TheVariants.{Fixed}
use Rattle.site_types.specs.declared.window.Windows.TheVariants.{Always, Listed}
use Rattle.site_types.specs.declared.schedule.Schedule.{Schedule}
use Rattle.site_types.specs.declared.schedule.Mode.TheVariants.{Frequency}
use Rattle.site_types.specs.declared.image.Kind.TheVariants.{Full}
use Rattle.slp_tree.specs.Lifecycles.{Lifecycle}
use Rattle.policy_book.specs.declared.client.Client.{Client}
use Rattle.policy_book.specs.Lists.{AreByName, itself}

-- clients and schedules by name, selections in the order in which they were added
pub record Policy : Type 0 where
  pub name : List ℕ
  pub files : Bool
  pub active : Bool
  pub lifecycle : List ℕ
  pub clients : List (List ℕ)
  pub selections : List (List ℕ)
  pub schedules : List Schedule

-- each list by name
pub record Book : Type 0 where
  pub units : List StorageUnit
  pub clients : List Client
  pub lifecycles : List Lifecycle
  pub policies : List Policy

abbrev pub unit_name : StorageUnit → List ℕ
unit_name u = u.name

abbrev pub client_name : Client → List ℕ
client_name c = c.name

abbrev pub policy_name : Policy → List ℕ
policy_name p = p.name

abbrev pub schedule_name : Schedule → List ℕ
schedule_name s = s.name

-- how many there may be of each
abbrev pub unit_limit : ℕ
unit_limit = 16

abbrev pub client_limit : ℕ
client_limit = 1024

abbrev pub policy_limit : ℕ
policy_limit = 256

abbrev pub listed_limit : ℕ
listed_limit = 1024

abbrev pub selection_limit : ℕ
selection_limit = 64

abbrev pub schedule_limit : ℕ
schedule_limit = 32

-- what a new vault has: a unit, a lifecycle, and a policy that takes every client
abbrev pub disk0 : StorageUnit
disk0 = record { name = codes "disk0"; number = 0; capacity = 1099511627776; segment = 131072; fragment = 4096; slots = 8388608; high = 98; low = 80 }

abbrev pub first_backup : Operation
first_backup = record { backup = true; source = 0; unit = codes "disk0"; retention = Fixed 1209600; windows = Always }

abbrev pub basic : Lifecycle
basic = record { name = codes "basic"; versions = record { priority = 0; operations = first_backup ∷ [] } ∷ [] }

abbrev pub manual : Schedule
manual = record { name = codes "manual"; kind = Full; mode = Frequency 86400; windows = Listed [] }

abbrev pub adhoc : Policy
adhoc = record { name = codes "adhoc"; files = false; active = true; lifecycle = codes "basic"; clients = []; selections = []; schedules = manual ∷ [] }

abbrev pub initial_book : Book
initial_book = record { units = disk0 ∷ []; clients = []; lifecycles = basic ∷ []; policies = adhoc ∷ [] }

-- the lists of a policy are by name
pub record PolicyOrdered (p : Policy) : Type 0 where
  pub clients : AreByName itself p.clients
  pub schedules : AreByName schedule_name p.schedules

-- those of a book are, and there are at most 16 units, so that each has its number
pub record BookOrdered (b : Book) : Type 0 where
  pub units : AreByName unit_name b.units
  pub few : length b.units ≤ unit_limit
  pub clients : AreByName client_name b.clients
  pub policies : AreByName policy_name b.policies

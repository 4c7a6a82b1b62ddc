-- bpbackup: what it is made under, its refusals, and the state with its image.
use Rattle.std.specs.Prelude.{ℕ, ◌+◌, ◌*◌, Bool, true, false, ◌&&◌, not, is_none, nat_le, nat_lt, is_some, if◌then◌else◌, List, [], ◌∷◌, ◌++◌, length, map, codes, Option, Some, None, Result, Ok, Err, unwrap_or, find, fold, max}
use Rattle.std.specs.List.{list_any}
use Rattle.std.specs.Option.{option_map_or}
use Rattle.std.specs.Result.{result_err}
use Rattle.std.specs.Str.{bytes_eq}
use Rattle.site_types.specs.Ids.{id_text}
use Rattle.site_types.specs.Limits.{last_moment}
use Rattle.site_types.specs.declared.id.BackupId.{BackupId}
use Rattle.site_types.specs.declared.unit.Unit.{Unit as StorageUnit}
use Rattle.site_types.specs.declared.schedule.Schedule.{Schedule}
use Rattle.site_types.specs.declared.schedule.Start.{Start}
use Rattle.site_types.specs.declared.schedule.Start.TheVariants.{Manual, Scheduled}
use Rattle.site_types.specs.declared.lifecycle.Operation.{Operation}
use Rattle.site_types.specs.declared.lifecycle.OpState.{OpState}
use Rattle.site_types.specs.declared.lifecycle.OpState.TheVariants.{Waiting, Complete}
use Rattle.site_types.specs.declared.image.ImageRecord.{ImageRecord}
use Rattle.site_types.specs.declared.image.Kind.{Kind}
use Rattle.site_types.specs.declared.image.Base.{Base}
use Rattle.site_types.specs.declared.image.Base.TheVariants as base
use Rattle.site_types.specs.declared.image.Expiry.TheVariants.{Rule}
use Rattle.site_types.specs.declared.window.Windows.{Windows}
use Rattle.site_types.specs.declared.answer.Answer.{Answer}
use Rattle.site_types.specs.declared.answer.Answer.TheVariants.{Done, Unknown, Inactive, WindowClosed, AboveHigh, UnitFull, TooMany, BadStream}
use Rattle.schedule_windows.specs.Weeks.{is_open, spans}
use Rattle.schedule_windows.specs.Zones.{ZoneOf, civil_at}
use Rattle.slp_tree.specs.Trees.{Version}
use Rattle.slp_tree.specs.Lifecycles.{latest_named, version_named}
use Rattle.policy_book.specs.Lists.{named, has, itself}
use Rattle.policy_book.specs.Book.{Policy, Book, unit_name, client_name, policy_name, schedule_name, client_limit, disk0, adhoc, manual}
use Rattle.policy_book.specs.Changes.{pair_text, is_full, last_of, client_sealed}
use Rattle.image_kinds.specs.declared.entry.Entry.{Entry}
use Rattle.image_kinds.specs.Streams.{spelled_image}
use Rattle.image_kinds.specs.Images.{made}
use Rattle.image_kinds.specs.Reading.{stream_in}
use Rattle.image_catalogue.specs.Images.{used}
use Rattle.restore_engine.specs.Chains.{reference}
use Rattle.desk_model.specs.Pieces.{piece_count, piece_limit, pieces, with_pieces}
use Rattle.desk_model.specs.State.{State, Image, Job, backup, duplication, restore, entries, stored_on, with_image, with_stored}
use Rattle.desk_model.specs.Refusals.{Case}

-- how many images may be kept
abbrev pub image_limit : ℕ
image_limit = 1048576

-- The time of a backup.

abbrev pub later_job : List ℕ → ℕ → ℕ × Job → ℕ
later_job client last (number, backup id policy schedule kind base lifecycle version bytes) = if bytes_eq id.client client then max last id.time else last
later_job client last (number, duplication id operation bytes) = last
later_job client last (number, restore unit bytes position) = last

-- the greatest of the client's last id time and the times of its open backups
abbrev pub last_time : List ℕ → State → ℕ
last_time client s = fold (later_job client) (last_of client s.site.book) s.jobs

-- the time of a backup that is begun at this moment
abbrev pub new_time : List ℕ → ℕ → State → ℕ
new_time client moment s = max moment (last_time client s + 1)

-- The schedule, the version of the lifecycle and the unit of a backup under a policy.

-- the schedule where none is named: the policy's first full one by name
abbrev pub default_schedule : Policy → Option Schedule
default_schedule policy = find (λ s. is_full s.kind) policy.schedules

abbrev pub schedule_chosen : Option (List ℕ) → Policy → Option Schedule
schedule_chosen schedule policy = option_map_or (λ name. named schedule_name name policy.schedules) schedule (default_schedule policy)

abbrev pub operations_of : Option Version → List Operation
operations_of None = []
operations_of (Some v) = v.operations

-- the unit of the first operation
abbrev pub unit_of : List Operation → List ℕ
unit_of [] = []
unit_of (o ∷ os) = o.unit

-- the number of the latest version of a lifecycle
abbrev pub latest_version : List ℕ → Book → ℕ
latest_version lifecycle book = unwrap_or (latest_named lifecycle book.lifecycles) 0

abbrev pub operations_in : List ℕ → ℕ → Book → List Operation
operations_in lifecycle version book = operations_of (version_named lifecycle version book.lifecycles)

-- the unit to which backups under a policy go
abbrev pub backup_unit : Policy → Book → List ℕ
backup_unit policy book = unit_of (operations_in policy.lifecycle (latest_version policy.lifecycle book) book)

-- a unit that is there has its setting, and no other one is asked for it
abbrev pub unit_at : List ℕ → Book → StorageUnit
unit_at name book = unwrap_or (named unit_name name book.units) disk0

-- The image.

-- when a backup is sealed its first operation is complete, and the others wait
abbrev pub states_of : List Operation → List OpState
states_of [] = []
states_of (o ∷ os) = Complete ∷ map (λ _. Waiting) os

-- an image of so many bytes as it is sealed: under a policy, a schedule and a version of a lifecycle, with one copy
abbrev pub sealed_entry : Book → BackupId → List ℕ → List ℕ → Kind → Base → List ℕ → ℕ → ℕ → ℕ → ImageRecord
sealed_entry book id policy schedule kind base lifecycle version completed size = record {
  id = id;
  policy = policy;
  schedule = schedule;
  kind = kind;
  base = base;
  lifecycle = lifecycle;
  version = version;
  length = size;
  states = states_of (operations_in lifecycle version book);
  copies = record { number = 1; unit = unit_of (operations_in lifecycle version book); completed = completed; expiry = Rule } ∷ [];
  primary = 1;
  active = true;
}

-- the state with one image more: its client's last id time is raised, a client that isn't there is added, and the pieces of its bytes are stored on its copy's unit
abbrev pub sealed : Image → List ℕ → State → State
sealed image unit s = record s {
  site = record (s.site) { book = client_sealed image.entry.id.client image.entry.id.time s.site.book };
  images = with_image image s.images;
  stored = with_stored unit (pieces (unit_at unit s.site.book).segment image.bytes) s.stored;
}

-- the time of the image that a backup builds on, where it builds on one
abbrev pub reference_of : List ℕ → Policy → Schedule → State → Option ℕ
reference_of client policy schedule s = reference policy.name client schedule.kind (entries s.images)

abbrev pub base_of : Option ℕ → Base
base_of None = base.None
base_of (Some time) = base.Time time

-- how the image of a stream is spelled; a payload that is no stream has none
abbrev pub made_bytes : List (List ℕ) → Option ℕ → Result (List Entry) ℕ → List ℕ
made_bytes selections reference (Ok stream) = spelled_image (made selections reference stream)
made_bytes selections reference (Err offset) = []

-- the bytes that are sealed: under a policy of files the image that is made of the payload's stream, and else the payload
abbrev pub sealed_bytes : Policy → Option ℕ → List ℕ → List ℕ
sealed_bytes policy reference payload = if policy.files then made_bytes policy.selections reference (stream_in payload) else payload

-- the image that a backup makes at this moment
abbrev pub backup_image : List ℕ → Policy → Schedule → List ℕ → ℕ → State → Image
backup_image client policy schedule payload moment s =
    let reference = reference_of client policy schedule s in
    let bytes = sealed_bytes policy reference payload in
    record {
      entry = sealed_entry s.site.book (record { client = client; time = new_time client moment s }) policy.name schedule.name schedule.kind (base_of reference) policy.lifecycle (latest_version policy.lifecycle s.site.book) moment (length bytes);
      bytes = bytes;
    }

-- The refusals.

-- one of the windows is open at a moment
abbrev pub has_open : ZoneOf → ℕ → Windows → Bool
has_open zone moment windows = list_any (is_open (civil_at zone moment)) (spans windows)

-- a scheduled backup waits for a window, a manual one doesn't
abbrev pub is_waiting : Start → ZoneOf → ℕ → Windows → Bool
is_waiting Manual zone moment windows = false
is_waiting Scheduled zone moment windows = not (has_open zone moment windows)

-- every client may be backed up under the policy adhoc
abbrev pub takes_all : List ℕ → Bool
takes_all policy = bytes_eq policy (codes "adhoc")

abbrev pub is_known : List ℕ → Book → Bool
is_known client book = has client_name client book.clients

-- who is backed up, under which policy and schedule, and at whose wish
pub record Asked : Type 0 where
  pub client : List ℕ
  pub policy : List ℕ
  pub schedule : Option (List ℕ)
  pub start : Start

-- the refusals that come before a schedule is found, in their order
abbrev pub client_refusals : Asked → Option Policy → State → List (Bool × Answer)
client_refusals asked policy s =
    (nat_le image_limit (length s.images), TooMany (codes "images") (length s.images) image_limit)
    ∷ (is_none policy, Unknown asked.policy)
    ∷ (not (takes_all asked.policy) && not (is_known asked.client s.site.book), Unknown asked.client)
    ∷ (takes_all asked.policy && not (is_known asked.client s.site.book) && nat_le client_limit (length s.site.book.clients), TooMany (codes "clients") (length s.site.book.clients) client_limit)
    ∷ (not (takes_all asked.policy) && not (has itself asked.client (unwrap_or policy adhoc).clients), Unknown (pair_text asked.policy asked.client))
    ∷ []

-- and those of the policy, its schedule and its unit
abbrev pub room_refusals : Asked → Policy → Option Schedule → StorageUnit → ℕ → ℕ → State → List (Bool × Answer)
room_refusals asked policy schedule unit held moment s =
    (is_none schedule, Unknown (pair_text asked.policy (unwrap_or asked.schedule (codes "-"))))
    ∷ (not policy.active, Inactive asked.policy)
    ∷ (is_waiting asked.start s.site.zone moment (unwrap_or schedule manual).windows, WindowClosed (unwrap_or schedule manual).name)
    ∷ (nat_le (unit.high * unit.capacity) (held * 100), AboveHigh unit.name held unit.capacity)
    ∷ (nat_lt last_moment (new_time asked.client moment s), TooMany (codes "time") (last_time asked.client s) last_moment)
    ∷ []

-- where the payload of a policy of files is no stream
abbrev pub stream_break : Policy → List ℕ → Option ℕ
stream_break policy payload = if policy.files then result_err (stream_in payload) else None

-- and those of what is sealed: the payload is no stream, or it has more pieces than a copy may have, or there is no room for it on the unit
abbrev pub content_refusals : Option ℕ → StorageUnit → ℕ → ℕ → List (Bool × Answer)
content_refusals offset unit held size =
    (is_some offset, BadStream (unwrap_or offset 0))
    ∷ (nat_lt piece_limit (piece_count unit.segment size), TooMany (codes "pieces") (piece_count unit.segment size) piece_limit)
    ∷ (nat_lt unit.capacity (held + size), UnitFull unit.name held size unit.capacity)
    ∷ []

-- a backup needs more slots than its unit has, and one of its pieces isn't stored there yet
abbrev pub segment_refusals : StorageUnit → (before after : List (List ℕ)) → List (Bool × Answer)
segment_refusals unit before after =
    (nat_lt (length before) (length after) && nat_lt unit.slots (length after), TooMany (codes "segments") (max unit.slots (length before) + 1) unit.slots)
    ∷ []

abbrev pub policy_asked : Asked → State → Option Policy
policy_asked asked s = named policy_name asked.policy s.site.book.policies

abbrev pub schedule_asked : Asked → State → Option Schedule
schedule_asked asked s = schedule_chosen asked.schedule (unwrap_or (policy_asked asked s) adhoc)

abbrev pub unit_asked : Asked → State → StorageUnit
unit_asked asked s = unit_at (backup_unit (unwrap_or (policy_asked asked s) adhoc) s.site.book) s.site.book

-- how many bytes are kept there
abbrev pub held_asked : Asked → State → ℕ
held_asked asked s = used (unit_asked asked s).name (entries s.images)

-- all of them that come before the payload is read, in their order
abbrev pub backup_refusals : Asked → ℕ → State → List (Bool × Answer)
backup_refusals asked moment s =
    client_refusals asked (policy_asked asked s) s
    ++ room_refusals asked (unwrap_or (policy_asked asked s) adhoc) (schedule_asked asked s) (unit_asked asked s) (held_asked asked s) moment s

abbrev pub image_asked : Asked → List ℕ → ℕ → State → Image
image_asked asked payload moment s = backup_image asked.client (unwrap_or (policy_asked asked s) adhoc) (unwrap_or (schedule_asked asked s) manual) payload moment s

-- the pieces that are stored on its unit, and those that are with what is sealed
abbrev pub pieces_held_asked : Asked → State → List (List ℕ)
pieces_held_asked asked s = stored_on (unit_asked asked s).name s.stored

abbrev pub pieces_needed_asked : Asked → List ℕ → ℕ → State → List (List ℕ)
pieces_needed_asked asked payload moment s = with_pieces (pieces_held_asked asked s) (pieces (unit_asked asked s).segment (image_asked asked payload moment s).bytes)

-- the refusals of what is sealed, for which no stored piece is looked at
abbrev pub backup_content : Asked → List ℕ → ℕ → State → List (Bool × Answer)
backup_content asked payload moment s = content_refusals (stream_break (unwrap_or (policy_asked asked s) adhoc) payload) (unit_asked asked s) (held_asked asked s) (length (image_asked asked payload moment s).bytes)

-- all of them that come once the payload is read, in their order
abbrev pub backup_shown : Asked → List ℕ → ℕ → State → List (Bool × Answer)
backup_shown asked payload moment s = backup_content asked payload moment s ++ segment_refusals (unit_asked asked s) (pieces_held_asked asked s) (pieces_needed_asked asked payload moment s)

abbrev pub backup_done : Asked → List ℕ → ℕ → State → Answer × State
backup_done asked payload moment s =
    let image = image_asked asked payload moment s in
    (Done (id_text image.entry.id ++ codes "\n"), sealed image (backup_unit (unwrap_or (policy_asked asked s) adhoc) s.site.book) s)

-- the policy is adhoc and the start manual where none is named
abbrev pub asked_of : List ℕ → Option (List ℕ) → Option (List ℕ) → Option Start → Asked
asked_of client policy schedule start = record { client = client; policy = unwrap_or policy (codes "adhoc"); schedule = schedule; start = unwrap_or start Manual }

abbrev pub backup_case : Asked → List ℕ → ℕ → State → Case
backup_case asked payload moment s = record { refusals = backup_refusals asked moment s; shown = backup_shown asked payload moment s; answer = (backup_done asked payload moment s).0; after = (backup_done asked payload moment s).1 }

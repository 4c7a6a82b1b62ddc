-- What holds of every state of the desk, and what an administrator may rely on by it: each kept copy restores the bytes of its image.
use Rattle.std.specs.Prelude.{◌≡◌, ◌≢◌, ◌≤◌, ◌<◌, ◌+◌, ◌-◌, ℕ, Bool, true, false, nat_lt, is_some, if◌then◌else◌, List, [], length, map, codes, Option, Some, None, option_map, slice_get, Contains}
use Rattle.std.specs.List.{AllPairs}
use Rattle.site_types.specs.Forms.{capacity_key, segment_key, fragment_key, slots_key, high_key}
use Rattle.site_types.specs.Keys.{Key}
use Rattle.site_types.specs.Limits.{last_moment, payload_limit}
use Rattle.site_types.specs.declared.answer.Answer.{Answer}
use Rattle.site_types.specs.declared.answer.Answer.TheVariants.{Done, TooMany}
use Rattle.site_types.specs.declared.image.Base.{Base}
use Rattle.site_types.specs.declared.image.Base.TheVariants as base
use Rattle.site_types.specs.declared.image.CopyRecord.{CopyRecord}
use Rattle.site_types.specs.declared.image.Expiry.{Expiry}
use Rattle.site_types.specs.declared.image.Expiry.TheVariants as expiry
use Rattle.site_types.specs.declared.keys.Grammar.{Grammar}
use Rattle.site_types.specs.declared.keys.Grammar.TheVariants as grammar
use Rattle.site_types.specs.declared.lifecycle.Operation.{Operation}
use Rattle.site_types.specs.declared.lifecycle.OpState.{OpState}
use Rattle.site_types.specs.declared.lifecycle.OpState.TheVariants.{Cancelled}
use Rattle.site_types.specs.declared.request.Request.TheVariants as request
use Rattle.site_types.specs.declared.schedule.Schedule.{Schedule}
use Rattle.site_types.specs.declared.unit.Unit.{Unit as StorageUnit}
use Rattle.slp_tree.specs.Trees.{Version, broken_rule, waits, completed, needed}
use Rattle.slp_tree.specs.Lifecycles as lifecycles
use Rattle.policy_book.specs.declared.client.Client.{Client}
use Rattle.policy_book.specs.Lists.{AreByName, has}
use Rattle.policy_book.specs.Book.{Policy, Book, unit_name, policy_name, client_limit, policy_limit, listed_limit, selection_limit, schedule_limit, PolicyOrdered, BookOrdered}
use Rattle.policy_book.specs.Changes.{has_lifecycle, is_full, last_of}
use Rattle.image_catalogue.specs.Images.{AreById}
use Rattle.desk_model.specs.Pieces.{piece_count, piece_limit, pieces}
use Rattle.desk_model.specs.State.{State, Image, Stored, entries, stored_on}
use Rattle.desk_model.specs.Backups.{image_limit, is_known, operations_in, unit_at}
use Rattle.desk_model.specs.Restores.{has_copy}
use Rattle.desk_model.specs.Step.{step}

-- The site.

-- a number is one that a key may have
abbrev pub IsOf : Grammar → ℕ → Type 0
IsOf (grammar.Number least greatest) number = (least ≤ number) × (number ≤ greatest)
IsOf _ number = Unit {0}

abbrev pub IsNumberOf : Key → ℕ → Type 0
IsNumberOf key number = IsOf key.grammar number

-- a unit has numbers that its keys may have, and its low mark is below its high one
pub record IsSoundUnit (u : StorageUnit) : Type 0 where
  pub capacity : IsNumberOf capacity_key u.capacity
  pub segment : IsNumberOf segment_key u.segment
  pub fragment : IsNumberOf fragment_key u.fragment
  pub slots : IsNumberOf slots_key u.slots
  pub high : IsNumberOf high_key u.high
  pub low : u.low < u.high

-- how many lifecycles there may be, and versions of each
abbrev pub lifecycle_limit : ℕ
lifecycle_limit = 256

abbrev pub version_limit : ℕ
version_limit = 65535

abbrev pub has_version : List ℕ → ℕ → Book → Bool
has_version lifecycle version book = is_some (lifecycles.version_named lifecycle version book.lifecycles)

-- a lifecycle has a version, and none of its versions breaks a rule of operations, so the units that it names are there
pub record IsSoundLifecycle (book : Book) (l : lifecycles.Lifecycle) : Type 0 where
  pub some : 1 ≤ length l.versions
  pub rules : (v : Version) → Contains l.versions v → broken_rule (map unit_name book.units) v.operations ≡ None
  pub few : length l.versions ≤ version_limit

-- the lifecycle of a policy is there, its clients are in the book, and where it takes bytes as they come its schedules are full
pub record IsSoundPolicy (book : Book) (p : Policy) : Type 0 where
  pub lifecycle : has_lifecycle p.lifecycle book ≡ true
  pub clients : (client : List ℕ) → Contains p.clients client → is_known client book ≡ true
  pub kinds : p.files ≡ false → (schedule : Schedule) → Contains p.schedules schedule → is_full schedule.kind ≡ true
  pub ordered : PolicyOrdered p
  pub few_clients : length p.clients ≤ listed_limit
  pub few_selections : length p.selections ≤ selection_limit
  pub few_schedules : length p.schedules ≤ schedule_limit

-- the lists are by name and within their limits, each element is sound, and no last id time is above the last moment
pub record IsSoundBook (book : Book) : Type 0 where
  pub ordered : BookOrdered book
  pub by_name : AreByName lifecycles.lifecycle_name book.lifecycles
  pub few_clients : length book.clients ≤ client_limit
  pub few_lifecycles : length book.lifecycles ≤ lifecycle_limit
  pub few_policies : length book.policies ≤ policy_limit
  pub units : (u : StorageUnit) → Contains book.units u → IsSoundUnit u
  pub lifecycles : (l : lifecycles.Lifecycle) → Contains book.lifecycles l → IsSoundLifecycle book l
  pub policies : (p : Policy) → Contains book.policies p → IsSoundPolicy book p
  pub last : (c : Client) → Contains book.clients c → c.last ≤ last_moment

-- The pieces that are stored.

-- a set of pieces is a unit's, its pieces are distinct, none is empty, and none is longer than the unit's segments
pub record IsSoundSet (book : Book) (set : Stored) : Type 0 where
  pub unit : has unit_name set.unit book.units ≡ true
  pub distinct : AllPairs (λ (a b : List ℕ). a ≢ b) set.pieces
  pub sized : (piece : List ℕ) → Contains set.pieces piece → (1 ≤ length piece) × (length piece ≤ (unit_at set.unit book).segment)

-- the set at the number of a unit is the unit's own
abbrev pub HasSet : List Stored → StorageUnit → Type 0
HasSet sets u = option_map (λ set. set.unit) (slice_get sets u.number) ≡ Some u.name

-- The images.

-- the operations of the version that an image keeps
abbrev pub operations_kept : Book → Image → List Operation
operations_kept book image = operations_in image.entry.lifecycle image.entry.version book

-- a duplication's source is complete
abbrev pub HasSource : List OpState → Option Operation → Type 0
HasSource states None = Unit {0}
HasSource states (Some operation) = operation.backup ≡ false → completed states operation.source ≡ true

-- a moment of expiry is no later than the last moment
abbrev pub IsWithin : Expiry → Type 0
IsWithin (expiry.At moment) = moment ≤ last_moment
IsWithin _ = Unit {0}

-- a base is a moment from 1 on, and below this one
abbrev pub IsBase : Base → ℕ → Type 0
IsBase base.None time = Unit {0}
IsBase (base.Time moment) time = (1 ≤ moment) × (moment < time)

-- a copy belongs to a complete operation and is on its unit; its moments are no later than the last one; and the pieces of the image's bytes are stored there, and are no more than a copy may have
pub record IsSoundCopy (book : Book) (stored : List Stored) (image : Image) (copy : CopyRecord) : Type 0 where
  pub number : 1 ≤ copy.number
  pub complete : completed image.entry.states (copy.number - 1) ≡ true
  pub unit : option_map (λ operation. operation.unit) (slice_get (operations_kept book image) (copy.number - 1)) ≡ Some copy.unit
  pub moment : copy.completed ≤ last_moment
  pub expiry : IsWithin copy.expiry
  pub pieces : (piece : List ℕ) → Contains (pieces (unit_at copy.unit book).segment image.bytes) piece → Contains (stored_on copy.unit stored) piece
  pub few : piece_count (unit_at copy.unit book).segment (length image.bytes) ≤ piece_limit

-- an image with its client, its policy and its version in the book; the states of its operations; its kept copies, of which the primary one and that of each needed operation is one; its bytes and its moments
pub record IsSoundImage (book : Book) (stored : List Stored) (image : Image) : Type 0 where
  pub client : is_known image.entry.id.client book ≡ true
  pub last : image.entry.id.time ≤ last_of image.entry.id.client book
  pub policy : has policy_name image.entry.policy book.policies ≡ true
  pub version : has_version image.entry.lifecycle image.entry.version book ≡ true
  pub states : length image.entry.states ≡ length (operations_kept book image)
  pub first : completed image.entry.states 0 ≡ true
  pub sources : (o : ℕ) → completed image.entry.states o ≡ true → HasSource image.entry.states (slice_get (operations_kept book image) o)
  pub cancelled : (o other : ℕ) → waits image.entry.states o ≡ true → slice_get image.entry.states other ≢ Some Cancelled
  pub copies : (copy : CopyRecord) → Contains image.entry.copies copy → IsSoundCopy book stored image copy
  pub rising : AllPairs (λ (a b : CopyRecord). a.number < b.number) image.entry.copies
  pub primary : has_copy image.entry.primary (Some image) ≡ true
  pub needed : (o : ℕ) → is_some (needed (operations_kept book image) image.entry.states o) ≡ true → has_copy (o + 1) (Some image) ≡ true
  pub size : image.entry.length ≡ length image.bytes
  pub time : (1 ≤ image.entry.id.time) × (image.entry.id.time ≤ last_moment)
  pub base : IsBase image.entry.base image.entry.id.time

-- The state.

-- no two images have one id; each image is sound, and there are no more than may be kept; each unit has its set of pieces, no other set stands, and each set is sound; the site is sound; and no job is open
pub record Sound (s : State) : Type 0 where
  pub ids : AreById (entries s.images)
  pub images : (image : Image) → Contains s.images image → IsSoundImage s.site.book s.stored image
  pub few_images : length s.images ≤ image_limit
  pub own_sets : (u : StorageUnit) → Contains s.site.book.units u → HasSet s.stored u
  pub no_others : length s.stored ≡ length s.site.book.units
  pub sets : (set : Stored) → Contains s.stored set → IsSoundSet s.site.book set
  pub site : IsSoundBook s.site.book
  pub no_jobs : s.jobs ≡ []
  pub next_job : s.next_job ≡ 1

-- What is kept can be restored.

-- the bytes, or their number where they are more than one answer has
abbrev pub given_back : List ℕ → Answer
given_back bytes = if nat_lt payload_limit (length bytes) then TooMany (codes "bytes") (length bytes) payload_limit else Done bytes

-- each kept copy restores the bytes of its image, and so does an image with no copy named; nothing changes by it
pub record KeepsCopies (s : State) : Type 0 where
  pub copies : (image : Image) → Contains s.images image → (copy : CopyRecord) → Contains image.entry.copies copy → (payload : List ℕ) (moment : ℕ) → step s (request.Restore image.entry.id (Some copy.number)) payload moment ≡ (given_back image.bytes, s)
  pub images : (image : Image) → Contains s.images image → (payload : List ℕ) (moment : ℕ) → step s (request.Restore image.entry.id None) payload moment ≡ (given_back image.bytes, s)

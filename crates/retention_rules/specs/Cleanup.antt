-- What a cleanup expires.
use Rattle.std.specs.Prelude.{ℕ, ◌-◌, Bool, false, not, ◌&&◌, if◌then◌else◌, List, [], ◌∷◌, ◌++◌, map, filter, find, sum_by, unwrap_or}
use Rattle.std.specs.List.{flat_map}
use Rattle.std.specs.Option.{option_map_or}
use Rattle.std.specs.Cmp.Lexicographic.{slice_cmp}
use Rattle.std.specs.Ordering.{ordering_then, nat_cmp}
use Rattle.std.specs.Str.{bytes_eq}
use Rattle.std.specs.declared.cmp.Ordering.{Ordering}
use Rattle.site_types.specs.declared.image.CopyRecord.{CopyRecord}
use Rattle.site_types.specs.declared.image.ImageRecord.{ImageRecord}
use Rattle.site_types.specs.declared.unit.Unit.{Unit as StorageUnit}
use Rattle.image_catalogue.specs.Images.{used}
use Rattle.slp_tree.specs.Lifecycles.{Lifecycle}
use Rattle.slp_tree.specs.Sorting.{in_order}
use Rattle.slp_tree.specs.Trees.{Version}
use Rattle.retention_rules.specs.declared.cleanup.Expired.{Expired}
use Rattle.retention_rules.specs.Eligible.{is_eligible, is_capacity_managed, version_of}
use Rattle.retention_rules.specs.Marks.{is_high_reached, is_low_met}

-- a kept copy, with its image
pub record Kept : Type 0 where
  pub image : ImageRecord
  pub copy : CopyRecord

abbrev pub with_image : ImageRecord → CopyRecord → Kept
with_image image copy = record { image = image; copy = copy }

abbrev pub copies_of : ImageRecord → List Kept
copies_of image = map (with_image image) image.copies

-- the copies that are kept, by client, time and number
abbrev pub kept : List ImageRecord → List Kept
kept images = flat_map copies_of images

-- the copy may go at this moment, by the version that its image keeps
abbrev pub may_go : List Lifecycle → ℕ → Kept → Bool
may_go lifecycles moment k = option_map_or (λ (v : Version). is_eligible v k.image k.copy moment) (version_of lifecycles k.image) false

abbrev pub is_managed : List Lifecycle → Kept → Bool
is_managed lifecycles k = option_map_or (λ (v : Version). is_capacity_managed v k.copy) (version_of lifecycles k.image) false

-- the copy goes whatever room its unit has
abbrev pub goes_anyway : List Lifecycle → ℕ → Kept → Bool
goes_anyway lifecycles moment k = may_go lifecycles moment k && not (is_managed lifecycles k)

-- the copy goes where its unit wants the room
abbrev pub is_candidate : List Lifecycle → ℕ → Kept → Bool
is_candidate lifecycles moment k = may_go lifecycles moment k && is_managed lifecycles k

-- both of the copies of images under one version
abbrev pub goes_under : Version → ℕ → Kept → Bool
goes_under version moment k = is_eligible version k.image k.copy moment && not (is_capacity_managed version k.copy)

abbrev pub is_candidate_under : Version → ℕ → Kept → Bool
is_candidate_under version moment k = is_eligible version k.image k.copy moment && is_capacity_managed version k.copy

-- by the image's time, the client and the copy's number
abbrev pub by_age : Kept → Kept → Ordering
by_age a b =
    ordering_then (nat_cmp a.image.id.time b.image.id.time)
    (ordering_then (slice_cmp nat_cmp a.image.id.client b.image.id.client)
    (nat_cmp a.copy.number b.copy.number))

abbrev pub is_on : List ℕ → Kept → Bool
is_on unit k = bytes_eq k.copy.unit unit

-- the bytes that some copies have on a unit, before equal segments are stored once
abbrev pub bytes_on_unit : List ℕ → List Kept → ℕ
bytes_on_unit unit copies = sum_by (λ (k : Kept). if is_on unit k then k.image.length else 0) copies

-- what a list begins with: nothing, its first value, its first two, and so on
abbrev pub prefixes : {X : Type 0} → List X → List (List X)
prefixes [] = [] ∷ []
prefixes {X} (x ∷ xs) = [] ∷ map (λ (p : List X). x ∷ p) (prefixes xs)

-- the shortest prefix that is enough, or all where none is
abbrev pub shortest_prefix : {X : Type 0} → (List X → Bool) → List X → List X
shortest_prefix is_enough xs = unwrap_or (find is_enough (prefixes xs)) xs

-- of a unit's candidates, by age, the shortest prefix without which the low mark is met, or all
abbrev pub enough_of : StorageUnit → ℕ → List Kept → List Kept
enough_of unit used candidates = shortest_prefix (λ (p : List Kept). is_low_met (used - bytes_on_unit unit.name p) unit.capacity unit.low) candidates

-- those that go: where the high mark is reached, enough of them
abbrev pub going_from : StorageUnit → ℕ → List Kept → List Kept
going_from unit used candidates = if is_high_reached used unit.capacity unit.high then enough_of unit used candidates else []

-- the bytes used of a unit in the state so far, in which some copies are gone
abbrev pub used_without : List ImageRecord → List Kept → List ℕ → ℕ
used_without images gone unit = used unit images - bytes_on_unit unit gone

-- the units one after another, each in the state so far: all that is gone in the end
abbrev pub gone_after : List ImageRecord → List Kept → List StorageUnit → List Kept → List Kept
gone_after images candidates [] gone = gone
gone_after images candidates (unit ∷ units) gone =
    gone_after images candidates units (gone ++ going_from unit (used_without images gone unit.name) (filter (is_on unit.name) candidates))

-- a copy's name
abbrev pub expired_of : Kept → Expired
expired_of k = record { id = k.image.id; copy = k.copy.number }

-- first all that go anyway, by client, time and number, and then, unit by unit, what each one's marks ask for
abbrev pub cleanup : List ImageRecord → List Lifecycle → List StorageUnit → ℕ → List Expired
cleanup images lifecycles units moment =
    let candidates = in_order by_age (filter (is_candidate lifecycles moment) (kept images)) in
    map expired_of (gone_after images candidates units (filter (goes_anyway lifecycles moment) (kept images)))

-- Which copies of an image may go at a moment, in seconds since 1970-01-01T00:00:00Z.
use Rattle.std.specs.Prelude.{ℕ, ◌+◌, ◌-◌, Bool, true, false, ◌&&◌, nat_le, List, Option, is_none, slice_get}
use Rattle.std.specs.Option.{option_map_or}
use Rattle.site_types.specs.declared.image.CopyRecord.{CopyRecord}
use Rattle.site_types.specs.declared.image.Expiry.{Expiry}
use Rattle.site_types.specs.declared.image.Expiry.TheVariants.{Rule, At, Never}
use Rattle.site_types.specs.declared.image.ImageRecord.{ImageRecord}
use Rattle.site_types.specs.declared.lifecycle.Operation.{Operation}
use Rattle.site_types.specs.declared.lifecycle.Retention.{Retention}
use Rattle.site_types.specs.declared.lifecycle.Retention.TheVariants.{Fixed, Infinite, AfterCopy, Capacity}
use Rattle.slp_tree.specs.Lifecycles.{Lifecycle, version_named}
use Rattle.slp_tree.specs.Trees.{Version, needed}

-- the index of the operation that made a copy, whose number is one more
abbrev pub index_of : CopyRecord → ℕ
index_of copy = copy.number - 1

-- by its retention a copy is kept so many seconds from the image's time on, or from its own completion on, or for good, or until no operation needs it
abbrev pub is_past : ImageRecord → CopyRecord → ℕ → Retention → Bool
is_past image copy moment (Fixed seconds) = nat_le (image.id.time + seconds) moment
is_past image copy moment Infinite = false
is_past image copy moment AfterCopy = true
is_past image copy moment (Capacity seconds) = nat_le (copy.completed + seconds) moment

-- it expires by its retention, at a moment of its own whatever its retention, or never
abbrev pub is_expired : ImageRecord → CopyRecord → ℕ → Retention → Expiry → Bool
is_expired image copy moment retention Rule = is_past image copy moment retention
is_expired image copy moment retention (At expiry) = nat_le expiry moment
is_expired image copy moment retention Never = false

-- the copy is expired, and no operation is waiting that reads it
abbrev pub is_eligible : Version → ImageRecord → CopyRecord → ℕ → Bool
is_eligible version image copy moment =
    option_map_or (λ (o : Operation). is_expired image copy moment o.retention copy.expiry) (slice_get version.operations (index_of copy)) false
    && is_none (needed version.operations image.states (index_of copy))

abbrev pub is_capacity : Retention → Bool
is_capacity (Fixed seconds) = false
is_capacity Infinite = false
is_capacity AfterCopy = false
is_capacity (Capacity seconds) = true

abbrev pub is_by_rule : Expiry → Bool
is_by_rule Rule = true
is_by_rule (At expiry) = false
is_by_rule Never = false

-- its retention is capacity, and by that it expires: it goes where its unit wants the room
abbrev pub is_capacity_managed : Version → CopyRecord → Bool
is_capacity_managed version copy =
    is_by_rule copy.expiry && option_map_or (λ (o : Operation). is_capacity o.retention) (slice_get version.operations (index_of copy)) false

-- the version that an image keeps, whatever versions its lifecycle got since
abbrev pub version_of : List Lifecycle → ImageRecord → Option Version
version_of lifecycles image = version_named image.lifecycle image.version lifecycles

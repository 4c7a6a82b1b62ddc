-- Rows of retention and cleanups, worked out on the definitions: both sides of each equation compute to one value.
use Rattle.std.proofs.Common.{◌≡◌, ◌+◌, ℕ, List, refl, [], ◌∷◌, codes, Bool, true, false}
use Rattle.std.specs.Prelude.{filter}
use Rattle.site_types.specs.declared.image.Base.TheVariants as base
use Rattle.site_types.specs.declared.image.CopyRecord.{CopyRecord}
use Rattle.site_types.specs.declared.image.Expiry.{Expiry}
use Rattle.site_types.specs.declared.image.Expiry.TheVariants.{Rule, At, Never}
use Rattle.site_types.specs.declared.image.ImageRecord.{ImageRecord}
use Rattle.site_types.specs.declared.image.Kind.TheVariants.{Full}
use Rattle.site_types.specs.declared.lifecycle.Operation.{Operation}
use Rattle.site_types.specs.declared.lifecycle.OpState.{OpState}
use Rattle.site_types.specs.declared.lifecycle.OpState.TheVariants.{Waiting, Complete, Cancelled}
use Rattle.site_types.specs.declared.lifecycle.Retention.{Retention}
use Rattle.site_types.specs.declared.lifecycle.Retention.TheVariants.{Fixed, Infinite, AfterCopy, Capacity}
use Rattle.site_types.specs.declared.unit.Unit.{Unit as StorageUnit}
use Rattle.site_types.specs.declared.window.Windows.TheVariants.{Always}
use Rattle.slp_tree.specs.Lifecycles.{Lifecycle}
use Rattle.slp_tree.specs.Trees.{Version}
use Rattle.retention_rules.specs.declared.cleanup.Expired.{Expired}
use Rattle.retention_rules.specs.Eligible.{is_eligible}
use Rattle.retention_rules.specs.Cleanup.{cleanup, gone_after, is_candidate, kept, prefixes, used_without}

-- A unit of capacity 100 with these marks, and lifecycles with one version.

abbrev unit : List ℕ → ℕ → ℕ → StorageUnit
unit name high low = record { name = name; number = 0; capacity = 100; segment = 16; fragment = 1; slots = 8; high = high; low = low }

abbrev backup : List ℕ → Retention → Operation
backup unit retention = record { backup = true; source = 0; unit = unit; retention = retention; windows = Always }

abbrev duplication : List ℕ → Retention → Operation
duplication unit retention = record { backup = false; source = 0; unit = unit; retention = retention; windows = Always }

abbrev version : List Operation → Version
version operations = record { priority = 0; operations = operations }

-- Copies and images.

abbrev copy : ℕ → List ℕ → ℕ → Expiry → CopyRecord
copy number unit completed expiry = record { number = number; unit = unit; completed = completed; expiry = expiry }

abbrev image : List ℕ → ℕ → ℕ → ℕ → List OpState → List CopyRecord → ImageRecord
image client time number bytes states copies =
    record {
      id = record { client = client; time = time };
      policy = codes "adhoc";
      schedule = codes "manual";
      kind = Full;
      base = base.None;
      lifecycle = codes "tl";
      version = number;
      length = bytes;
      states = states;
      copies = copies;
      primary = 1;
      active = true;
    }

-- an image with one copy, on `t`, that was complete 100 seconds after the image's time
abbrev alone : List ℕ → ℕ → ℕ → Expiry → ImageRecord
alone client time bytes expiry = image client time 1 bytes (Complete ∷ []) (copy 1 (codes "t") (time + 100) expiry ∷ [])

abbrev alone_eligible : Retention → Expiry → ℕ → Bool
alone_eligible retention expiry moment = is_eligible (version (backup (codes "t") retention ∷ [])) (alone (codes "a") 10 40 expiry) (copy 1 (codes "t") 110 expiry) moment

-- Fixed retention counts from the image's time, and its last second isn't over before it is over.

kept_before : alone_eligible (Fixed 5) Rule 14 ≡ false
kept_before = refl

goes_at : alone_eligible (Fixed 5) Rule 15 ≡ true
goes_at = refl

-- Capacity counts from the copy's completion.

room_kept_before : alone_eligible (Capacity 20) Rule 129 ≡ false
room_kept_before = refl

room_goes_at : alone_eligible (Capacity 20) Rule 130 ≡ true
room_goes_at = refl

infinite_stays : alone_eligible Infinite Rule 250000000000 ≡ false
infinite_stays = refl

-- A moment of its own goes before every retention, and so does never.

at_moment : alone_eligible Infinite (At 12) 12 ≡ true
at_moment = refl

before_moment : alone_eligible (Fixed 0) (At 12) 11 ≡ false
before_moment = refl

never : alone_eligible (Fixed 0) Never 250000000000 ≡ false
never = refl

-- After copy: a backup of which two copies are to be made. It goes once neither waits; a cancelled one doesn't wait.

abbrev copied : Version
copied = version (backup (codes "t") AfterCopy ∷ duplication (codes "v") Infinite ∷ duplication (codes "w") Infinite ∷ [])

abbrev copied_eligible : OpState → OpState → Bool → Bool
copied_eligible first second active =
    is_eligible copied (record (image (codes "a") 10 1 16 (Complete ∷ first ∷ second ∷ []) []) { active = active }) (copy 1 (codes "t") 10 Rule) 20

waits_for_one : copied_eligible Complete Waiting true ≡ false
waits_for_one = refl

waits_for_none : copied_eligible Complete Complete true ≡ true
waits_for_none = refl

cancelled_waits_not : copied_eligible Complete Cancelled true ≡ true
cancelled_waits_not = refl

inactive_waits : copied_eligible Complete Waiting false ≡ false
inactive_waits = refl

-- Cleanups.

abbrev lifecycle : List Operation → List Lifecycle
lifecycle operations = record { name = codes "tl"; versions = version operations ∷ [] } ∷ []

abbrev by_capacity : List Lifecycle
by_capacity = lifecycle (backup (codes "t") (Capacity 0) ∷ [])

abbrev expired : List ℕ → ℕ → ℕ → Expired
expired client time number = record { id = record { client = client; time = time }; copy = number }

abbrev t : StorageUnit
t = unit (codes "t") 80 40

abbrev of_forty : List ℕ → ℕ → ImageRecord
of_forty client time = alone client time 40 Rule

-- 80 of 100 reach the high mark, and without the first image 40 meet the low one exactly
abbrev both_of_forty : List ImageRecord
both_of_forty = of_forty (codes "a") 1000 ∷ of_forty (codes "b") 1000 ∷ []

marks : cleanup both_of_forty by_capacity (t ∷ []) 1100 ≡ expired (codes "a") 1000 1 ∷ []
marks = refl

-- behind it 40 are used
marks_left : used_without both_of_forty (gone_after both_of_forty (filter (is_candidate by_capacity 1100) (kept both_of_forty)) (t ∷ []) []) (codes "t") ≡ 40
marks_left = refl

-- 79 don't
below_the_mark : cleanup (of_forty (codes "a") 1000 ∷ alone (codes "b") 1000 39 Rule ∷ []) by_capacity (t ∷ []) 1100 ≡ []
below_the_mark = refl

-- the oldest goes first, whatever its client
oldest_first : cleanup (of_forty (codes "a") 1001 ∷ of_forty (codes "b") 1000 ∷ []) by_capacity (t ∷ []) 1101 ≡ expired (codes "b") 1000 1 ∷ []
oldest_first = refl

-- where the newest copy is bound to stay, no prefix is enough, and all the others go
no_prefix_is_enough : cleanup (of_forty (codes "a") 1000 ∷ of_forty (codes "b") 1001 ∷ alone (codes "c") 1002 41 Never ∷ []) by_capacity (t ∷ []) 1200 ≡ expired (codes "a") 1000 1 ∷ expired (codes "b") 1001 1 ∷ []
no_prefix_is_enough = refl

-- a moment of its own is no matter of room: the copy goes first, and the mark isn't reached without it
at_moment_first : cleanup (of_forty (codes "a") 1000 ∷ alone (codes "b") 1001 40 (At 1100) ∷ []) by_capacity (t ∷ []) 1101 ≡ expired (codes "b") 1001 1 ∷ []
at_moment_first = refl

-- Two units: copies of `a` are kept on `v` for 5 seconds, and one of `b` as long as there is room.

abbrev v : StorageUnit
v = unit (codes "v") 80 40

abbrev of_two : List Lifecycle
of_two =
    record { name = codes "tl"; versions = version (backup (codes "t") (Capacity 0) ∷ duplication (codes "v") (Fixed 5) ∷ []) ∷ version (backup (codes "v") (Capacity 0) ∷ []) ∷ [] }
    ∷ []

abbrev on_both : List ImageRecord
on_both =
    image (codes "a") 1000 1 40 (Complete ∷ Complete ∷ []) (copy 1 (codes "t") 1000 Rule ∷ copy 2 (codes "v") 1000 Rule ∷ [])
    ∷ image (codes "b") 1000 2 40 (Complete ∷ []) (copy 1 (codes "v") 1000 Rule ∷ [])
    ∷ []

-- 80 on `v` reach its high mark, and the 40 without the copy that goes by its retention don't
first_takes_below : cleanup on_both of_two (t ∷ v ∷ []) 1005 ≡ expired (codes "a") 1000 2 ∷ []
first_takes_below = refl

-- before that copy goes, the mark is reached
mark_of_second : cleanup on_both of_two (t ∷ v ∷ []) 1004 ≡ expired (codes "b") 1000 1 ∷ []
mark_of_second = refl

-- the copies of `t` go before those of `v`
unit_by_unit : cleanup on_both of_two (unit (codes "t") 40 0 ∷ v ∷ []) 1004 ≡ expired (codes "a") 1000 1 ∷ expired (codes "b") 1000 1 ∷ []
unit_by_unit = refl

-- After copy, in a cleanup: the image keeps the version that it was made under, whatever came after it.

abbrev replaced : List Lifecycle
replaced = record { name = codes "tl"; versions = copied ∷ version (backup (codes "t") Infinite ∷ []) ∷ [] } ∷ []

abbrev copied_image : OpState → ImageRecord
copied_image second = image (codes "a") 10 1 16 (Complete ∷ Complete ∷ second ∷ []) (copy 1 (codes "t") 10 Rule ∷ copy 2 (codes "v") 12 Rule ∷ [])

one_waits : cleanup (copied_image Waiting ∷ []) replaced (t ∷ v ∷ []) 20 ≡ []
one_waits = refl

none_waits : cleanup (copied_image Complete ∷ []) replaced (t ∷ v ∷ []) 20 ≡ expired (codes "a") 10 1 ∷ []
none_waits = refl

-- What a list begins with.

three_prefixes : prefixes {X = ℕ} (1 ∷ 2 ∷ []) ≡ [] ∷ (1 ∷ []) ∷ (1 ∷ 2 ∷ []) ∷ []
three_prefixes = refl

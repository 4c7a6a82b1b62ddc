-- The list from digests to slots, which is ordered by the digests' leading bits and then from the greatest slot down.
use Rattle.std.specs.Prelude.{◌≡◌, ◌≢◌, ◌⊎◌, ℕ, ◌+◌, ◌-◌, ◌*◌, ◌/◌, ◌<◌, ◌≤◌, if◌then◌else◌, nat_lt, List, length, Option, Some, None, MatchOption, slice_index}
use Rattle.segment_pool.specs.declared.slot.Slot.{Slot}
use Rattle.segment_pool.specs.Slots.{at_slot}

-- the 18 leading bits of a digest
abbrev pub leading_bits : List ℕ → ℕ
leading_bits digest = (slice_index digest 0 * 256 + slice_index digest 1) * 4 + slice_index digest 2 / 64

-- the leading bits of a held slot's digest
abbrev pub bits_at : Option Slot → Option ℕ
bits_at None = None
bits_at (Some slot) = Some (leading_bits slot.digest)

abbrev pub bits_of : List (Option Slot) → ℕ → Option ℕ
bits_of table slot = bits_at (at_slot table slot)

-- the greatest slot below the bound whose digest has these bits, as one more than its number, and 0 where there is none
pub record LinksTo (table : List (Option Slot)) (bits bound link : ℕ) : Type 0 where
  pub below : link ≤ bound
  pub none_between : (slot : ℕ) → link ≤ slot → slot < bound → bits_of table slot ≢ Some bits
  pub here : link ≢ 0 → bits_of table (link - 1) ≡ Some bits

-- a place among the links: the first 262,144 begin the list of their bits, the others follow a held slot
abbrev pub IsPlaceOf : List (Option Slot) → ℕ → ℕ → Type 0
IsPlaceOf table bits place = ((place < 262144) × (place ≡ bits)) ⊎ ((262144 ≤ place) × (bits_of table (place - 262144) ≡ Some bits))

-- a link leads below this slot
abbrev pub bound_of : ℕ → ℕ
bound_of place = if nat_lt place 262144 then 16777216 else place - 262144

-- the links list each held slot under its digest's leading bits, and no other
pub record IsIndex (table : List (Option Slot)) (links : List ℕ) : Type 0 where
  pub length_is : length links ≡ 262144 + length table
  pub short : length table ≤ 16777216
  pub links_on : (bits place : ℕ) → IsPlaceOf table bits place → LinksTo table bits (bound_of place) (slice_index links place)

-- the greatest slot below the bound whose digest has these bits
abbrev pub IsNextBelow : List (Option Slot) → ℕ → ℕ → Option ℕ → Type 0
IsNextBelow table bits bound next =
    MatchOption next ((slot : ℕ) → slot < bound → bits_of table slot ≢ Some bits)
    (λ s. (s < bound) × (bits_of table s ≡ Some bits) × ((slot : ℕ) → s < slot → slot < bound → bits_of table slot ≢ Some bits))

-- A pool that holds what a ledger says of its unit.
use Rattle.std.specs.Prelude.{◌≡◌, ℕ, ◌==◌, Bool, true, false, if◌then◌else◌, List, [], ◌∷◌, ◌++◌, map, Some, None, Contains}
use Rattle.std.specs.List.{list_any}
use Rattle.segment_pool.specs.Slots.{PoolState, held}
use Rattle.segment_pool.specs.declared.slot.Slot.{Slot}
use Rattle.copy_fragments.specs.Placings.{times}
use Rattle.pool_journal.specs.declared.segments.NewSegment.{NewSegment}
use Rattle.vault_ledger.specs.Ledger.{has_slot}

-- a live slot with the piece of a segment, which kept copies name so often
abbrev pub live_slot : NewSegment → ℕ → Slot
live_slot s count = record { live = true; pins = 0; count = count; length = s.length; digest = s.digest }

-- the pool holds these segments, live, counted and not pinned, and no others; kept copies name no other slots
pub record HoldsLive (known : List NewSegment) (named : List ℕ) (pool : PoolState) : Type 0 where
  pub here : (s : NewSegment) → Contains known s → held pool s.slot ≡ Some (live_slot s (times s.slot named))
  pub others : (slot : ℕ) → has_slot slot known ≡ false → held pool slot ≡ None
  pub only : (slot : ℕ) → has_slot slot known ≡ false → times slot named ≡ 0

-- segments fit, and the pool holds them now; or they don't
abbrev pub IsAdopted : List NewSegment → List ℕ → Bool → PoolState → Bool → Type 0
IsAdopted known named fits pool true = (fits ≡ true) × HoldsLive known named pool
IsAdopted known named fits pool false = fits ≡ false

-- the slots among these that no known segment has, each once, in the order in which they come first
abbrev pub unrecorded : List ℕ → List ℕ → List ℕ
unrecorded seen [] = []
unrecorded seen (slot ∷ slots) = if list_any (λ s. s == slot) seen then unrecorded seen slots else slot ∷ unrecorded (seen ++ slot ∷ []) slots

-- the slots of segments
abbrev pub slots_in : List NewSegment → List ℕ
slots_in segments = map (λ s. s.slot) segments

-- What a pool needs before it follows a ledger's step, and what stays in it.
use Rattle.std.specs.Prelude.{◌≡◌, ◌≢◌, ℕ, ◌+◌, ◌-◌, ◌^◌, ◌<◌, true, ◌&&◌, not, nat_le, nat_lt, Bool, if◌then◌else◌, List, [], ◌∷◌, Some, None}
use Rattle.segment_pool.specs.Slots.{PoolState, count_of, held}
use Rattle.segment_pool.specs.declared.slot.Slot.{Slot}
use Rattle.pool_journal.specs.declared.segments.NewSegment.{NewSegment}
use Rattle.vault_ledger.specs.Ledger.{has_slot, slot_limit}

-- the file, the segment size and the number of slots are as before
pub record IsSamePool (old new : PoolState) : Type 0 where
  pub file : new.file ≡ old.file
  pub size : new.size ≡ old.size
  pub slots : new.slots ≡ old.slots

-- one slot is held so now, and all else is as before
pub record HoldsNow (old new : PoolState) (slot : ℕ) (what : Slot) : Type 0 where
  pub pool : IsSamePool old new
  pub here : held new slot ≡ Some what
  pub elsewhere : (t : ℕ) → t ≢ slot → held new t ≡ held old t

-- each slot's count may be raised so many times
abbrev pub CountsFit : ℕ → PoolState → Type 0
CountsFit more pool = (slot : ℕ) → count_of (held pool slot) + more < 2 ^ 64

-- a new segment has a slot below the limit that isn't live, and a length from 1 to the segment size
abbrev pub is_new : ℕ → List NewSegment → NewSegment → Bool
is_new size known s = nat_lt s.slot slot_limit && nat_le 1 s.length && nat_le s.length size && not (has_slot s.slot known)

-- a slot after a copy that names it was kept: live, counted once more, and pinned once less
abbrev pub kept_slot : Slot → Slot
kept_slot what = record what { live = true; pins = what.pins - 1; count = count_of (Some what) + 1 }

-- the segment that is recorded of a slot, where it isn't live yet
abbrev pub newly_live : ℕ → Slot → List NewSegment
newly_live slot what = if what.live then [] else record { slot = slot; length = what.length; digest = what.digest } ∷ []

-- a segment whose slot was free before, with the length and the digest that the pool has of it
pub record IsPlacedSegment (before pool : PoolState) (s : NewSegment) : Type 0 where
  pub was_free : held before s.slot ≡ None
  pub what : Slot
  pub is_held : held pool s.slot ≡ Some what
  pub length_is : s.length ≡ what.length
  pub digest_is : s.digest ≡ what.digest

-- The slots of a pool, and what its calls change of them.
use Rattle.std.specs.Prelude.{◌≡◌, ◌≢◌, ℕ, ◌+◌, ◌-◌, ◌^◌, ◌<◌, ◌≤◌, true, false, ◌||◌, nat_lt, cond, if◌then◌else◌, nat_le, List, length, Option, Some, None, is_some, IsSome, slice_index_or}
use Rattle.std.specs.List.{count_by}
use Rattle.segment_pool.specs.declared.slot.Slot.{Slot}

-- a pool, as its calls see it
pub record PoolState : Type 0 where
  -- the number of its file
  pub file : ℕ
  -- the greatest length of a piece
  pub size : ℕ
  -- how many pieces it may hold
  pub slots : ℕ
  -- what is known of each held slot, by its number; a slot past the end is free
  pub table : List (Option Slot)

-- what is known of a slot in a table
abbrev pub at_slot : List (Option Slot) → ℕ → Option Slot
at_slot table slot = slice_index_or table slot None

-- what is known of a slot; nothing, where it isn't held
abbrev pub held : PoolState → ℕ → Option Slot
held pool slot = at_slot pool.table slot

-- how many slots are held
abbrev pub number_held : PoolState → ℕ
number_held pool = count_by is_some pool.table

-- for how many new pieces there is room without more memory; where each slot has room, for all
abbrev pub spare : PoolState → ℕ
spare pool = if nat_le pool.slots (length pool.table) then 2 ^ 32 else length pool.table - number_held pool

-- for how many new pieces there is room without more memory, were so many held
abbrev pub room_beside : PoolState → ℕ → ℕ
room_beside pool n = if nat_le pool.slots (length pool.table) then 2 ^ 32 else length pool.table - n

-- the lowest slot that isn't held
pub record IsLowestFree (pool : PoolState) (slot : ℕ) : Type 0 where
  pub free : held pool slot ≡ None
  pub lowest : (t : ℕ) → t < slot → IsSome (held pool t)

-- 1 for a held slot
abbrev pub one_if_held : Option Slot → ℕ
one_if_held what = cond (is_some what) 1 0

-- one slot is so now, and all else is as before
pub record Becomes (old new : PoolState) (slot : ℕ) (what : Option Slot) : Type 0 where
  pub file : new.file ≡ old.file
  pub size : new.size ≡ old.size
  pub slots : new.slots ≡ old.slots
  pub here : held new slot ≡ what
  pub elsewhere : (t : ℕ) → t ≢ slot → held new t ≡ held old t
  pub number : number_held new + one_if_held (held old slot) ≡ number_held old + one_if_held what
  pub room : spare old ≤ spare new + (one_if_held what - one_if_held (held old slot))
  pub beside : (n : ℕ) → room_beside old n ≤ room_beside new n

-- a slot stays held while it is live or pinned
abbrev pub while_held : Slot → Option Slot
while_held slot = if slot.live || nat_lt 0 slot.pins then Some slot else None

-- a live slot has no count before it was made live
abbrev pub made_live : Slot → Slot
made_live slot = if slot.live then slot else record slot { live = true; count = 0 }

-- all is as before, with as much room or more
pub record IsAsBefore (old new : PoolState) : Type 0 where
  pub file : new.file ≡ old.file
  pub size : new.size ≡ old.size
  pub slots : new.slots ≡ old.slots
  pub same : (slot : ℕ) → held new slot ≡ held old slot
  pub number : number_held new ≡ number_held old
  pub room : spare old ≤ spare new
  pub beside : (n : ℕ) → room_beside old n ≤ room_beside new n

-- one more than the greatest held slot, and 0 where none is held
pub record IsEnd (pool : PoolState) (end : ℕ) : Type 0 where
  pub last : end ≢ 0 → IsSome (held pool (end - 1))
  pub none_behind : (slot : ℕ) → end ≤ slot → held pool slot ≡ None

-- a new slot for a piece of this length and digest, pinned once
abbrev pub pinned_piece : ℕ → List ℕ → Slot
pinned_piece length digest = record { live = false; pins = 1; count = 0; length = length; digest = digest }

-- a live slot with a recorded piece
abbrev pub live_piece : ℕ → List ℕ → Slot
live_piece length digest = record { live = true; pins = 0; count = 0; length = length; digest = digest }

-- a held slot with this length and digest
pub record Matches (pool : PoolState) (slot length : ℕ) (digest : List ℕ) : Type 0 where
  pub what : Slot
  pub is_held : held pool slot ≡ Some what
  pub length_is : what.length ≡ length
  pub digest_is : what.digest ≡ digest

-- a slot that had a piece of this length and digest is pinned once more
pub record PinnedAgain (old new : PoolState) (slot length : ℕ) (digest : List ℕ) : Type 0 where
  pub was : Matches old slot length digest
  pub now : Becomes old new slot (Some (record was.what { pins = was.what.pins + 1 }))

-- the lowest free slot is held for a new piece, and fewer than the pool's slots were held
pub record Placed (old new : PoolState) (slot length : ℕ) (digest : List ℕ) : Type 0 where
  pub lowest : IsLowestFree old slot
  pub fits : number_held old < old.slots
  pub now : Becomes old new slot (Some (pinned_piece length digest))

-- no slot is pinned more often than this
abbrev pub IsPinnedAtMost : ℕ → PoolState → Type 0
IsPinnedAtMost most pool = (slot : ℕ) (what : Slot) → held pool slot ≡ Some what → what.pins ≤ most

-- each held slot is live or pinned, and its piece has from 1 to this many bytes
abbrev pub AreSound : ℕ → List (Option Slot) → Type 0
AreSound size table = (slot : ℕ) (what : Slot) → at_slot table slot ≡ Some what → (1 ≤ what.length) × (what.length ≤ size) × (while_held what ≡ Some what)

-- how often kept copies name a slot
abbrev pub count_of : Option Slot → ℕ
count_of None = 0
count_of (Some slot) = if slot.live then slot.count else 0

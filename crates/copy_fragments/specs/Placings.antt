-- The pieces of byte strings that a pool lacks, and what it is after they were placed.
use Rattle.std.specs.Prelude.{◌≡◌, ℕ, ◌+◌, ◌<◌, ◌≤◌, ◌==◌, false, max, if◌then◌else◌, List, [], ◌∷◌, ◌++◌, length, Option, Some, None, slice_get}
use Rattle.std.specs.List.{count_by, list_any}
use Rattle.std.specs.Str.{bytes_eq}
use Rattle.vault_disk.specs.Disk.{Image}
use Rattle.vault_disk.specs.Steps.{Rose}
use Rattle.segment_pool.specs.Pieces.{CutBytes, pieces}
use Rattle.segment_pool.specs.Placing.{IsDamaged, bytes_in}
use Rattle.segment_pool.specs.Slots.{PoolState, held, number_held}
use Rattle.segment_pool.specs.declared.fault.PoolFault.{PoolFault}
use Rattle.segment_pool.specs.declared.fault.PoolFault.TheVariants as fault
use Rattle.segment_pool.specs.declared.slot.Slot.{Slot}
use Rattle.copy_fragments.specs.Copies.{Copy}

-- the pieces of the held slots of a table that begins at this slot
abbrev pub pieces_from : PoolState → Image → ℕ → List (Option Slot) → List (List ℕ)
pieces_from pool image slot [] = []
pieces_from pool image slot (None ∷ table) = pieces_from pool image (slot + 1) table
pieces_from pool image slot (Some what ∷ table) = bytes_in pool image slot what.length ∷ pieces_from pool image (slot + 1) table

-- the pieces that a pool holds, by slot
abbrev pub held_pieces : PoolState → Image → List (List ℕ)
held_pieces pool image = pieces_from pool image 0 pool.table

-- those of some pieces that a set lacks, each once, in the order in which they come first
abbrev pub lacking : List (List ℕ) → List (List ℕ) → List (List ℕ)
lacking set [] = []
lacking set (piece ∷ more) = if list_any (λ p. bytes_eq p piece) set then lacking set more else piece ∷ lacking (set ++ piece ∷ []) more

-- the pieces of these bytes that a pool doesn't hold
abbrev pub new_pieces : PoolState → Image → List ℕ → List (List ℕ)
new_pieces pool image bytes = lacking (held_pieces pool image) (pieces pool.size bytes)

-- how often a slot stands in a list
abbrev pub times : ℕ → List ℕ → ℕ
times slot slots = count_by (λ s. s == slot) slots

-- each slot was pinned as often as it stands in the list, and one that wasn't held is held for a piece now
pub record PinnedEach (old new : PoolState) (slots : List ℕ) : Type 0 where
  pub file : new.file ≡ old.file
  pub size : new.size ≡ old.size
  pub limit : new.slots ≡ old.slots
  pub again : (slot : ℕ) (what : Slot) → held old slot ≡ Some what → held new slot ≡ Some (record what { pins = what.pins + times slot slots })
  pub others : (slot : ℕ) → held old slot ≡ None → times slot slots ≡ 0 → held new slot ≡ None
  pub placed : (slot : ℕ) → held old slot ≡ None → 1 ≤ times slot slots → (what : Slot) × (held new slot ≡ Some what) × (what.live ≡ false) × (what.pins ≡ times slot slots) × (what.count ≡ 0)

-- the slot of each piece is held with the piece's length, and one that wasn't held is below the number of the pool's slots
pub record FitPieces (old new : PoolState) (all : List (List ℕ)) (slots : List ℕ) : Type 0 where
  pub lengths : (index slot : ℕ) (piece : List ℕ) → slice_get slots index ≡ Some slot → slice_get all index ≡ Some piece → (what : Slot) × (held new slot ≡ Some what) × (what.length ≡ length piece)
  pub below : (slot : ℕ) (what : Slot) → held old slot ≡ None → held new slot ≡ Some what → slot < old.slots

-- the copy of these bytes in these slots; its fragments have one piece each
abbrev pub copy_in : List ℕ → CutBytes → Copy
copy_in slots cut = record { slots = slots; size = cut.size; per_fragment = 1; length = length cut.bytes }

-- so many more pieces are held, for which the pool has slots where there is one
pub record HoldsMore (old new : PoolState) (more : List (List ℕ)) : Type 0 where
  pub number : number_held new ≡ number_held old + length more
  pub fits : 1 ≤ length more → number_held new ≤ old.slots

-- when pieces may be refused so, over any vault whose count of faults was and is this
abbrev pub PlacingFails : PoolState → ℕ → ℕ → PoolFault → Type 0
PlacingFails pool before now fault.NoMemory = Unit {0}
PlacingFails pool before now fault.DiskFault = Rose before now
PlacingFails pool before now (fault.Damaged recorded found) = (slot : ℕ) × (what : Slot) × (held pool slot ≡ Some what) × (recorded ≡ what.digest)
PlacingFails pool before now (fault.Full count) = count ≡ max pool.slots (number_held pool) + 1

-- the same over a vault that tells: so many are new that with those held they are more than the pool's slots; or the bytes of a held slot are damaged
abbrev pub PlacingTold : (List ℕ → List ℕ) → PoolState → Image → List ℕ → PoolFault → Type 0
PlacingTold digest_of pool image bytes fault.NoMemory = Unit {0}
PlacingTold digest_of pool image bytes fault.DiskFault = Unit {0}
PlacingTold digest_of pool image bytes (fault.Damaged recorded found) = (slot : ℕ) × IsDamaged digest_of pool image slot recorded found
PlacingTold digest_of pool image bytes (fault.Full count) = (1 ≤ length (new_pieces pool image bytes)) × (pool.slots < number_held pool + length (new_pieces pool image bytes))

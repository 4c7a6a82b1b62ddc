-- What is known while pieces are placed one by one, and once their pins are taken back.
use Rattle.std.specs.Prelude.{◌≡◌, ◌⊎◌, ℕ, ◌+◌, ◌-◌, ◌*◌, ◌≤◌, List, length, take, Some, slice_get}
use Rattle.vault_disk.specs.Disk.{Disk}
use Rattle.segment_pool.specs.Placing.{HasPiece, IsTruePool, KeepsPieces, Touches}
use Rattle.segment_pool.specs.Slots.{PoolState, held, number_held, room_beside, while_held}
use Rattle.segment_pool.specs.declared.fault.PoolFault.{PoolFault}
use Rattle.segment_pool.specs.declared.fault.PoolFault.TheVariants as fault
use Rattle.segment_pool.specs.declared.slot.Slot.{Slot}
use Rattle.copy_fragments.specs.Placings.{PinnedEach, held_pieces, lacking, times}

-- each slot of the list is pinned at least as often as it stands there
abbrev pub ArePinned : PoolState → List ℕ → Type 0
ArePinned pool slots = (slot : ℕ) → 1 ≤ times slot slots → (what : Slot) × (held pool slot ≡ Some what) × (times slot slots ≤ what.pins)

-- each slot has as many pins less as it stands in the list, and is free where it isn't live and has none left
pub record UnpinnedEach (old new : PoolState) (slots : List ℕ) : Type 0 where
  pub file : new.file ≡ old.file
  pub size : new.size ≡ old.size
  pub limit : new.slots ≡ old.slots
  pub less : (slot : ℕ) (what : Slot) → held old slot ≡ Some what → 1 ≤ times slot slots → held new slot ≡ while_held (record what { pins = what.pins - times slot slots })
  pub others : (slot : ℕ) → times slot slots ≡ 0 → held new slot ≡ held old slot
  pub beside : (n : ℕ) → room_beside old n ≤ room_beside new n

-- where bytes are damaged, the digest that is recorded of them is that of one of these pieces
abbrev pub IsDamageOf : (List ℕ → List ℕ) → List (List ℕ) → PoolFault → Type 0
IsDamageOf digest_of all fault.NoMemory = Unit {0}
IsDamageOf digest_of all fault.DiskFault = Unit {0}
IsDamageOf digest_of all (fault.Damaged recorded found) = (index : ℕ) × (piece : List ℕ) × (slice_get all index ≡ Some piece) × (recorded ≡ digest_of piece)
IsDamageOf digest_of all (fault.Full count) = Unit {0}

-- pieces were placed in these slots
pub record PlacedSoFar (start now : PoolState) (slots : List ℕ) : Type 0 where
  pub pinned : PinnedEach start now slots
  pub beside : (n : ℕ) → room_beside start n ≤ room_beside now n
  pub no_fewer : number_held start ≤ number_held now
  pub no_more : number_held now ≤ number_held start + length slots
  pub fits : (number_held now ≡ number_held start) ⊎ (number_held now ≤ start.slots)

-- the first of these pieces are in these slots, and nothing else is touched
pub record HasPieces (digest_of : List ℕ → List ℕ) (start now : PoolState) (old new : Disk) (all : List (List ℕ)) (slots : List ℕ) : Type 0 where
  pub touches : Touches start ((number_held start + length slots) * start.size) old new
  pub keeps : KeepsPieces start (number_held now * start.size) old.seen new.seen
  pub has : (index slot : ℕ) (piece : List ℕ) → slice_get slots index ≡ Some slot → slice_get all index ≡ Some piece → HasPiece digest_of now new.seen slot piece

-- a true pool stays one, and holds more by the pieces that it lacked
pub record StaysTrue (digest_of : List ℕ → List ℕ) (start now : PoolState) (old new : Disk) (all : List (List ℕ)) (slots : List ℕ) : Type 0 where
  pub true_pool : IsTruePool digest_of now new.seen
  pub number : number_held now ≡ number_held start + length (lacking (held_pieces start old.seen) (take (length slots) all))

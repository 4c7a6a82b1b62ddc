-- Copies as lists of a pool's slots, their fragments, and the parts of their bytes.
use Rattle.std.specs.Prelude.{◌≡◌, ℕ, ◌+◌, ◌-◌, ◌*◌, ◌<◌, ◌≤◌, min, max, nat_lt, if◌then◌else◌, List, length, take, drop, Option, Some, None, slice_get}
use Rattle.vault_disk.specs.Disk.{Image}
use Rattle.segment_pool.specs.Pieces.{pieces}
use Rattle.segment_pool.specs.Placing.{HasPiece, IsWhole, bytes_in}
use Rattle.segment_pool.specs.Slots.{PoolState, held}
use Rattle.segment_pool.specs.declared.slot.Slot.{Slot}

-- a copy, as its calls see it
pub record Copy : Type 0 where
  -- the slot of each piece, in their order
  pub slots : List ℕ
  -- the length of each piece but the last
  pub size : ℕ
  -- how many pieces each fragment has but the last
  pub per_fragment : ℕ
  -- how many bytes it has
  pub length : ℕ

-- so many pieces of this size have so many bytes
pub record IsPieceCount (count size length : ℕ) : Type 0 where
  pub enough : length ≤ count * size
  pub none_empty : count * size < length + size

-- the length of the piece at an index
abbrev pub piece_length : Copy → ℕ → ℕ
piece_length copy index = min copy.size (copy.length - index * copy.size)

-- the length of each fragment but the last
abbrev pub span : Copy → ℕ
span copy = copy.size * copy.per_fragment

-- the length of the fragment at an index, and none past the last
abbrev pub fragment_length : Copy → ℕ → Option ℕ
fragment_length copy index = if nat_lt (index * span copy) copy.length then Some (min (span copy) (copy.length - index * span copy)) else None

-- the pool holds each piece of the copy, with its length
abbrev pub HoldsCopy : PoolState → Copy → Type 0
HoldsCopy pool copy = (index slot : ℕ) → slice_get copy.slots index ≡ Some slot → (what : Slot) × (held pool slot ≡ Some what) × (what.length ≡ piece_length copy index)

-- an offset stands so far into the piece of this slot and length
pub record StandsIn (copy : Copy) (at slot from length : ℕ) : Type 0 where
  pub index : ℕ
  pub at_is : at ≡ index * copy.size + from
  pub slot_is : slice_get copy.slots index ≡ Some slot
  pub length_is : length ≡ piece_length copy index
  pub within : from < length
  pub some : 1 ≤ copy.size

-- how many bytes the copy has from an offset on, for which there is room
abbrev pub part_length : Copy → ℕ → ℕ → ℕ
part_length copy at room = min room (copy.length - at)

-- the piece at an index has bytes among the n from an offset on
abbrev pub Meets : Copy → ℕ → ℕ → ℕ → Type 0
Meets copy at n index = max at (index * copy.size) < min (at + n) (index * copy.size + piece_length copy index)

-- each piece of these bytes among the n from an offset on is what the pool's file has at its slot
pub record Spells (pool : PoolState) (image : Image) (copy : Copy) (at n : ℕ) (bytes : List ℕ) : Type 0 where
  pub length_is : length bytes ≡ copy.length
  pub pieces_are : (index slot : ℕ) → Meets copy at n index → slice_get copy.slots index ≡ Some slot → slice_get (pieces copy.size bytes) index ≡ Some (bytes_in pool image slot (piece_length copy index))

-- the part of a copy from an offset on: each of its pieces is whole, and it is that part of the bytes that they spell
pub record IsPart (digest_of : List ℕ → List ℕ) (pool : PoolState) (image : Image) (copy : Copy) (at : ℕ) (part : List ℕ) : Type 0 where
  pub whole : (index slot : ℕ) (what : Slot) → Meets copy at (length part) index → slice_get copy.slots index ≡ Some slot → held pool slot ≡ Some what → IsWhole digest_of what (bytes_in pool image slot what.length)
  pub bytes_are : (bytes : List ℕ) → Spells pool image copy at (length part) bytes → part ≡ take (length part) (drop at bytes)

-- each piece of these bytes is in its slot of the pool, with its length and digest
pub record IsPlaced (digest_of : List ℕ → List ℕ) (pool : PoolState) (image : Image) (copy : Copy) (bytes : List ℕ) : Type 0 where
  pub length_is : length bytes ≡ copy.length
  pub has_pieces : (index slot : ℕ) (piece : List ℕ) → slice_get copy.slots index ≡ Some slot → slice_get (pieces copy.size bytes) index ≡ Some piece → HasPiece digest_of pool image slot piece

-- this holds of the slot of some piece among the n bytes from an offset on
pub record SomePiece (pool : PoolState) (copy : Copy) (at n : ℕ) (P : ℕ → Slot → Type 0) : Type 0 where
  pub index : ℕ
  pub slot : ℕ
  pub what : Slot
  pub meets : Meets copy at n index
  pub slot_is : slice_get copy.slots index ≡ Some slot
  pub is_held : held pool slot ≡ Some what
  pub holds : P slot what

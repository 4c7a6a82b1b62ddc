-- The pieces of a pool in its file, and what a placing changes of the file.
use Rattle.std.specs.Prelude.{◌≡◌, ◌≢◌, ◌⊎◌, ℕ, ◌*◌, ◌<◌, ◌≤◌, max, List, length, take, drop, Some}
use Rattle.vault_disk.specs.Disk.{Image, Disk, During}
use Rattle.vault_disk.specs.Steps.{Changes, Follows, Torn}
use Rattle.segment_pool.specs.declared.fault.ReadTrouble.{ReadTrouble}
use Rattle.segment_pool.specs.declared.fault.ReadTrouble.TheVariants as trouble
use Rattle.segment_pool.specs.declared.slot.Slot.{Slot}
use Rattle.segment_pool.specs.Slots.{PoolState, held}

-- the bytes from a slot's place on, at most so many
abbrev pub bytes_in : PoolState → Image → ℕ → ℕ → List ℕ
bytes_in pool image slot length = take length (drop (slot * pool.size) (image pool.file))

-- bytes of the recorded length and digest
pub record IsWhole (digest_of : List ℕ → List ℕ) (slot : Slot) (bytes : List ℕ) : Type 0 where
  pub length_is : length bytes ≡ slot.length
  pub digest_is : digest_of bytes ≡ slot.digest

-- a slot that has the piece, with its length and digest
pub record HasPiece (digest_of : List ℕ → List ℕ) (pool : PoolState) (image : Image) (slot : ℕ) (piece : List ℕ) : Type 0 where
  pub what : Slot
  pub is_held : held pool slot ≡ Some what
  pub length_is : what.length ≡ length piece
  pub digest_is : what.digest ≡ digest_of piece
  pub bytes_are : bytes_in pool image slot what.length ≡ piece

-- no slot has the piece
abbrev pub LacksPiece : (List ℕ → List ℕ) → PoolState → Image → List ℕ → Type 0
LacksPiece digest_of pool image piece = (slot : ℕ) → ¬ HasPiece digest_of pool image slot piece

-- each held slot's bytes have its length and digest, and no two held slots have equal bytes
pub record IsTruePool (digest_of : List ℕ → List ℕ) (pool : PoolState) (image : Image) : Type 0 where
  pub whole : (slot : ℕ) (what : Slot) → held pool slot ≡ Some what → IsWhole digest_of what (bytes_in pool image slot what.length)
  pub distinct : (s t : ℕ) (x y : Slot) → held pool s ≡ Some x → held pool t ≡ Some y → bytes_in pool image s x.length ≡ bytes_in pool image t y.length → s ≡ t

-- a held slot with fewer bytes than recorded, or with another digest than recorded; these are the two digests
pub record IsDamaged (digest_of : List ℕ → List ℕ) (pool : PoolState) (image : Image) (slot : ℕ) (recorded found : List ℕ) : Type 0 where
  pub what : Slot
  pub is_held : held pool slot ≡ Some what
  pub recorded_is : recorded ≡ what.digest
  pub found_is : found ≡ digest_of (bytes_in pool image slot what.length)
  pub differ : (length (bytes_in pool image slot what.length) < what.length) ⊎ (found ≢ recorded)

-- a slot's bytes are those recorded, and of no held slot
pub record HasOwnBytes (digest_of : List ℕ → List ℕ) (pool : PoolState) (image : Image) (slot : ℕ) (what : Slot) : Type 0 where
  pub whole : IsWhole digest_of what (bytes_in pool image slot what.length)
  pub alone : (t : ℕ) (other : Slot) → held pool t ≡ Some other → bytes_in pool image t other.length ≢ bytes_in pool image slot what.length

-- no other file changes, no whole piece of a held slot changes, and the pool's file grows at most to this end
pub record KeepsPieces (pool : PoolState) (end : ℕ) (old new : Image) : Type 0 where
  pub others : (file : ℕ) → file ≢ pool.file → new file ≡ old file
  pub pieces : (slot : ℕ) (what : Slot) → held pool slot ≡ Some what → length (bytes_in pool old slot what.length) ≡ what.length → bytes_in pool new slot what.length ≡ bytes_in pool old slot what.length
  pub no_shorter : length (old pool.file) ≤ length (new pool.file)
  pub no_longer : length (new pool.file) ≤ max (length (old pool.file)) end

-- a call that touches no whole piece of a held slot: each image that a stop may leave, in the call too, is one from before but for that
pub record Touches (pool : PoolState) (end : ℕ) (old new : Disk) : Type 0 where
  pub left : (c : Image) → new.may_leave c → (d : Image) × old.may_leave d × KeepsPieces pool end d c
  pub during : During old new (λ c sent. ((d : Image) × old.may_leave d × KeepsPieces pool end d c) × (sent ≡ old.sent))

-- why bytes aren't taken for a piece of this length and digest: they are fewer, or have another digest
abbrev pub DiffersFrom : (List ℕ → List ℕ) → List ℕ → ℕ → List ℕ → ReadTrouble → Type 0
DiffersFrom digest_of bytes n recorded trouble.DiskFault = ⊥
DiffersFrom digest_of bytes n recorded (trouble.Damaged told found) = (told ≡ recorded) × (found ≡ digest_of bytes) × ((length bytes < n) ⊎ (found ≢ recorded))

-- a write of n bytes that a stop may cut short: each image that a stop may leave, in the call too, is one from before but for that
pub record TornIn (file at n : ℕ) (old new : Disk) : Type 0 where
  pub left : Follows (Changes file (Torn at n)) old.may_leave new.may_leave
  pub during : During old new (λ c sent. ((d : Image) × old.may_leave d × Changes file (Torn at n) d c) × (sent ≡ old.sent))

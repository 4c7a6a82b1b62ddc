-- How troubles and faults are told.
use Rattle.std.specs.Prelude.{◌≡◌, ℕ, ◌+◌, ◌<◌, ◌≤◌, List}
use Rattle.vault_disk.specs.Disk.{Image}
use Rattle.vault_disk.specs.Steps.{Rose}
use Rattle.segment_pool.specs.declared.fault.PoolFault.{PoolFault}
use Rattle.segment_pool.specs.declared.fault.PoolFault.TheVariants as fault
use Rattle.segment_pool.specs.declared.fault.ReadTrouble.{ReadTrouble}
use Rattle.segment_pool.specs.declared.fault.ReadTrouble.TheVariants as trouble
use Rattle.segment_pool.specs.Slots.{PoolState, number_held, spare}
use Rattle.segment_pool.specs.Placing.{IsDamaged, LacksPiece}

-- a trouble of a read, as a fault of the pool
abbrev pub fault_of_trouble : ReadTrouble → PoolFault
fault_of_trouble trouble.DiskFault = fault.DiskFault
fault_of_trouble (trouble.Damaged recorded found) = fault.Damaged recorded found

-- when a read of a slot may fail so, over a vault that tells
abbrev pub TroubleHolds : (List ℕ → List ℕ) → PoolState → Image → ℕ → ReadTrouble → Type 0
TroubleHolds digest_of pool image slot trouble.DiskFault = Unit {0}
TroubleHolds digest_of pool image slot (trouble.Damaged recorded found) = IsDamaged digest_of pool image slot recorded found

-- the same of some slot
abbrev pub TroubleSomewhere : (List ℕ → List ℕ) → PoolState → Image → ReadTrouble → Type 0
TroubleSomewhere digest_of pool image t = (slot : ℕ) × TroubleHolds digest_of pool image slot t

-- when a read of a slot with this digest may fail so, over any vault: by the disk only where the count of faults rose, by damage
-- with this digest as the recorded one
abbrev pub TroubleOf : List ℕ → ℕ → ℕ → ReadTrouble → Type 0
TroubleOf digest before now trouble.DiskFault = Rose before now
TroubleOf digest before now (trouble.Damaged recorded found) = recorded ≡ digest

-- when a placing may fail so, over any vault
abbrev pub FaultHolds : PoolState → List ℕ → ℕ → ℕ → PoolFault → Type 0
FaultHolds pool digest before now fault.NoMemory = (spare pool ≡ 0) × (number_held pool < pool.slots)
FaultHolds pool digest before now fault.DiskFault = Rose before now
FaultHolds pool digest before now (fault.Damaged recorded found) = recorded ≡ digest
FaultHolds pool digest before now (fault.Full count) = (pool.slots ≤ number_held pool) × (count ≡ number_held pool + 1)

-- the same over a vault that tells
abbrev pub FaultTold : (List ℕ → List ℕ) → PoolState → Image → List ℕ → PoolFault → Type 0
FaultTold digest_of pool image piece fault.NoMemory = LacksPiece digest_of pool image piece
FaultTold digest_of pool image piece fault.DiskFault = Unit {0}
FaultTold digest_of pool image piece (fault.Damaged recorded found) = (slot : ℕ) × IsDamaged digest_of pool image slot recorded found
FaultTold digest_of pool image piece (fault.Full count) = LacksPiece digest_of pool image piece

abbrev pub IsDiskFault : PoolFault → Type 0
IsDiskFault fault.NoMemory = ⊥
IsDiskFault fault.DiskFault = Unit {0}
IsDiskFault (fault.Damaged recorded found) = ⊥
IsDiskFault (fault.Full count) = ⊥

abbrev pub IsDamage : PoolFault → Type 0
IsDamage fault.NoMemory = ⊥
IsDamage fault.DiskFault = ⊥
IsDamage (fault.Damaged recorded found) = Unit {0}
IsDamage (fault.Full count) = ⊥

-- What is said of a read of a whole copy.
use Rattle.std.specs.Prelude.{◌≡◌, ℕ, ◌<◌, List, Some, slice_get}
use Rattle.vault_disk.specs.Disk.{Image}
use Rattle.segment_pool.specs.Faults.{TroubleHolds}
use Rattle.segment_pool.specs.Placing.{IsWhole, bytes_in}
use Rattle.segment_pool.specs.Slots.{PoolState, held}
use Rattle.segment_pool.specs.declared.fault.ReadTrouble.{ReadTrouble}
use Rattle.segment_pool.specs.declared.fault.ReadTrouble.TheVariants as trouble
use Rattle.segment_pool.specs.declared.slot.Slot.{Slot}
use Rattle.copy_fragments.specs.Copies.{Copy}
use Rattle.copy_fragments.specs.declared.whole_copy.CopyFault.{CopyFault}
use Rattle.copy_fragments.specs.declared.whole_copy.CopyFault.TheVariants as fault

-- a trouble of a read, as the fault of a copy
abbrev pub fault_of_trouble : ReadTrouble → CopyFault
fault_of_trouble trouble.DiskFault = fault.DiskFault
fault_of_trouble (trouble.Damaged recorded found) = fault.Damaged recorded found

-- this holds of the trouble that a fault is, where it isn't want of memory
abbrev pub OfTrouble : (ReadTrouble → Type 0) → CopyFault → Type 0
OfTrouble P fault.NoMemory = Unit {0}
OfTrouble P fault.DiskFault = P trouble.DiskFault
OfTrouble P (fault.Damaged recorded found) = P (trouble.Damaged recorded found)

-- each piece of the copy has its recorded length and digest
abbrev pub IsWholeCopy : (List ℕ → List ℕ) → PoolState → Image → Copy → Type 0
IsWholeCopy digest_of pool image copy = (index slot : ℕ) (what : Slot) → slice_get copy.slots index ≡ Some slot → held pool slot ≡ Some what → IsWhole digest_of what (bytes_in pool image slot what.length)

-- the same of those before an index
abbrev pub AreWholeBefore : (List ℕ → List ℕ) → PoolState → Image → Copy → ℕ → Type 0
AreWholeBefore digest_of pool image copy end = (index slot : ℕ) (what : Slot) → index < end → slice_get copy.slots index ≡ Some slot → held pool slot ≡ Some what → IsWhole digest_of what (bytes_in pool image slot what.length)

-- a read of this piece may fail so, and those before it are whole
pub record FirstTrouble (digest_of : List ℕ → List ℕ) (pool : PoolState) (image : Image) (copy : Copy) (t : ReadTrouble) : Type 0 where
  pub index : ℕ
  pub slot : ℕ
  pub slot_is : slice_get copy.slots index ≡ Some slot
  pub before : AreWholeBefore digest_of pool image copy index
  pub holds : TroubleHolds digest_of pool image slot t

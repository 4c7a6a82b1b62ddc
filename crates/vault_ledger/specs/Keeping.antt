-- A disk with a vault whose ledger is known.
use Rattle.std.specs.Prelude.{◌≡◌, ◌⊎◌, ℕ, true, List, Some, Ok}
use Rattle.vault_disk.specs.Disk.{Disk, Image as DiskImage, During}
use Rattle.pool_journal.specs.Records.{Found}
use Rattle.pool_journal.specs.Stops.{AtRest}
use Rattle.desk_model.specs.State.{State}
use Rattle.vault_ledger.specs.Ledger.{Ledger, all_recorded, are_true, pieces_on, stands}

-- each image that a stop may leave has the bytes of the ledger's live slots that a read gives
pub record KeepsLive (disk : Disk) (l : Ledger) : Type 0 where
  pub each : (c : DiskImage) → disk.may_leave c → (unit : List ℕ) → pieces_on c l unit ≡ pieces_on disk.seen l unit

-- the journal is at rest, and its records make this ledger
pub record SaysLedger (disk : Disk) (end : ℕ) (l : Ledger) : Type 0 where
  pub records : List Found
  pub rest : AtRest disk end records
  pub says : all_recorded records ≡ Ok l

-- the journal is at rest, its records make this ledger, the pools are true, and a stop takes nothing of them away
pub record KeptLedger (disk : Disk) (end : ℕ) (l : Ledger) : Type 0 where
  pub records : List Found
  pub rest : AtRest disk end records
  pub says : all_recorded records ≡ Ok l
  pub is_true : are_true disk.seen l l.outline.stored ≡ true
  pub keeps : KeepsLive disk l

-- an image of a disk stands for one of two states
abbrev pub StandsFor : State → State → DiskImage → Type 0
StandsFor s t c = (stands c ≡ Some s) ⊎ (stands c ≡ Some t)

-- from one disk to the next each stop leaves an image of one of two states, and nothing is sent
pub record Between (s t : State) (old new : Disk) : Type 0 where
  pub left : (c : DiskImage) → new.may_leave c → StandsFor s t c
  pub during : During old new (λ c b. StandsFor s t c × (b ≡ old.sent))

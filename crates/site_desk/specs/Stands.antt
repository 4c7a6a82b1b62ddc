-- What a disk stands for, and what a desk leaves of it.
use Rattle.std.specs.Prelude.{◌≡◌, ◌⊎◌, ℕ, Some, Result, Ok, Err}
use Rattle.vault_disk.specs.Disk.{Disk, During, Image as DiskImage}
use Rattle.pool_journal.specs.Stops.{OpensTo}
use Rattle.desk_model.specs.State.{State, initial, durable}
use Rattle.vault_ledger.specs.Ledger.{Ledger, journal_reads, stands, state_over}

-- the state of a ledger with the bytes that the pools have, or the offset at which the journal is no vault's
abbrev pub state_by : DiskImage → Result Ledger ℕ → Result State ℕ
state_by c (Ok l) = Ok (state_over c l)
state_by c (Err at) = Err at

-- what an image of a disk reads as, whether or not its pools are true
abbrev pub opened : DiskImage → Result State ℕ
opened c = state_by c (journal_reads c)

-- that state; where there is none, that of a new vault
abbrev pub state_in : Result State ℕ → State
state_in (Ok s) = s
state_in (Err at) = initial

-- each image that a stop may leave now stands for this state
pub record Standing (disk : Disk) (state : State) : Type 0 where
  pub each : (c : DiskImage) → disk.may_leave c → stands c ≡ Some (durable state)

abbrev pub StandsFor : State → State → DiskImage → Type 0
StandsFor s t c = (stands c ≡ Some (durable s)) ⊎ (stands c ≡ Some (durable t))

-- from one disk to the next each stop leaves one of two states, and nothing is sent
pub record Between (s t : State) (old new : Disk) : Type 0 where
  pub left : (c : DiskImage) → new.may_leave c → StandsFor s t c
  pub during : During old new (λ c b. StandsFor s t c × (b ≡ old.sent))

-- an opening of a vault that stands for a state leaves what could be left before, until the first syncs of the journal and of the pools have succeeded, and from then on what stands for the same
abbrev pub Opens : Disk → Disk → Type 0
Opens old new = (s : State) → stands old.seen ≡ Some s → OpensTo (λ c. stands c ≡ Some s) old new

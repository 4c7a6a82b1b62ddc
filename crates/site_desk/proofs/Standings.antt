-- What a known ledger says of the state of a desk, and of what a stop leaves.
use Rattle.std.proofs.Common.{◌≡◌, ◌∙◌, ◌⊎◌, inl, inr, ℕ, Some, Result, sym, ap}
use Rattle.vault_disk.specs.Disk.{Disk, Image as DiskImage}
use Rattle.vault_disk.proofs.Moments.{weaker}
use Rattle.pool_journal.specs.Stops.{Leaves, OpensTo}
use Rattle.desk_model.specs.State.{State, durable}
use Rattle.desk_model.specs.Sound.{Sound, KeepsCopies}
use Rattle.vault_ledger.specs.Keeping.{KeptLedger, SaysLedger, Between as LeavesEither, StandsFor as StandsAs}
use Rattle.vault_ledger.specs.Ledger.{Ledger, stands, state_over}
use Rattle.vault_ledger.proofs.KeptLedgers.{kept_stands}
use Rattle.vault_ledger.proofs.KnownLedgers.{kept_says, says_reads, standing_kept}
use Rattle.vault_ledger.proofs.SoundLedgers.{vault_sound}
use Rattle.site_desk.specs.Desk.{desk_state}
use Rattle.site_desk.specs.Stands.{Between, Opens, Standing, StandsFor, state_by, state_in}

-- The state of a desk.

-- it is that of the ledger that the journal says
pub state_is : (disk : Disk) (end : ℕ) (l : Ledger) → SaysLedger disk end l → desk_state disk ≡ state_over disk.seen l
state_is disk end l says = ap (λ (r : Result Ledger ℕ). state_in (state_by disk.seen r)) (says_reads disk end l says)

pub kept_state : (disk : Disk) (end : ℕ) (l : Ledger) → KeptLedger disk end l → desk_state disk ≡ state_over disk.seen l
kept_state disk end l kept = state_is disk end l (kept_says disk end l kept)

-- What is durable.

-- what an image of a disk stands for is sound, and each copy that is kept in it restores the bytes of its image
pub disk_sound : (c : DiskImage) (s : State) → stands c ≡ Some s → Sound s × KeepsCopies s
disk_sound c s is = vault_sound c s is

-- what has no jobs outlives a stop as it is
durable_same : (s : State) → Sound s → durable s ≡ s
durable_same s sound =
    let jobs = sym sound.no_jobs in
    let next = sym sound.next_job in
    λ i. record s { jobs = jobs i; next_job = next i }

-- so what an image of a disk stands for is durable
pub stands_durable : (c : DiskImage) (s : State) → stands c ≡ Some s → stands c ≡ Some (durable s)
stands_durable c s is = is ∙ ap (λ (t : State). Some t) (sym (durable_same s (disk_sound c s is).0))

durable_each : (s t : State) (c : DiskImage) → StandsAs s t c → StandsFor s t c
durable_each s t c (inl before) = inl (stands_durable c s before)
durable_each s t c (inr after) = inr (stands_durable c t after)

pub durable_between : (s t : State) (old new : Disk) → LeavesEither s t old new → Between s t old new
durable_between s t old new either = record {
  left = λ c left. durable_each s t c (either.left c left);
  during = weaker old new (λ c b. StandsAs s t c × (b ≡ old.sent)) (λ c b. StandsFor s t c × (b ≡ old.sent)) (λ c b left. (durable_each s t c left.0, left.1)) either.during;
}

-- What each stop leaves.

-- over a vault in which the ledger is kept each stop leaves the desk's state
pub kept_standing : (disk : Disk) (end : ℕ) (l : Ledger) → KeptLedger disk end l → Standing disk (state_over disk.seen l)
kept_standing disk end l kept = record { each = λ c left. stands_durable c (state_over disk.seen l) (kept_stands disk end l kept c left) }

-- and only there
pub standing_known : (disk : Disk) (end : ℕ) (l : Ledger) → disk.may_leave disk.seen → SaysLedger disk end l → Standing disk (desk_state disk) → KeptLedger disk end l
standing_known disk end l now says standing = (standing_kept disk end l (durable (desk_state disk)) now says standing.each).0

opens_by : (old new : Disk) (s : State) → OpensTo (λ c. stands c ≡ Some s) old new → Leaves (λ c. old.may_leave c ⊎ (stands c ≡ Some s)) old new
opens_by old new s (inl unsynced) = record {
  left = λ c left. inl (unsynced.left c left);
  during = weaker old new (λ c b. old.may_leave c × (b ≡ old.sent)) (λ c b. (old.may_leave c ⊎ (stands c ≡ Some s)) × (b ≡ old.sent)) (λ c b left. (inl left.0, left.1)) unsynced.during;
}
opens_by old new s (inr synced) = synced.leaves

-- at each moment an opening leaves what could be left before, or what stands for the same
pub opens_so : (old new : Disk) (s : State) → stands old.seen ≡ Some s → Opens old new → Leaves (λ c. old.may_leave c ⊎ (stands c ≡ Some s)) old new
opens_so old new s is opens = opens_by old new s (opens s is)

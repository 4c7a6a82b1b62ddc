-- What an opening finds in a vault, and what a stop in it leaves.
use Rattle.desk_model.proofs.Common.{◌≡◌, ◌∙◌, ◌≤◌, ⊎_elim, ℕ, Bool, true, List, [], length, refl, sym, ap, subst, arith, Option, Some, None, Ok, Err, if◌then◌else◌}
use Rattle.std.proofs.Common.{◌⊎◌, ◌<◌, inl, inr}
use Rattle.std.specs.Prelude.{nat_le}
use Rattle.std.proofs.lemmas.Bool.{cases_lt}
use Rattle.std.proofs.lemmas.Bool.Decides.{nat_tests}
use Rattle.vault_disk.specs.Disk.{Disk, Image as DiskImage, During, IsSame, Now}
use Rattle.vault_disk.specs.Steps.{LookedAround}
use Rattle.vault_disk.proofs.Moments.{goes_on, weaker}
use Rattle.pool_journal.specs.declared.fault.JournalFault.{JournalFault}
use Rattle.pool_journal.specs.declared.fault.JournalFault.TheVariants as journal
use Rattle.pool_journal.specs.declared.records.Placed.{Placed}
use Rattle.pool_journal.specs.Records.{Found, Reading, found, broken, foreign, placed, reading}
use Rattle.pool_journal.specs.Stops.{IsForeign, IsOpened, Leaves, OpenStops, SameReading}
use Rattle.desk_model.specs.State.{State}
use Rattle.vault_ledger.specs.Keeping.{KeepsLive, KeptLedger, SaysLedger}
use Rattle.vault_ledger.specs.Ledger.{Ledger, are_true, journal_reads, ledger_of, new_ledger, stands, state_over, unless_before}
use Rattle.vault_ledger.proofs.KeptLedgers.{kept_stands, stands_for}
use Rattle.vault_ledger.proofs.KnownLedgers.{says_rests, stands_over}
use Rattle.desk_index.specs.Index.{IsIndexOf}
use Rattle.desk_index.specs.Replays.{IsReplayed}
use Rattle.desk_index.specs.declared.index.Index.{Index}
use Rattle.desk_steps.specs.Openings.{IsFaultOf, IsFound, Opens}

-- entries were replayed to this, whichever records they are of
abbrev pub Replays : List Placed → Index → Option ℕ → Type 0
Replays entries index bad = (fs : List Found) → placed fs ≡ entries → IsReplayed fs index bad

-- What isn't a vault's.

unfit : (r : Reading) (d : Disk) (end at : ℕ) (entries : List Placed) (bad : Option ℕ) (index : Index) → IsOpened r d end entries bad → Replays entries index (Some at) → ledger_of r ≡ Err at
unfit (found fs) d end at entries None index is replayed = replayed fs (sym is.0)
unfit (found fs) d end at entries (Some b) index is replayed = absurd is
unfit (broken fs b) d end at entries bad index is replayed = ap (unless_before b) (replayed fs (sym is.0))
unfit (foreign b) d end at entries bad index is replayed = absurd is

-- a record doesn't fit
pub unfit_opening : (c : DiskImage) (d : Disk) (end at : ℕ) (entries : List Placed) (bad : Option ℕ) (index : Index) → IsOpened (reading (c 0)) d end entries bad → Replays entries index (Some at) → journal_reads c ≡ Err at
unfit_opening c d end at entries bad index is replayed = unfit (reading (c 0)) d end at entries bad index is replayed

broken_at : (r : Reading) (d : Disk) (end at : ℕ) (entries : List Placed) (index : Index) → IsOpened r d end entries (Some at) → Replays entries index None → ledger_of r ≡ Err at
broken_at (found fs) d end at entries index is replayed = absurd is
broken_at (broken fs b) d end at entries index is replayed =
    let same : b ≡ at = cc (is.1) in
    ap (unless_before b) (replayed fs (sym is.0)).1 ∙ ap (λ (k : ℕ). Err k) same
broken_at (foreign b) d end at entries index is replayed = absurd is

-- its records fit up to one that is broken
pub broken_opening : (c : DiskImage) (d : Disk) (end at : ℕ) (entries : List Placed) (index : Index) → IsOpened (reading (c 0)) d end entries (Some at) → Replays entries index None → journal_reads c ≡ Err at
broken_opening c d end at entries index is replayed = broken_at (reading (c 0)) d end at entries index is replayed

-- its header is wrong
pub foreign_opening : (c : DiskImage) (fault : JournalFault) → IsForeign (reading (c 0)) fault → IsFaultOf (journal_reads c) fault
foreign_opening c journal.NoMemory is = tt
foreign_opening c journal.DiskFault is = tt
foreign_opening c (journal.NotAVault offset) is = ap ledger_of is

-- A new vault.

new_reading : (bytes : List ℕ) → length bytes ≤ 17 → reading bytes ≡ found []
new_reading bytes short =
    let is : nat_le (length bytes) 17 ≡ true = grind (arith, nat_tests, short) in
    at (nat_le (length bytes) 17) _ is
  where
    at : (b : Bool) (r : Reading) → b ≡ true → (if b then found [] else r) ≡ found []
    at b r is = λ i. if is i then found [] else r

-- what reads as a new vault stands for the state of one, whatever its pools have
new_stands : (c d : DiskImage) (s : State) → length (d 0) ≤ 17 → reading (c 0) ≡ reading (d 0) → stands d ≡ Some s → stands c ≡ Some s
new_stands c d s short same is =
    let new : reading (d 0) ≡ found [] = new_reading (d 0) short in
    let over : state_over d new_ledger ≡ s = (stands_over d new_ledger s (ap ledger_of new) is).1 in
    stands_for c new_ledger (ap ledger_of (same ∙ new)) refl ∙ ap (λ (t : State). Some t) over

-- What was read.

pub record Read (r : Reading) (disk : Disk) (end : ℕ) (index : Index) : Type 0 where
  pub ledger : Ledger
  pub reads : ledger_of r ≡ Ok ledger
  pub is : IsIndexOf ledger index
  pub says : SaysLedger disk end ledger
  pub same : reading (disk.seen 0) ≡ r

read_so : (r : Reading) (d : Disk) (end : ℕ) (entries : List Placed) (index : Index) → IsOpened r d end entries None → Replays entries index None → Read r d end index
read_so (found fs) d end entries index is replayed =
    let made = replayed fs (sym is.0) in
    record { ledger = made.0; reads = made.1; is = made.2; says = record { records = fs; rest = is.1; says = made.1 }; same = is.1.reads }
read_so (broken fs b) d end entries index is replayed = absurd (cc (is.1))
read_so (foreign b) d end entries index is replayed = absurd is

pub read_opening : (c : DiskImage) (d : Disk) (end : ℕ) (entries : List Placed) (index : Index) → IsOpened (reading (c 0)) d end entries None → Replays entries index None → Read (reading (c 0)) d end index
read_opening c d end entries index is replayed = read_so (reading (c 0)) d end entries index is replayed

-- A vault that was opened: the journal was read, and the pools were synced.

module _ (old mid new : Disk) (end : ℕ) (index : Index) (read : Read (reading (old.seen 0)) mid end index) (first : 17 < length (old.seen 0) → LookedAround old mid) (looked : LookedAround mid new) (keeps : KeepsLive new read.ledger) where
  abbrev l : Ledger
  l = read.ledger

  says : SaysLedger new end l
  says = says_rests mid new end l looked.rests read.says

  -- the pools' files have for the ledger what they had
  abbrev Alike : Ledger → Type 0
  Alike m = (are_true new.seen m m.outline.stored ≡ are_true old.seen m m.outline.stored) × (state_over new.seen m ≡ state_over old.seen m)

  alike : Alike l
  alike = ⊎_elim
      (λ long.
      let before = first long in
      let seen : new.seen ≡ old.seen = λ i f. (looked.rests.seen f ∙ before.rests.seen f) i in
      (ap (λ (c : DiskImage). are_true c l l.outline.stored) seen, ap (λ (c : DiskImage). state_over c l) seen))
      (λ short.
      let new_is : Ok l ≡ Ok new_ledger = sym read.reads ∙ ap ledger_of (new_reading (old.seen 0) short) in
      let is : l ≡ new_ledger = cc new_is in
      subst Alike (sym is) (refl, refl))
      (cases_lt 17 (length (old.seen 0)))

  kept : (s : State) → stands old.seen ≡ Some s → KeptLedger new end l × (state_over new.seen l ≡ s)
  kept s is =
      let over = stands_over old.seen l s read.reads is in
      (record { records = says.records; rest = says.rest; says = says.says; is_true = alike.0 ∙ over.0; keeps = keeps }, alike.1 ∙ over.1)

  pub is_found : IsFound old new end index
  is_found = record { ledger = l; reads = read.reads; is = read.is; says = says; over = alike.1; kept = kept }

  -- so a stop leaves the state that it stood for
  pub found_stands : (s : State) → stands old.seen ≡ Some s → (c : DiskImage) → new.may_leave c → stands c ≡ Some s
  found_stands s is c left = let now = kept s is in kept_stands new end l now.0 c left ∙ ap (λ (t : State). Some t) now.1

-- What a stop leaves.

module _ (old mid : Disk) (same : IsSame old mid) (stops : OpenStops old mid) (first : 17 < length (old.seen 0) → LookedAround old mid) (s : State) (is : stands old.seen ≡ Some s) where
  abbrev Then : DiskImage → Type 0
  Then c = stands c ≡ Some s

  abbrev Either : DiskImage → List ℕ → Type 0
  Either c b = (old.may_leave c ⊎ Then c) × (b ≡ old.sent)

  new_then : length (old.seen 0) ≤ 17 → (c : DiskImage) → reading (c 0) ≡ reading (old.seen 0) → Then c
  new_then short c reads = new_stands c old.seen s short reads is

  new_leaves : length (old.seen 0) ≤ 17 → Leaves (λ c. old.may_leave c ⊎ Then c) old mid
  new_leaves short = ⊎_elim
      (λ unsynced. record { left = λ c left. inl (unsynced.left c left); during = weaker old mid (λ c b. old.may_leave c × (b ≡ old.sent)) Either (λ c b left. (inl left.0, left.1)) unsynced.during })
      (λ synced. record {
        left = λ c left. either c (synced.leaves.left c left);
        during = weaker old mid (λ c b. (old.may_leave c ⊎ SameReading old c) × (b ≡ old.sent)) Either (λ c b left. (either c left.0, left.1)) synced.leaves.during;
      })
      stops
    where
      either : (c : DiskImage) → old.may_leave c ⊎ SameReading old c → old.may_leave c ⊎ Then c
      either c = ⊎_elim (λ was. inl was) (λ from. inr (new_then short c from.inside))

  -- at each moment a stop left what it could leave before, or what stands for the state
  leaves : Leaves (λ c. old.may_leave c ⊎ Then c) old mid
  leaves = ⊎_elim
      (λ long. let looked = first long in record {
        left = λ c left. inl (looked.rests.left c left);
        during = weaker old mid (Now old) Either (λ c b left. (inl left.0, left.1)) looked.during;
      })
      new_leaves
      (cases_lt 17 (length (old.seen 0)))

  -- it was refused behind the reading of the journal
  pub stops_refused : Opens s old mid
  stops_refused = ⊎_elim
      (λ long. let looked = first long in inl (record { left = looked.rests.left; during = looked.during }))
      (λ short. ⊎_elim
      (λ unsynced. inl unsynced)
      (λ synced. inr (record { leaves = new_leaves short; since = synced.since; within = synced.within; from_then = λ c b left. let still = synced.from_then c b left in (new_then short c still.0.inside, still.1) }))
      stops)
      (cases_lt 17 (length (old.seen 0)))

  module _ (new : Disk) (looked : LookedAround mid new) (same_new : IsSame mid new) (only_now : (c : DiskImage) (b : List ℕ) → new.left_since new.moment c b → new.may_leave c × (b ≡ new.sent)) where
    during : During old new Either
    during = goes_on old mid new Either leaves.during (weaker mid new (Now mid) Either (λ c b left. (leaves.left c left.0, left.1 ∙ same.sent)) looked.during)

    -- from now on it leaves the state
    pub stops_opened : ((c : DiskImage) → new.may_leave c → Then c) → Opens s old new
    stops_opened now = inr (record {
      leaves = record { left = λ c left. inr (now c left); during = during };
      since = new.moment;
      within = omega arith;
      from_then = λ c b left. let still = only_now c b left in (now c still.0, still.1 ∙ same_new.sent ∙ same.sent);
    })

    -- the pools weren't all synced
    pub stops_unsynced : (end : ℕ) (index : Index) → Read (reading (old.seen 0)) mid end index → Opens s old new
    stops_unsynced end index read = ⊎_elim
        (λ long. let before = first long in inl (record {
          left = λ c left. before.rests.left c (looked.rests.left c left);
          during = goes_on old mid new (Now old) before.during (weaker mid new (Now mid) (Now old) (λ c b left. (before.rests.left c left.0, left.1 ∙ same.sent)) looked.during);
        }))
        (λ short. stops_opened (λ c left. new_then short c (ap reading (read.says.rest.durable.only c (looked.rests.left c left)) ∙ read.same)))
        (cases_lt 17 (length (old.seen 0)))

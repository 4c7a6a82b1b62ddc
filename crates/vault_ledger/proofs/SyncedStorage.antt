-- Pools whose files are synced one after another.
use Rattle.desk_model.proofs.Common.{◌≡◌, ◌≤◌, ◌<◌, ◌+◌, ◌∙◌, ⊎_elim, ℕ, zero, Bool, true, false, List, [], ◌∷◌, length, get_or, map, refl, sym, ap, subst, arith, Option, Some, unwrap_or, slice_get, StorageUnit, has, unit_name, unit_limit, disk0, Contains}
use Rattle.std.proofs.lemmas.Bool.{cases_eq}
use Rattle.std.proofs.lemmas.Option.{slice_get_read, slice_get_within}
use Rattle.vault_disk.specs.Disk.{Disk, Image as DiskImage}
use Rattle.vault_disk.specs.Steps.{IsDurable, Rests}
use Rattle.pool_journal.specs.declared.segments.NewSegment.{NewSegment}
use Rattle.segment_pool.specs.Slots.{PoolState, held}
use Rattle.segment_pool.specs.declared.slot.Slot.{Slot}
use Rattle.desk_model.proofs.NamedLemmas.{found_named, some_named}
use Rattle.vault_ledger.specs.Keeping.{KeepsLive}
use Rattle.vault_ledger.specs.Ledger.{Ledger, live_on, piece_in, pieces_on, pool_file, segment_of}
use Rattle.vault_ledger.specs.Storage.{Follows, StorageState}
use Rattle.vault_ledger.proofs.LedgerUnits.{none_live}

-- the files of the first pools that hold something are durable
pub record AreSynced (pools : List PoolState) (n : ℕ) (disk : Disk) : Type 0 where
  pub each : (k slot : ℕ) (pool : PoolState) (what : Slot) → k < n → slice_get pools k ≡ Some pool → held pool slot ≡ Some what → IsDurable (2 + k) disk

pub none_synced : (pools : List PoolState) (disk : Disk) → AreSynced pools 0 disk
none_synced pools disk = record { each = λ k slot pool what lt there is. absurd (omega (arith, lt)) }

-- what is durable stays so while nothing is written
pub still_durable : (file : ℕ) (old new : Disk) → Rests old new → IsDurable file old → IsDurable file new
still_durable file old new rests durable = record { only = λ c left. durable.only c (rests.left c left) ∙ sym (rests.seen file) }

-- one pool more
pub more_synced : (pools : List PoolState) (n : ℕ) (pool : PoolState) (old new : Disk) → slice_get pools n ≡ Some pool → Rests old new → ((slot : ℕ) (what : Slot) → held pool slot ≡ Some what → IsDurable (2 + n) new) → AreSynced pools n old → AreSynced pools (n + 1) new
more_synced pools n pool old new there rests durable synced = record {
  each = λ k slot own what lt own_there is. ⊎_elim
      (λ same.
      let equal : own ≡ pool = let e = sym own_there ∙ ap (λ (j : ℕ). slice_get pools j) same ∙ there in cc e in
      subst (λ (j : ℕ). IsDurable (2 + j) new) (sym same) (durable slot what (ap (λ (p : PoolState). held p slot) (sym equal) ∙ is)))
      (λ differs. still_durable (2 + k) old new rests (synced.each k slot own what (omega (arith, lt, differs)) own_there is))
      (cases_eq k n);
}

module _ (l : Ledger) (storage : StorageState) (follows : Follows l storage) where
  abbrev units : List StorageUnit
  units = l.outline.site.book.units

  -- there are few pools
  pub few_pools : length storage.pools ≤ unit_limit
  few_pools = omega (arith, follows.pools.count, follows.order.shape.sound.site.ordered.few)

  module _ (disk : Disk) (n : ℕ) (all : length storage.pools ≤ n) (synced : AreSynced storage.pools n disk) where
    -- the file of a unit with a live slot is durable
    unit_durable : (unit : List ℕ) → has unit_name unit units ≡ true → (s : NewSegment) (known : List NewSegment) → live_on unit l.live ≡ s ∷ known → IsDurable (pool_file unit l.outline) disk
    unit_durable unit there s known live =
        let one = some_named unit_name unit units there in
        let found = found_named unit_name unit units one.0 one.1 in
        let own = follows.pools.have.each one.0 found.1 in
        let first = own.2.holds.here s (subst (λ (name : List ℕ). Contains (live_on name l.live) s) (sym found.0) (subst (λ (known : List NewSegment). Contains known s) (sym live) (zero, omega arith, refl))) in
        let durable = synced.each one.0.number s.slot own.0 _ (let within = slice_get_within storage.pools one.0.number own.0 own.1 in omega (arith, all, within)) own.1 first in
        subst (λ (u : StorageUnit). IsDurable (2 + u.number) disk) (sym (ap (λ (o : Option StorageUnit). unwrap_or o disk0) one.1)) durable

    -- so a stop takes no piece of a live slot away
    pub synced_keeps : KeepsLive disk l
    synced_keeps = record { each = λ c left unit. at c left unit (has unit_name unit units) refl }
      where
        some : (c : DiskImage) → disk.may_leave c → (unit : List ℕ) → has unit_name unit units ≡ true → (known : List NewSegment) → live_on unit l.live ≡ known → map (piece_in (c (pool_file unit l.outline)) (segment_of unit l.outline)) known ≡ map (piece_in (disk.seen (pool_file unit l.outline)) (segment_of unit l.outline)) known
        some c left unit there [] live = refl
        some c left unit there (s ∷ known) live =
            ap (λ (bytes : List ℕ). map (piece_in bytes (segment_of unit l.outline)) (s ∷ known)) ((unit_durable unit there s known live).only c left)

        at : (c : DiskImage) → disk.may_leave c → (unit : List ℕ) (b : Bool) → has unit_name unit units ≡ b → pieces_on c l unit ≡ pieces_on disk.seen l unit
        at c left unit true there = some c left unit there (live_on unit l.live) refl
        at c left unit false absent =
            let none = none_live l follows.order unit absent in
            ap (map (piece_in (c (pool_file unit l.outline)) (segment_of unit l.outline))) none ∙ sym (ap (map (piece_in (disk.seen (pool_file unit l.outline)) (segment_of unit l.outline))) none)

-- the pool that is read at a place
pub pool_at : (items pools : List PoolState) (n : ℕ) (pool : PoolState) → items ≡ pools → n < length items → pool ≡ get_or items n pool → slice_get pools n ≡ Some pool
pool_at items pools n pool same within is = ap (λ (l : List PoolState). slice_get l n) (sym same) ∙ slice_get_read items (length items) n pool refl within is

-- there are fewer than so many before it
pub number_fits : (items : List PoolState) (storage : StorageState) (n : ℕ) → items ≡ storage.pools → n < length items → (l : Ledger) × Follows l storage → n < unit_limit
number_fits items storage n same within known = omega (arith, within, ap length same, few_pools known.0 storage known.1)

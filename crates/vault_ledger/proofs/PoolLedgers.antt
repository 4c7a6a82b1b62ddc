-- The pool of a ledger's unit is true where the ledger's pools are; and where it is true after a backup, the pools of the ledger with that backup are.
use Rattle.desk_model.proofs.Common.{◌≡◌, ℕ, Bool, true, false, List, ◌++◌, map, ◌&&◌, sym, refl, ap, subst, and_parts, bytes_eq, has, text_is, unit_name}
use Rattle.sha2.specs.Sha256.{sha256}
use Rattle.vault_disk.specs.Disk.{Image as DiskImage}
use Rattle.pool_journal.specs.declared.entry.WholeImage.{WholeImage}
use Rattle.pool_journal.specs.declared.segments.NewSegment.{NewSegment}
use Rattle.pool_journal.specs.declared.segments.Segments.{Segments}
use Rattle.segment_pool.specs.Placing.{IsTruePool}
use Rattle.segment_pool.specs.Slots.{PoolState}
use Rattle.vault_ledger.specs.Fitting.{whole_unit}
use Rattle.vault_ledger.specs.Ledger.{Ledger, are_distinct, are_true, are_whole, backup_fits, is_true_unit, live_on, piece_in, pieces_on, pool_file, segment_of, with_backup}
use Rattle.vault_ledger.specs.Pools.{HoldsLive}
use Rattle.vault_ledger.specs.Wellformed.{AreSlots, IsLedger}
use Rattle.vault_ledger.proofs.KeptBackups.{backup_kept}
use Rattle.vault_ledger.proofs.SealedStates.{live_grown, live_same}
use Rattle.vault_ledger.proofs.TruePools.{HasSlotsOf, pool_distinct, pool_whole, true_as, true_pool}
use Rattle.vault_ledger.proofs.TrueUnits.{true_pools, true_unit}

-- the pool of a unit of the book is true where the ledger's pools are
pub ledger_pool : (c : DiskImage) (l : Ledger) → IsLedger l → are_true c l l.outline.stored ≡ true → (unit : List ℕ) → has unit_name unit l.outline.site.book.units ≡ true → (pool : PoolState) → pool.file ≡ pool_file unit l.outline → pool.size ≡ segment_of unit l.outline → (named : List ℕ) → HoldsLive (live_on unit l.live) named pool → IsTruePool sha256 pool c
ledger_pool c l kept all unit there pool file_is size_is named holds =
    let parts = and_parts (are_whole (c (pool_file unit l.outline)) (segment_of unit l.outline) (live_on unit l.live)) (are_distinct (pieces_on c l unit)) (true_unit c l kept all unit there) in
    true_pool (live_on unit l.live) (kept.slots unit) named pool holds c (c (pool_file unit l.outline)) (ap c file_is) (segment_of unit l.outline) size_is parts.0 parts.1

module _ (c : DiskImage) (l : Ledger) (kept : IsLedger l) (w : WholeImage) (segments : Segments) (fits : backup_fits l w segments ≡ true) where
  abbrev unit : List ℕ
  unit = whole_unit l.outline w

  abbrev new : Ledger
  new = with_backup w segments l

  abbrev all : List NewSegment
  all = live_on unit l.live ++ segments.added

  -- a unit's truth is that of its live slots
  abbrev IsTrueOf : List ℕ → List NewSegment → Type 0
  IsTrueOf other known = (are_whole (c (pool_file other l.outline)) (segment_of other l.outline) known && are_distinct (map (piece_in (c (pool_file other l.outline)) (segment_of other l.outline)) known)) ≡ true

  in_order : IsLedger new
  in_order = backup_kept l kept w segments fits

  other_unit : (other : List ℕ) → bytes_eq unit other ≡ false → IsTrueOf other (live_on other l.live) → is_true_unit c new other ≡ true
  other_unit other differs is_true = subst (IsTrueOf other) (sym (live_same unit other l.live segments.added differs)) is_true

  -- the pool before its pieces were live is true, and so are the pools of the ledger before; then those of the ledger with the backup are
  pub backup_pools : are_true c l l.outline.stored ≡ true → (placed pool : PoolState) → HasSlotsOf placed pool → IsTruePool sha256 placed c → pool.file ≡ pool_file unit l.outline → pool.size ≡ segment_of unit l.outline → (named : List ℕ) → HoldsLive all named pool → are_true c new new.outline.stored ≡ true
  backup_pools was placed pool has_slots true_placed file_is size_is named holds = true_pools c new in_order (λ other there. at other there (bytes_eq unit other) refl)
    where
      apart : AreSlots all
      apart = subst AreSlots (live_grown unit l.live segments.added) (in_order.slots unit)

      is_true : IsTruePool sha256 pool c
      is_true = true_as placed pool c has_slots true_placed

      file : List ℕ
      file = c (pool_file unit l.outline)

      whole : are_whole file (segment_of unit l.outline) all ≡ true
      whole = pool_whole all apart named pool holds c file (ap c file_is) (segment_of unit l.outline) size_is is_true

      distinct : are_distinct (map (piece_in file (segment_of unit l.outline)) all) ≡ true
      distinct = pool_distinct all apart named pool holds c file (ap c file_is) (segment_of unit l.outline) size_is is_true

      own_unit : is_true_unit c new unit ≡ true
      own_unit = subst (IsTrueOf unit) (sym (live_grown unit l.live segments.added)) (λ i. whole i && distinct i)

      at : (other : List ℕ) → has unit_name other new.outline.site.book.units ≡ true → (b : Bool) → bytes_eq unit other ≡ b → is_true_unit c new other ≡ true
      at other there true same = subst (λ (name : List ℕ). is_true_unit c new name ≡ true) (text_is unit other same) own_unit
      at other there false differs = other_unit other differs (true_unit c l kept was other there)

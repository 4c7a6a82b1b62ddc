-- A backup that goes to a unit finds the unit's pool; and where its segments fit the pool, what is known follows the ledger with it.
use Rattle.desk_model.proofs.Common.{◌≡◌, ◌≤◌, ◌<◌, ◌+◌, ◌-◌, ◌∙◌, ℕ, zero, suc, min, Bool, true, false, List, [], ◌∷◌, ◌++◌, length, get_or, sym, ap, subst, arith, Option, Some, None, unwrap_or, if◌then◌else◌, ◌&&◌, nat_lt, slice_get, Contains, and_parts, nat_tests, length-map, StorageUnit, named, has, unit_name, disk0, Image, image_limit, operations_in}
use Rattle.std.specs.Prelude.{◌^◌, slice_set}
use Rattle.std.proofs.lemmas.Option.{get_or_from_slice_get, slice_get-get_or}
use Rattle.site_types.specs.declared.image.ImageRecord.{ImageRecord}
use Rattle.segment_pool.specs.Slots.{IsPinnedAtMost, PoolState}
use Rattle.segment_pool.specs.declared.slot.Slot.{Slot}
use Rattle.copy_fragments.specs.Copies.{IsPieceCount}
use Rattle.pool_journal.specs.declared.entry.WholeImage.{WholeImage}
use Rattle.pool_journal.specs.declared.segments.NewSegment.{NewSegment}
use Rattle.pool_journal.specs.declared.segments.Segments.{Segments}
use Rattle.desk_model.proofs.NamedLemmas.{found_named, some_named}
use Rattle.desk_model.proofs.RuleLemmas.{are_sealed, rules_hold}
use Rattle.vault_ledger.specs.Copies.{Sets}
use Rattle.vault_ledger.specs.Fitting.{whole_unit}
use Rattle.vault_ledger.specs.Following.{CountsFit, IsSamePool}
use Rattle.vault_ledger.specs.Ledger.{Ledger, backup_fits, has_piece, live_on, named_on, pieces_fit, segment_of, segments_fit, with_backup}
use Rattle.vault_ledger.specs.Pools.{HoldsLive, IsAdopted}
use Rattle.vault_ledger.specs.Storage.{Follows, IsTaken, IsUnitFor, IsUnitPool, StorageState}
use Rattle.vault_ledger.proofs.FittedPools.{number_below}
use Rattle.vault_ledger.proofs.FittingImages.{fits_by}
use Rattle.vault_ledger.proofs.FollowedBackups.{backup_followed}
use Rattle.vault_ledger.proofs.LiveSlots.{counts_fit, held_segment}
use Rattle.vault_ledger.proofs.RecordedBackups.{backup_recorded}

-- Pieces of so many bytes.

-- one piece more
count_more : (k size n : ℕ) → 1 ≤ size → 1 ≤ n → IsPieceCount k size (n - size) → IsPieceCount (suc k) size n
count_more zero size n some any rest = record { enough = omega (arith, rest.enough); none_empty = omega (arith, any) }
count_more (suc j) size n some any rest = record { enough = omega (arith, rest.enough); none_empty = omega (arith, some, rest.none_empty) }

-- slots of pieces are as many as the bytes have pieces
pub count_is : (size : ℕ) (known : List NewSegment) (n : ℕ) (slots : List ℕ) → 1 ≤ size → pieces_fit size known n slots ≡ true → IsPieceCount (length slots) size n
count_is size known n [] some fits =
    let none : n ≡ 0 = grind (arith, nat_tests, fits) in
    record { enough = omega (arith, none); none_empty = omega (arith, none, some) }
count_is size known n (slot ∷ slots) some fits =
    let last = and_parts (nat_lt 0 n && has_piece slot (min size n) known) (pieces_fit size known (n - size) slots) fits in
    let first = and_parts (nat_lt 0 n) (has_piece slot (min size n) known) last.0 in
    let any_so = first.0 in
    count_more (length slots) size n some (grind (arith, nat_tests, any_so)) (count_is size known (n - size) slots some last.1)

-- Segments that a pool adopted.

pub adopted_holds : (known : List NewSegment) (named : List ℕ) (fits done : Bool) (pool : PoolState) → done ≡ true → IsAdopted known named fits pool done → (fits ≡ true) × HoldsLive known named pool
adopted_holds known named fits done pool is = subst (IsAdopted known named fits pool) is

-- A pool that holds what a ledger says of its unit.

-- it has no pins
pub unpinned : (known : List NewSegment) (slots : List ℕ) (pool : PoolState) → HoldsLive known slots pool → IsPinnedAtMost 0 pool
unpinned known slots pool h slot what is =
    let one = held_segment known slots pool h slot what is in
    let none : what.pins ≡ 0 = ap (λ (s : Slot). s.pins) one.3 in
    omega (arith, none)

module _ (l : Ledger) (storage : StorageState) (follows : Follows l storage) where
  few_images : length l.outline.images ≤ image_limit
  few_images =
      let shape = follows.order.shape in
      let same = sym (length-map shape.images (λ (i : Image). i.entry)) ∙ ap (λ (es : List ImageRecord). length es) shape.listed ∙ length-map l.outline.images (λ (i : Image). i.entry) in
      omega (arith, same, shape.sound.few_images)

  -- beside the slots that are named there is room for as many more as a vector may have
  pub named_room : (unit : List ℕ) (more : ℕ) → more < 2 ^ 63 → length (named_on unit l.placements) + more < 2 ^ 64
  named_room unit more short = omega (arith, follows.few unit, few_images, short)

  -- and so have the counts of a pool
  pub counted_fit : (unit : List ℕ) (known : List NewSegment) (pool : PoolState) (more : ℕ) → more < 2 ^ 63 → HoldsLive known (named_on unit l.placements) pool → CountsFit more pool
  counted_fit unit known pool more short holds = counts_fit known (named_on unit l.placements) pool holds more (named_room unit more short)

  -- The unit of a backup.

  module _ (w : WholeImage) (unit : StorageUnit) (ready : IsUnitFor l w unit) where
    abbrev name : List ℕ
    name = whole_unit l.outline w

    abbrev units : List StorageUnit
    units = l.outline.site.book.units

    pub unit_there : has unit_name name units ≡ true
    unit_there =
        let book = l.outline.site.book in
        let version = (fits_by l.outline w ready.fits).version in
        (are_sealed units (operations_in w.lifecycle w.version book) (rules_hold book follows.order.shape.sound.site.lifecycles w.lifecycle w.version version)).there

    unit_found : (unit.name ≡ name) × Contains units unit
    unit_found =
        let one = some_named unit_name name units unit_there in
        let same : unit ≡ one.0 = ready.unit_is ∙ ap (λ (o : Option StorageUnit). unwrap_or o disk0) one.1 in
        subst (λ (u : StorageUnit). (u.name ≡ name) × Contains units u) (sym same) (found_named unit_name name units one.0 one.1)

    pub unit_named : unit.name ≡ name
    unit_named = unit_found.0

    -- it is in the book
    pub unit_in_book : Contains units unit
    unit_in_book = unit_found.1

    pub some_segment : 1 ≤ unit.segment
    some_segment = let sized = (follows.order.shape.sound.site.units unit unit_in_book).segment.0 in omega (arith, sized)

    pub some_fragment : 1 ≤ unit.fragment
    some_fragment = let sized = (follows.order.shape.sound.site.units unit unit_in_book).fragment.0 in omega (arith, sized)

    -- and has its pool
    pub pool_there : unit.number < length storage.pools
    pool_there = omega (arith, number_below l follows.order unit unit_in_book, follows.pools.count)

    module _ (pool : PoolState) (pool_is : pool ≡ get_or storage.pools unit.number pool) where
      pub pool_found : slice_get storage.pools unit.number ≡ Some pool
      pool_found = slice_get-get_or storage.pools unit.number pool pool_there ∙ ap (λ (p : PoolState). Some p) (sym pool_is)

      pub unit_pool : IsUnitPool l unit pool
      unit_pool =
          let had = follows.pools.have.each unit unit_in_book in
          let same : had.0 ≡ pool = sym (get_or_from_slice_get storage.pools unit.number had.0 pool had.1) ∙ sym pool_is in
          subst (IsUnitPool l unit) same had.2

      pub pool_slots : pool.slots ≡ unit.slots
      pool_slots = follows.pools.slots unit pool unit_in_book pool_found

      pub pool_size : pool.size ≡ segment_of name l.outline
      pool_size = unit_pool.size ∙ ap (λ (u : StorageUnit). u.segment) ready.unit_is

      pub pool_holds : HoldsLive (live_on name l.live) (named_on name l.placements) pool
      pool_holds = subst (λ (n : List ℕ). HoldsLive (live_on n l.live) (named_on n l.placements) pool) unit_named unit_pool.holds

      -- The record of the backup.

      module _ (segments given : Segments) (are : given ≡ segments) (done : Bool) (new : PoolState) where
        abbrev known : List NewSegment
        known = live_on name l.live

        abbrev slots : List ℕ
        slots = named_on name l.placements

        abbrev fits : Bool
        fits = segments_fit pool.size known w.length given

        -- the pool took the segments over, if they fit
        abbrev IsDone : Type 0
        IsDone = IsAdopted (known ++ given.added) (slots ++ given.pieces) fits new done

        fits_is : backup_fits l w given ≡ fits
        fits_is = λ i. ready.fits i && segments_fit (sym pool_size i) known w.length given

        pub untaken : (storage' : StorageState) → done ≡ false → IsDone → IsTaken l w segments storage' false
        untaken storage' failed adopted =
            let unfit : fits ≡ false = subst (IsAdopted (known ++ given.added) (slots ++ given.pieces) fits new) failed adopted in
            subst (λ (s : Segments). IsTaken l w s storage' false) are (ap (λ (b : Bool). if b then Some (with_backup w given l) else None) (fits_is ∙ unfit))

        -- the slots of its pieces are those of a copy
        pub copy_counted : done ≡ true → IsDone → IsPieceCount (length given.pieces) unit.segment w.length
        copy_counted passed adopted =
            let fit = (adopted_holds (known ++ given.added) (slots ++ given.pieces) fits done new passed adopted).0 in
            subst (λ (size : ℕ). IsPieceCount (length given.pieces) size w.length) unit_pool.size
            (count_is pool.size (known ++ given.added) w.length given.pieces (omega (arith, unit_pool.size, some_segment)) (and_parts _ _ fit).1)

        pub taken : (storage' : StorageState) → done ≡ true → IsDone → IsSamePool pool new → storage'.pools ≡ slice_set storage.pools unit.number new
            → Sets w.id (Some (record { slots = given.pieces; size = unit.segment; per_fragment = unit.fragment; length = w.length })) storage.copies storage'.copies → IsTaken l w segments storage' true
        taken storage' passed adopted same pools sets =
            let holds = adopted_holds (known ++ given.added) (slots ++ given.pieces) fits done new passed adopted in
            let is_recorded = backup_recorded l w given (fits_is ∙ holds.0) in
            let number = ap (λ (u : StorageUnit). u.number) ready.unit_is in
            subst (λ (s : Segments). IsTaken l w s storage' true) are (
              is_recorded,
              backup_followed l w given storage storage' pool new follows is_recorded (ap (λ (n : ℕ). slice_get storage.pools n) (sym number) ∙ pool_found) (pools ∙ ap (λ (n : ℕ). slice_set storage.pools n new) number) same holds.1
                  (subst (λ (u : StorageUnit). Sets w.id (Some (record { slots = given.pieces; size = u.segment; per_fragment = u.fragment; length = w.length })) storage.copies storage'.copies) ready.unit_is sets),
            )

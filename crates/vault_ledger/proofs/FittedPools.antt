-- Pools that are given as many slots as their units' settings say, one unit after another.
use Rattle.desk_model.proofs.Common.{◌≡◌, ◌≢◌, ◌≤◌, ◌<◌, ◌+◌, ◌∙◌, ⊎_elim, ℕ, List, length, get_or, take, sym, ap, subst, arith, Option, Some, option_map, slice_get, Contains, Book, Stored, StorageUnit, unit_name, disk0, unwrap_or, named, text_is, get_or_default, length-set, IsNumberOf, slots_key}
use Rattle.std.specs.Prelude.{slice_set}
use Rattle.std.proofs.lemmas.Bool.{cases_eq}
use Rattle.std.proofs.lemmas.List.{get_or-set_other, get_or-set_same, get_or-take, length-take-le}
use Rattle.std.proofs.lemmas.Option.{get_or_from_slice_get, slice_get-get_or, slice_get_within}
use Rattle.site_types.proofs.OptionLemmas.{mapped}
use Rattle.segment_pool.specs.Slots.{PoolState}
use Rattle.desk_model.proofs.NamedLemmas.{has-contained, named-contained}
use Rattle.vault_ledger.specs.Ledger.{Ledger}
use Rattle.vault_ledger.specs.Storage.{ArePools, HavePools, IsUnitPool}
use Rattle.vault_ledger.specs.Wellformed.{IsLedger}
use Rattle.vault_ledger.proofs.LedgerUnits.{number_own}

-- a ledger in order of this book has its pools among these
pub record IsOf (book : Book) (pools : List PoolState) (l : Ledger) : Type 0 where
  pub order : IsLedger l
  pub same : l.outline.site.book ≡ book
  pub have : HavePools l pools

-- the pool of a unit has as many slots as its setting says
abbrev pub HasSlots : List PoolState → StorageUnit → Type 0
HasSlots pools u = option_map (λ (p : PoolState). p.slots) (slice_get pools u.number) ≡ Some u.slots

-- the pools are those of units, and the first ones have their slots
pub record AreFitting (book : Book) (old : List PoolState) (n : ℕ) (pools : List PoolState) : Type 0 where
  pub count : length pools ≡ length book.units
  pub have : (l : Ledger) → IsOf book old l → HavePools l pools
  pub set : (k : ℕ) → k < n → HasSlots pools (get_or book.units k disk0)

-- the same element at a place of another list
pub same_at : {A : Type 0} (xs ys : List A) (k : ℕ) (x : A) → slice_get xs k ≡ Some x → k < length ys → get_or ys k x ≡ get_or xs k x → slice_get ys k ≡ Some x
same_at {A} xs ys k x is within same = slice_get-get_or ys k x within ∙ ap (λ (y : A). Some y) (same ∙ get_or_from_slice_get xs k x x is)

-- and at the place of a change
set_here : {A : Type 0} (xs : List A) (k : ℕ) (x : A) → k < length xs → slice_get (slice_set xs k x) k ≡ Some x
set_here {A} xs k x within = slice_get-get_or (slice_set xs k x) k x (omega (arith, length-set xs k x, within)) ∙ ap (λ (y : A). Some y) (get_or-set_same xs k x x within)

module _ (l : Ledger) (order : IsLedger l) where
  abbrev units : List StorageUnit
  units = l.outline.site.book.units

  -- there are as many units as there are numbers
  pub number_below : (u : StorageUnit) → Contains units u → u.number < length units
  number_below u among =
      let sound = order.shape.sound in
      let set = mapped (λ (set : Stored). set.unit) (slice_get order.shape.stored u.number) u.name (sound.own_sets u among) in
      omega (arith, sound.no_others, slice_get_within order.shape.stored u.number set.0 set.1)

  -- and two with one number are one
  same_unit : (u v : StorageUnit) → Contains units u → Contains units v → u.number ≡ v.number → u ≡ v
  same_unit u v u_among v_among same =
      let by_name = order.shape.sound.site.ordered.units in
      let u_named = named-contained unit_name units u by_name u_among in
      let v_named = named-contained unit_name units v by_name v_among in
      let number : (o : Option StorageUnit) → ℕ = λ o. (unwrap_or o disk0).number in
      let both = number_own l order u.name v.name (has-contained unit_name units u by_name u_among) (has-contained unit_name units v by_name v_among) (ap number u_named ∙ same ∙ sym (ap number v_named)) in
      let name = text_is u.name v.name both in
      let some : Some u ≡ Some v = sym u_named ∙ ap (λ (n : List ℕ). named unit_name n units) name ∙ v_named in
      cc some

-- A change of the slots of one pool.

-- it stays that of its unit
with_slots : (l : Ledger) (u : StorageUnit) (pool : PoolState) (slots : ℕ) → IsUnitPool l u pool → IsUnitPool l u (record pool { slots = slots })
with_slots l u pool slots of = record { file = of.file; size = of.size; holds = record { here = of.holds.here; others = of.holds.others; only = of.holds.only } }

-- and each unit has its pool still
still_have : (l : Ledger) (pools : List PoolState) (n slots : ℕ) (pool : PoolState) → n < length pools → pool ≡ get_or pools n pool → HavePools l pools → HavePools l (slice_set pools n (record pool { slots = slots }))
still_have l pools n slots pool within is have = record {
  long = omega (arith, have.long, long);
  each = λ u among. ⊎_elim (at u (have.each u among)) (other u (have.each u among)) (cases_eq u.number n);
}
  where
    new : PoolState
    new = record pool { slots = slots }

    long : length (slice_set pools n new) ≡ length pools
    long = length-set pools n new

    at : (u : StorageUnit) → (p : PoolState) × (slice_get pools u.number ≡ Some p) × IsUnitPool l u p → u.number ≡ n → (p : PoolState) × (slice_get (slice_set pools n new) u.number ≡ Some p) × IsUnitPool l u p
    at u p same =
        let p_is : p.0 ≡ pool = sym (get_or_from_slice_get pools u.number p.0 pool p.1) ∙ ap (λ (k : ℕ). get_or pools k pool) same ∙ sym is in
        (new, ap (λ (k : ℕ). slice_get (slice_set pools n new) k) same ∙ set_here pools n new within, with_slots l u pool slots (subst (IsUnitPool l u) p_is p.2))

    other : (u : StorageUnit) → (p : PoolState) × (slice_get pools u.number ≡ Some p) × IsUnitPool l u p → u.number ≢ n → (p : PoolState) × (slice_get (slice_set pools n new) u.number ≡ Some p) × IsUnitPool l u p
    other u p differs = (p.0, same_at pools (slice_set pools n new) u.number p.0 p.1 (omega (arith, long, slice_get_within pools u.number p.0 p.1)) (get_or-set_other pools n u.number new p.0 differs), p.2)

-- those behind the last number are of no unit
front_have : (l : Ledger) (pools : List PoolState) (n : ℕ) → n ≡ length l.outline.site.book.units → IsLedger l → HavePools l pools → HavePools l (take n pools)
front_have l pools n n_is order have = record {
  long = omega (arith, n_is, long);
  each = λ u among.
      let p = have.each u among in
      let below = number_below l order u among in
      (p.0, same_at pools (take n pools) u.number p.0 p.1 (omega (arith, n_is, long, below)) (get_or-take n pools u.number p.0 (omega (arith, n_is, below))), p.2);
}
  where
    long : length (take n pools) ≡ n
    long = length-take-le n pools (omega (arith, n_is, have.long))

-- One unit after another.

module _ (book : Book) (old : List PoolState) (known : (l : Ledger) × IsLedger l × (l.outline.site.book ≡ book) × HavePools l old) where
  abbrev of : IsOf book old known.0
  of = record { order = known.1; same = known.2; have = known.3 }

  pub below : (u : StorageUnit) → Contains book.units u → u.number < length book.units
  below u = subst (λ (b : Book). Contains b.units u → u.number < length b.units) of.same (number_below known.0 of.order u)

  alone : (u v : StorageUnit) → Contains book.units u → Contains book.units v → u.number ≡ v.number → u ≡ v
  alone u v = subst (λ (b : Book). Contains b.units u → Contains b.units v → u.number ≡ v.number → u ≡ v) of.same (same_unit known.0 of.order u v)

  pub slots_sized : (u : StorageUnit) → Contains book.units u → IsNumberOf slots_key u.slots
  slots_sized u = subst (λ (b : Book). Contains b.units u → IsNumberOf slots_key u.slots) of.same (λ among. (of.order.shape.sound.site.units u among).slots)

  pub fitting_none : (pools : List PoolState) → pools ≡ take (length book.units) old → AreFitting book old 0 pools
  fitting_none pools is = record {
    count = ap length is ∙ length-take-le (length book.units) old (subst (λ (b : Book). length b.units ≤ length old) of.same of.have.long);
    have = λ m in_it. subst (HavePools m) (sym is) (front_have m old (length book.units) (ap (λ (b : Book). length b.units) (sym in_it.same)) in_it.order in_it.have);
    set = λ k lt. absurd (omega (arith, lt));
  }

  module _ (pools : List PoolState) (n : ℕ) (u : StorageUnit) (pool : PoolState) (within : n < length book.units) (u_is : u ≡ get_or book.units n u) (pool_is : pool ≡ get_or pools u.number pool) (so_far : AreFitting book old n pools) where
    abbrev new : PoolState
    new = record pool { slots = u.slots }

    there : u.number < length pools
    there = omega (arith, so_far.count, below u (n, within, sym u_is))

    here : HasSlots (slice_set pools u.number new) u
    here = ap (λ (o : Option PoolState). option_map (λ (p : PoolState). p.slots) o) (set_here pools u.number new there)

    elsewhere : (v : StorageUnit) → v.number ≢ u.number → HasSlots pools v → HasSlots (slice_set pools u.number new) v
    elsewhere v differs has =
        let p = mapped (λ (p : PoolState). p.slots) (slice_get pools v.number) v.slots has in
        ap (λ (o : Option PoolState). option_map (λ (q : PoolState). q.slots) o)
        (same_at pools (slice_set pools u.number new) v.number p.0 p.1 (omega (arith, length-set pools u.number new, slice_get_within pools v.number p.0 p.1)) (get_or-set_other pools u.number v.number new p.0 differs))
        ∙ ap (λ (k : ℕ). Some k) p.2

    pub fitting_next : AreFitting book old (n + 1) (slice_set pools u.number new)
    fitting_next = record {
      count = length-set pools u.number new ∙ so_far.count;
      have = λ m in_it. still_have m pools u.number u.slots pool there pool_is (so_far.have m in_it);
      set = λ k lt.
          let v = get_or book.units k disk0 in
          let inside : k < length book.units = omega (arith, lt, within) in
          ⊎_elim
          (λ same. subst (HasSlots (slice_set pools u.number new)) (alone u v (n, within, sym u_is) (k, inside, get_or_default book.units k v disk0 inside) (sym same)) here)
          (λ differs. elsewhere v differs (so_far.set k (before k lt differs)))
          (cases_eq v.number u.number);
    }
      where
        before : (k : ℕ) → k < n + 1 → (get_or book.units k disk0).number ≢ u.number → k < n
        before k lt differs = ⊎_elim (λ is. absurd (differs (ap (λ (v : StorageUnit). v.number) (ap (λ (j : ℕ). get_or book.units j disk0) is ∙ get_or_default book.units n disk0 u within ∙ sym u_is)))) (λ other. omega (arith, lt, other)) (cases_eq k n)

  pub fitted : (n : ℕ) (pools : List PoolState) → length book.units ≤ n → AreFitting book old n pools → ArePools known.0 pools
  fitted n pools all fitting = record {
    have = fitting.have known.0 of;
    slots = λ u pool among is.
        let there = subst (λ (b : Book). Contains b.units u) of.same among in
        let has = subst (HasSlots pools) (get_or_default book.units there.0 disk0 u there.1 ∙ there.2) (fitting.set there.0 (omega (arith, there.1, all))) in
        cc (is, has);
    count = fitting.count ∙ ap (λ (b : Book). length b.units) (sym of.same);
  }

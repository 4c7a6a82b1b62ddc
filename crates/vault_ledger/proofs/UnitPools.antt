-- How the pools follow a change of the site.
use Rattle.desk_model.proofs.Common.{◌≡◌, ◌≤◌, ◌+◌, ◌∙◌, ℕ, false, List, [], ◌∷◌, ◌++◌, length, refl, sym, ap, subst, arith, Option, Some, None, unwrap_or, slice_get, Request, State, Book, IsNumberOf, segment_key, slots_key, StorageUnit, unit_name, disk0, unit_of, unit_with, has, text_is, bytes_eq, false≢true, length_push, setting_refusals, set_by}
use Rattle.std.specs.Prelude.{filter, flat_map}
use Rattle.std.proofs.Math.Seq.{get_or-append_seam}
use Rattle.std.proofs.lemmas.List.{get_or_append_left}
use Rattle.std.proofs.lemmas.Option.{slice_get-get_or, slice_get_within}
use Rattle.site_types.specs.Keys.{Key}
use Rattle.site_types.specs.Lines.{IsFormed}
use Rattle.site_types.specs.declared.request.Request.TheVariants as request
use Rattle.segment_pool.specs.Slots.{PoolState, at_slot}
use Rattle.segment_pool.specs.declared.slot.Slot.{Slot}
use Rattle.pool_journal.specs.declared.segments.NewSegment.{NewSegment}
use Rattle.policy_book.specs.declared.units.UnitChange.{UnitChange}
use Rattle.desk_model.proofs.Asking.{Asks, IsGiven, formed_asks}
use Rattle.desk_model.proofs.NamedLemmas.{each-changed, each-put, length-added, length-changed}
use Rattle.desk_model.proofs.Passing.{all_passed}
use Rattle.vault_ledger.specs.Ledger.{Ledger, Placement, named_on, with_outline}
use Rattle.vault_ledger.specs.Pools.{HoldsLive}
use Rattle.vault_ledger.specs.Storage.{Follows, HavePools, IsUnitPool, StorageState, pool_added}
use Rattle.vault_ledger.proofs.FittedPools.{same_at}
use Rattle.vault_ledger.proofs.FollowedSettings.{IsPassed, pool_like, set_to}
use Rattle.vault_ledger.proofs.LedgerUnits.{in_filtered, none_live, nothing}

-- What a request adds.

-- what is given of a unit, or has its default, is what its key may have
number_or : (key : Key) (o : Option ℕ) (number : ℕ) → IsNumberOf key number → IsGiven key o → IsNumberOf key (unwrap_or o number)
number_or key None number default given = default
number_or key (Some n) number default given = given

module _ (r : Request) (name : List ℕ) (capacity : ℕ) (segment fragment slots high low : Option ℕ) (formed : IsFormed r) (is : r ≡ request.UnitAdd name capacity segment fragment slots high low) (first : StorageUnit) (first_is : first ≡ disk0) where
  asks : Asks (request.UnitAdd name capacity segment fragment slots high low)
  asks = formed_asks (request.UnitAdd name capacity segment fragment slots high low) (subst IsFormed is formed)

  pub added_size : (size : ℕ) → size ≡ unwrap_or segment first.segment → 1 ≤ size
  added_size size size_is =
      let of : IsNumberOf segment_key size = subst (IsNumberOf segment_key) (sym (size_is ∙ ap (λ (u : StorageUnit). unwrap_or segment u.segment) first_is)) (number_or segment_key segment 131072 (omega arith, omega arith) asks.segment) in
      omega (arith, of.0)

  pub added_slots : (count : ℕ) → count ≡ unwrap_or slots first.slots → IsNumberOf slots_key count
  added_slots count count_is = subst (IsNumberOf slots_key) (sym (count_is ∙ ap (λ (u : StorageUnit). unwrap_or slots u.slots) first_is)) (number_or slots_key slots 8388608 (omega arith, omega arith) asks.slots)

-- The pools afterwards.

abbrev pub with_pool : Option PoolState → List PoolState → List PoolState
with_pool None pools = pools
with_pool (Some pool) pools = pools ++ pool ∷ []

before_push : (pools : List PoolState) (new : PoolState) (n : ℕ) (pool : PoolState) → slice_get pools n ≡ Some pool → slice_get (pools ++ new ∷ []) n ≡ Some pool
before_push pools new n pool is =
    same_at pools (pools ++ new ∷ []) n pool is (let within = slice_get_within pools n pool is in omega (arith, length_push pools new, within)) (get_or_append_left pools (new ∷ []) pool n (slice_get_within pools n pool is))

-- each unit has its pool where there is one more
pub more_have : (l : Ledger) (o : Option PoolState) (pools : List PoolState) → HavePools l pools → HavePools l (with_pool o pools)
more_have l None pools have = have
more_have l (Some new) pools have = record {
  long = omega (arith, length_push pools new, have.long);
  each = λ u among. let one = have.each u among in (one.0, before_push pools new u.number one.0 one.1, one.2);
}

-- a unit that isn't in the book has nothing
none_placed : (l : Ledger) (storage : StorageState) (unit : List ℕ) → Follows l storage → has unit_name unit l.outline.site.book.units ≡ false → named_on unit l.placements ≡ []
none_placed l storage unit follows absent =
    ap (flat_map (λ (p : Placement). p.slots)) (nothing (filter (λ (p : Placement). bytes_eq p.unit unit) l.placements) (λ p among.
    let there = in_filtered (λ (q : Placement). bytes_eq q.unit unit) l.placements p among in
    false≢true (sym absent ∙ ap (λ (n : List ℕ). has unit_name n l.outline.site.book.units) (sym (text_is p.unit unit there.1)) ∙ follows.placed p there.0)))

pub holds_none : (pool : PoolState) → pool.table ≡ [] → HoldsLive [] [] pool
holds_none pool empty = record {
  here = λ s (k, lt, is). absurd (omega (arith, lt));
  others = λ slot none. ap (λ (table : List (Option Slot)). at_slot table slot) empty;
  only = λ slot none. refl;
}

-- each unit has its pool after a request, with that of a unit which it adds
pub have_more : (l : Ledger) (storage : StorageState) (r : Request) → Follows l storage → IsPassed r l → HavePools (set_to r l) (with_pool (pool_added r l.outline.site.book) storage.pools)
have_more l storage (request.UnitAdd name capacity segment fragment slots high low) follows none = record {
  long = omega (arith, length-added unit_name new units fresh, length_push storage.pools pool, follows.pools.count);
  each = each-put unit_name HasPool new units here (λ u among. let one = follows.pools.have.each u among in (one.0, before_push storage.pools pool u.number one.0 one.1, pool_like l l.outline (set_by r l.outline) u u one.0 refl refl one.2));
}
  where
    r : Request
    r = request.UnitAdd name capacity segment fragment slots high low

    units : List StorageUnit
    units = l.outline.site.book.units

    new : StorageUnit
    new = unit_of name (length units) (record { capacity = capacity; segment = segment; fragment = fragment; slots = slots; high = high; low = low })

    pool : PoolState
    pool = record { file = 2 + length units; size = unwrap_or segment 131072; slots = unwrap_or slots 8388608; table = [] }

    HasPool : StorageUnit → Type 0
    HasPool u = (p : PoolState) × (slice_get (storage.pools ++ pool ∷ []) u.number ≡ Some p) × IsUnitPool (set_to r l) u p

    fresh : has unit_name name units ≡ false
    fresh = (all_passed (setting_refusals r l.outline) none).1.0

    last : slice_get (storage.pools ++ pool ∷ []) (length units) ≡ Some pool
    last =
        ap (λ (k : ℕ). slice_get (storage.pools ++ pool ∷ []) k) (sym follows.pools.count)
        ∙ slice_get-get_or (storage.pools ++ pool ∷ []) (length storage.pools) pool (omega (arith, length_push storage.pools pool))
        ∙ ap (λ (p : PoolState). Some p) (get_or-append_seam storage.pools pool [] pool)

    here : HasPool new
    here = (
      pool,
      last,
      record {
        file = refl;
        size = refl;
        holds = subst (λ (known : List NewSegment). HoldsLive known (named_on name l.placements) pool) (sym (none_live l follows.order name fresh))
            (subst (λ (slots : List ℕ). HoldsLive [] slots pool) (sym (none_placed l storage name follows fresh)) (holds_none pool refl));
      },
    )
have_more l storage (request.UnitChange name capacity slots high low) follows none = record {
  long = omega (arith, length-changed unit_name name (unit_with change) units, follows.pools.have.long);
  each = each-changed unit_name HasPool name (unit_with change) (λ u has. (has.0, has.1, pool_like l after after u (unit_with change u) has.0 refl refl has.2)) units (λ u among. let one = follows.pools.have.each u among in (one.0, one.1, pool_like l l.outline after u u one.0 refl refl one.2));
}
  where
    units : List StorageUnit
    units = l.outline.site.book.units

    change : UnitChange
    change = record { capacity = capacity; slots = slots; high = high; low = low }

    after : State
    after = set_by (request.UnitChange name capacity slots high low) l.outline

    HasPool : StorageUnit → Type 0
    HasPool u = (p : PoolState) × (slice_get storage.pools u.number ≡ Some p) × IsUnitPool (with_outline l after) u p
have_more l storage r follows none = record {
  long = follows.pools.have.long;
  each = λ u among. let one = follows.pools.have.each u among in (one.0, one.1, pool_like l l.outline (set_by r l.outline) u u one.0 refl refl one.2);
}

pub have_added : (l : Ledger) (storage : StorageState) (r : Request) (book : Book) (o : Option PoolState) (pools : List PoolState) → o ≡ pool_added r book → pools ≡ with_pool o storage.pools → Follows l storage → book ≡ l.outline.site.book → IsPassed r l → HavePools (set_to r l) pools
have_added l storage r book o pools o_is pools_are follows same none =
    subst (HavePools (set_to r l)) (sym (pools_are ∙ ap (λ (p : Option PoolState). with_pool p storage.pools) (o_is ∙ ap (pool_added r) same))) (have_more l storage r follows none)

-- What is known of where the bytes of images stand follows a change of the site.
use Rattle.desk_model.proofs.Common.{◌≡◌, ◌≤◌, ◌+◌, ◌∙◌, ℕ, zero, suc, Bool, true, false, List, [], ◌∷◌, length, refl, sym, ap, subst, arith, Option, Some, None, cond, find, unwrap_or, slice_get, Contains, Request, StorageUnit, has, unit_name, disk0, unit_of, unit_with, Image, image_named, State, CopyRecord, first_refusal, setting_refusals, set_by}
use Rattle.site_types.specs.declared.image.ImageRecord.{ImageRecord}
use Rattle.site_types.specs.declared.request.Request.TheVariants as request
use Rattle.segment_pool.specs.Slots.{PoolState}
use Rattle.copy_fragments.specs.Copies.{Copy}
use Rattle.policy_book.specs.Requests.{book_after}
use Rattle.desk_model.proofs.Asking.{Asks}
use Rattle.desk_model.proofs.NamedLemmas.{found_named, has-contained, length-added, length-changed, named-contained, some_named}
use Rattle.desk_model.proofs.Passing.{all_passed}
use Rattle.vault_ledger.specs.Copies.{copy_of}
use Rattle.vault_ledger.specs.Ledger.{Ledger, live_on, named_on, slots_of, with_outline}
use Rattle.vault_ledger.specs.Pools.{HoldsLive}
use Rattle.vault_ledger.specs.Storage.{AreCopies, ArePools, Follows, HavePools, IsCopyIn, IsUnitPool, StorageState, copy_for}
use Rattle.vault_ledger.specs.Wellformed.{IsLedger}
use Rattle.vault_ledger.proofs.KeptSettings.{set_kept}
use Rattle.vault_ledger.proofs.UnitPlaces.{place, places_stay}

-- the ledger after a request
abbrev pub set_to : Request → Ledger → Ledger
set_to r l = with_outline l (set_by r l.outline)

-- nothing refuses it
abbrev pub IsPassed : Request → Ledger → Type 0
IsPassed r l = first_refusal (setting_refusals r l.outline) ≡ None

-- Pools.

-- the pool of a unit is that of a unit with its name and its place
pub pool_like : (l : Ledger) (s t : State) (u v : StorageUnit) (pool : PoolState) → u.name ≡ v.name → place u ≡ place v → IsUnitPool (with_outline l s) u pool → IsUnitPool (with_outline l t) v pool
pool_like l s t u v pool name same of = record {
  file = of.file ∙ ap (λ (p : ℕ × ℕ × ℕ). 2 + p.0) same;
  size = of.size ∙ ap (λ (p : ℕ × ℕ × ℕ). p.1) same;
  holds = subst (λ (n : List ℕ). HoldsLive (live_on n l.live) (named_on n l.placements) pool) name of.holds;
}

-- a unit of the book is there after a request, in its place
unit_stays : (l : Ledger) (r : Request) → IsLedger l → IsPassed r l → (v : StorageUnit) → Contains l.outline.site.book.units v → (u : StorageUnit) × Contains (book_after r l.outline.site.book).units u × (u.name ≡ v.name) × (place u ≡ place v)
unit_stays l r order none v among =
    let by_name = order.shape.sound.site.ordered.units in
    let old = l.outline.site.book in
    let stay = places_stay r l.outline none v.name (has-contained unit_name old.units v by_name among) in
    let u = some_named unit_name v.name (book_after r old).units stay.0 in
    let found = found_named unit_name v.name (book_after r old).units u.0 u.1 in
    (u.0, found.1, found.0, ap (λ (o : Option StorageUnit). place (unwrap_or o disk0)) (sym u.1) ∙ stay.1 ∙ ap (λ (o : Option StorageUnit). place (unwrap_or o disk0)) (named-contained unit_name old.units v by_name among))

-- no request takes a unit away
units_after : (r : Request) (s : State) → first_refusal (setting_refusals r s) ≡ None → length s.site.book.units ≤ length (book_after r s.site.book).units
units_after (request.UnitAdd name capacity segment fragment slots high low) s none =
    let new = unit_of name (length s.site.book.units) (record { capacity = capacity; segment = segment; fragment = fragment; slots = slots; high = high; low = low }) in
    omega (arith, length-added unit_name new s.site.book.units (all_passed (setting_refusals (request.UnitAdd name capacity segment fragment slots high low) s) none).1.0)
units_after (request.UnitChange name capacity slots high low) s none = omega (arith, length-changed unit_name name (unit_with (record { capacity = capacity; slots = slots; high = high; low = low })) s.site.book.units)
units_after r s none = omega arith

-- the pools after a request are there before it
pub have_before : (l : Ledger) (r : Request) (pools : List PoolState) → IsLedger l → first_refusal (setting_refusals r l.outline) ≡ None → HavePools (with_outline l (set_by r l.outline)) pools → HavePools l pools
have_before l r pools order none have = record {
  long = let more = units_after r l.outline none in omega (arith, more, have.long);
  each = λ v among.
      let u = unit_stays l r order none v among in
      let one = have.each u.0 u.1 in
      (one.0, sym (ap (λ (p : ℕ × ℕ × ℕ). slice_get pools p.0) u.3) ∙ one.1, pool_like l (set_by r l.outline) l.outline u.0 v one.0 u.2 u.3 one.2);
}

-- Copies.

copy_stays : (l : Ledger) (r : Request) → IsPassed r l → (image : ImageRecord) (copy : CopyRecord) → has unit_name copy.unit l.outline.site.book.units ≡ true → copy_for l image copy ≡ copy_for (set_to r l) image copy
copy_stays l r none image copy there =
    let same = sym (places_stay r l.outline none copy.unit there).1 in
    λ i. record { slots = slots_of image.id copy.number l.placements; size = (same i).1; per_fragment = (same i).2; length = image.length }

-- what is found is there
found : {A : Type 0} (test : A → Bool) (xs : List A) (x : A) → find test xs ≡ Some x → Contains xs x
found test [] x is = absurd (cc is)
found {A} test (y ∷ ys) x is = at (test y) (found test ys x) is
  where
    at : (b : Bool) → (find test ys ≡ Some x → Contains ys x) → cond b (Some y) (find test ys) ≡ Some x → Contains (y ∷ ys) x
    at true later here = (zero, omega arith, let y_is : y ≡ x = cc here in y_is)
    at false later rest = let there = later rest in (suc there.0, omega (arith, there.1), there.2)

copies_stay : (l : Ledger) (r : Request) (copies : List (_ × Copy)) → IsLedger l → IsPassed r l → AreCopies l copies → AreCopies (set_to r l) copies
copies_stay l r copies order none are id = at (copy_of id copies) (image_named id l.outline.images) refl (are id)
  where
    at : (o : Option Copy) (i : Option Image) → image_named id l.outline.images ≡ i → IsCopyIn l o i → IsCopyIn (set_to r l) o i
    at None None is of = tt
    at None (Some image) is of = of
    at (Some copy) None is of = of
    at (Some copy) (Some image) is of =
        let here = order.images image (found _ l.outline.images image is) in
        let one : here.copy ≡ of.0 = let a = here.only in let b = of.1 in cc (a, b) in
        (of.0, of.1, of.2 ∙ copy_stays l r none image.entry of.0 (ap (λ (c : CopyRecord). has unit_name c.unit l.outline.site.book.units) (sym one) ∙ here.unit))

-- All of it.

pub set_followed : (l : Ledger) (storage : StorageState) (pools' : List PoolState) (r : Request) → Follows l storage → Asks r → first_refusal (setting_refusals r l.outline) ≡ None → ArePools (with_outline l (set_by r l.outline)) pools' → Follows (with_outline l (set_by r l.outline)) (record { pools = pools'; copies = storage.copies })
set_followed l storage pools' r follows asks none pools = record {
  order = set_kept l follows.order r asks none;
  pools = pools;
  copies = copies_stay l r storage.copies follows.order none follows.copies;
  few = follows.few;
  placed = λ p among. (places_stay r l.outline none p.unit (follows.placed p among)).0;
}

pub back_followed : (l : Ledger) (storage : StorageState) (pools' : List PoolState) → Follows l storage → ArePools l pools' → Follows l (record { pools = pools'; copies = storage.copies })
back_followed l storage pools' follows pools = record { order = follows.order; pools = pools; copies = follows.copies; few = follows.few; placed = follows.placed }

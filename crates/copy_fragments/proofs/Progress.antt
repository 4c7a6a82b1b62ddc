-- What is known of the slots once one piece more is placed, or refused.
use Rattle.std.proofs.Common.{◌≡◌, inl, inr, ⊎_elim, ℕ, zero, suc, ◌+◌, ◌<◌, ◌≤◌, List, [], ◌∷◌, ◌++◌, length, Some, None, refl, ◌∙◌, ap, arith, length-append}
use Rattle.std.specs.Prelude.{Option, ◌⊎◌, is_some, cond, IsSome}
use Rattle.std.specs.List.{count_by}
use Rattle.std.proofs.lemmas.List.Sums.{sum_by-cons}
use Rattle.segment_pool.specs.declared.slot.Slot.{Slot}
use Rattle.segment_pool.specs.Slots.{IsAsBefore, IsLowestFree, PinnedAgain, Placed, PoolState, at_slot, number_held, one_if_held, spare}
use Rattle.copy_fragments.specs.PlacingSteps.{PlacedSoFar}
use Rattle.copy_fragments.proofs.Pinning.{pinned_again, pinned_before, pinned_new, push_more}

-- a slot that is pinned once more counts as before
pub again_number : (now new : PoolState) (slot n : ℕ) (digest : List ℕ) → PinnedAgain now new slot n digest → number_held new ≡ number_held now
again_number now new slot n digest again = omega (arith, again.now.number, ap one_if_held again.was.is_held)

pub again_spare : (now new : PoolState) (slot n : ℕ) (digest : List ℕ) → PinnedAgain now new slot n digest → spare now ≤ spare new
again_spare now new slot n digest again = omega (arith, again.now.room, ap one_if_held again.was.is_held)

-- and a new one makes one more
pub new_number : (now new : PoolState) (slot n : ℕ) (digest : List ℕ) → Placed now new slot n digest → number_held new ≡ number_held now + 1
new_number now new slot n digest placed = omega (arith, placed.now.number, ap one_if_held placed.lowest.free)

pub spare_on : (now new : PoolState) (slot n : ℕ) (digest : List ℕ) → PinnedAgain now new slot n digest ⊎ Placed now new slot n digest → spare now ≤ spare new + 1
spare_on now new slot n digest pinned = ⊎_elim
    (λ again. omega (arith, again_spare now new slot n digest again))
    (λ placed. omega (arith, placed.now.room, ap one_if_held placed.lowest.free)) pinned

-- one piece more is placed
pub placed_on : (start now new : PoolState) (slot n : ℕ) (digest done : List ℕ) → PlacedSoFar start now done → PinnedAgain now new slot n digest ⊎ Placed now new slot n digest → PlacedSoFar start new (done ++ slot ∷ [])
placed_on start now new slot n digest done so_far pinned =
    let long : length (done ++ slot ∷ []) ≡ length done + 1 = length-append done (slot ∷ []) in
    ⊎_elim
    (λ again.
    let number = again_number now new slot n digest again in
    record {
      pinned = pinned_again start now new slot n digest done (done ++ slot ∷ []) (push_more slot done) so_far.pinned again;
      beside = λ k. omega (arith, so_far.beside k, again.now.beside k);
      no_fewer = omega (arith, so_far.no_fewer, number);
      no_more = omega (arith, so_far.no_more, number, long);
      fits = ⊎_elim (λ same. inl (number ∙ same)) (λ le. inr (omega (arith, le, number))) so_far.fits;
    })
    (λ placed.
    let number = new_number now new slot n digest placed in
    record {
      pinned = pinned_new start now new slot n digest done (done ++ slot ∷ []) (push_more slot done) so_far.pinned placed;
      beside = λ k. omega (arith, so_far.beside k, placed.now.beside k);
      no_fewer = omega (arith, so_far.no_fewer, number);
      no_more = omega (arith, so_far.no_more, number, long);
      fits = inr (omega (arith, number, placed.fits, so_far.pinned.limit));
    }) pinned

-- a piece is refused
pub placed_before : (start now new : PoolState) (slots : List ℕ) → PlacedSoFar start now slots → IsAsBefore now new → PlacedSoFar start new slots
placed_before start now new slots so_far before = record {
  pinned = pinned_before start now new slots so_far.pinned before;
  beside = λ k. omega (arith, so_far.beside k, before.beside k);
  no_fewer = omega (arith, so_far.no_fewer, before.number);
  no_more = omega (arith, so_far.no_more, before.number);
  fits = ⊎_elim (λ same. inl (before.number ∙ same)) (λ le. inr (omega (arith, le, before.number))) so_far.fits;
}

-- where the lowest free slot is: it is no greater than the number of held ones
abbrev first_free : List (Option Slot) → ℕ
first_free [] = zero
first_free (None ∷ table) = zero
first_free (Some what ∷ table) = suc (first_free table)

first_free_count : (table : List (Option Slot)) → first_free table ≤ count_by is_some table
first_free_count [] = omega arith
first_free_count (None ∷ table) = omega arith
first_free_count (Some what ∷ table) = omega (arith, first_free_count table, sum_by-cons (λ (o : Option Slot). cond (is_some o) 1 0) (Some what) table)

is_free : (table : List (Option Slot)) → at_slot table (first_free table) ≡ None
is_free [] = refl
is_free (None ∷ table) = refl
is_free (Some what ∷ table) = is_free table

held_below : (table : List (Option Slot)) (t : ℕ) → t < first_free table → IsSome (at_slot table t)
held_below [] t lt = absurd (omega (arith, lt))
held_below (None ∷ table) t lt = absurd (omega (arith, lt))
held_below (Some what ∷ table) zero lt = refl
held_below (Some what ∷ table) (suc t) lt = held_below table t (omega (arith, lt))

pub lowest_there : (pool : PoolState) → (slot : ℕ) × IsLowestFree pool slot × (slot ≤ number_held pool)
lowest_there pool = (first_free pool.table, record { free = is_free pool.table; lowest = held_below pool.table }, first_free_count pool.table)

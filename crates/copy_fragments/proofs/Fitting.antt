-- The lengths and the numbers of slots in which pieces were placed.
use Rattle.std.proofs.Common.{◌≡◌, ⊎_elim, ℕ, ◌<◌, List, [], ◌∷◌, ◌++◌, length, Some, None, sym, ◌∙◌, ap, arith, refl, ◌+◌}
use Rattle.std.specs.Prelude.{◌⊎◌, slice_get}
use Rattle.std.proofs.lemmas.Bool.{cases_eq}
use Rattle.segment_pool.specs.Slots.{PinnedAgain, Placed, PoolState, held}
use Rattle.segment_pool.specs.declared.slot.Slot.{Slot}
use Rattle.segment_pool.proofs.Placings.{one_lowest}
use Rattle.copy_fragments.specs.Placings.{FitPieces}
use Rattle.copy_fragments.specs.PlacingSteps.{PlacedSoFar}
use Rattle.copy_fragments.proofs.Progress.{lowest_there}
use Rattle.copy_fragments.proofs.Taking.{free_held, push_at}

-- a pool that holds what it held has no slot more
pub fit_none : (start now : PoolState) (all : List (List ℕ)) → ((slot : ℕ) → held now slot ≡ held start slot) → FitPieces start now all []
fit_none start now all same = record {
  lengths = λ index slot piece is. absurd (cc (is));
  below = λ slot what free is. absurd (free_held (held now slot) what (same slot ∙ free) is);
}

-- each slot that is held now was held with this length, or has the piece
abbrev HeldBy : PoolState → PoolState → ℕ → ℕ → Type 0
HeldBy now new slot n = (t : ℕ) (what : Slot) → held now t ≡ Some what → (w : Slot) × (held new t ≡ Some w) × (w.length ≡ what.length)

module _ (start now new : PoolState) (slot : ℕ) (piece digest : List ℕ) (all : List (List ℕ)) (done : List ℕ) (far : PlacedSoFar start now done) (so_far : FitPieces start now all done) (here : slice_get all (length done) ≡ Some piece) where
  more : HeldBy now new slot (length piece) → (w : Slot) × (held new slot ≡ Some w) × (w.length ≡ length piece) → ((t : ℕ) (what : Slot) → held start t ≡ None → held new t ≡ Some what → t < start.slots) → FitPieces start new all (done ++ slot ∷ [])
  more stay own below = record {
    lengths = λ index t p t_is p_is. ⊎_elim
        (λ before.
        let had = so_far.lengths index t p before p_is in
        let now_is = stay t had.0 had.1 in
        (now_is.0, now_is.1, now_is.2 ∙ had.2))
        (λ last.
        let same : piece ≡ p = let e = sym here ∙ ap (λ (k : ℕ). slice_get all k) (sym last.0) ∙ p_is in cc (e) in
        (own.0, ap (λ (k : ℕ). held new k) last.1 ∙ own.1, own.2 ∙ ap length same))
        (push_at done slot index t t_is);
    below = below;
  }

  again : PinnedAgain now new slot (length piece) digest → FitPieces start new all (done ++ slot ∷ [])
  again once = more
      (λ t what is. ⊎_elim
      (λ same.
      let was : once.was.what ≡ what = let e = once.was.is_held in let f = ap (λ (k : ℕ). held now k) (sym same) ∙ is in cc (e, f) in
      (record once.was.what { pins = once.was.what.pins + 1 }, ap (λ (k : ℕ). held new k) same ∙ once.now.here, ap (λ (w : Slot). w.length) was))
      (λ ne. (what, once.now.elsewhere t ne ∙ is, refl))
      (cases_eq t slot))
      (record once.was.what { pins = once.was.what.pins + 1 }, once.now.here, once.was.length_is)
      (λ t what free is. ⊎_elim
      (λ same. so_far.below t once.was.what free (ap (λ (k : ℕ). held now k) same ∙ once.was.is_held))
      (λ ne. so_far.below t what free (sym (once.now.elsewhere t ne) ∙ is))
      (cases_eq t slot))

  lowest_below : Placed now new slot (length piece) digest → slot < start.slots
  lowest_below placed =
      let first = lowest_there now in
      omega (arith, one_lowest now slot first.0 placed.lowest first.1, first.2, placed.fits, far.pinned.limit)

  first_one : Placed now new slot (length piece) digest → FitPieces start new all (done ++ slot ∷ [])
  first_one placed = more
      (λ t what is. ⊎_elim
      (λ same. absurd (free_held (held now slot) what placed.lowest.free (ap (λ (k : ℕ). held now k) (sym same) ∙ is)))
      (λ ne. (what, placed.now.elsewhere t ne ∙ is, refl))
      (cases_eq t slot))
      (_, placed.now.here, refl)
      (λ t what free is. ⊎_elim
      (λ same. omega (arith, same, lowest_below placed))
      (λ ne. so_far.below t what free (sym (placed.now.elsewhere t ne) ∙ is))
      (cases_eq t slot))

  -- one piece more is found or placed
  pub fit_on : PinnedAgain now new slot (length piece) digest ⊎ Placed now new slot (length piece) digest → FitPieces start new all (done ++ slot ∷ [])
  fit_on pinned = ⊎_elim again first_one pinned

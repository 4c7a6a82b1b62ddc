-- Why a piece was refused, and what that leaves.
use Rattle.std.proofs.Common.{◌≡◌, ◌≢◌, ⊎_elim, ℕ, ◌+◌, ◌*◌, ◌<◌, ◌≤◌, List, [], length, get_or, Some, None, Ok, Err, refl, sym, ◌∙◌, ap, subst, arith}
use Rattle.std.specs.Prelude.{Option, Result, IfErr, slice_get}
use Rattle.std.proofs.Math.Nat.{mul-le-mul_right}
use Rattle.std.proofs.lemmas.Bool.{cases_lt}
use Rattle.std.proofs.lemmas.Option.{slice_get-get_or, slice_get_within}
use Rattle.vault_disk.specs.Disk.{Disk, Image, IsSame}
use Rattle.segment_pool.specs.Faults.{FaultHolds, FaultTold, IsDamage}
use Rattle.segment_pool.specs.Placing.{IsDamaged, IsTruePool, KeepsPieces, Touches}
use Rattle.segment_pool.specs.Slots.{IsLowestFree, PoolState, held, number_held, spare}
use Rattle.segment_pool.specs.declared.fault.PoolFault.{PoolFault}
use Rattle.segment_pool.specs.declared.fault.PoolFault.TheVariants as fault
use Rattle.segment_pool.specs.declared.fault.ReadTrouble.TheVariants as trouble
use Rattle.segment_pool.specs.declared.slot.Slot.{Slot}
use Rattle.copy_fragments.specs.Placings.{PlacingFails, PlacingTold, held_pieces, lacking, new_pieces, times}
use Rattle.copy_fragments.specs.PlacingSteps.{HasPieces, IsDamageOf, PlacedSoFar, StaysTrue}
use Rattle.copy_fragments.proofs.Kept.{keeps_from, keeps_wider, slot_end, touches_as, touches_on, touches_wider}
use Rattle.copy_fragments.proofs.Lacking.{front_lacking}
use Rattle.copy_fragments.proofs.Progress.{lowest_there}
use Rattle.copy_fragments.proofs.Reading.{has_undamaged}
use Rattle.copy_fragments.proofs.Taking.{free_held, lacked_more, times_at}

-- what holds of the fault holds of the answer
pub err_is : {T : Type 0} (r : Result T PoolFault) (e : PoolFault) (P : PoolFault → Type 0) → IfErr r (λ f. f ≡ e) → P e → IfErr r P
err_is (Ok v) e P is holds = tt
err_is (Err f) e P is holds = subst (λ (x : PoolFault). P x) (sym is) holds

-- where there is room a piece isn't refused for want of memory
pub no_want : (pool : PoolState) (digest : List ℕ) (before now : ℕ) (e : PoolFault) → 1 ≤ spare pool → FaultHolds pool digest before now e → e ≢ fault.NoMemory
no_want pool digest before now fault.NoMemory some holds same = omega (arith, some, holds.0)
no_want pool digest before now fault.DiskFault some holds same = absurd (cc (same))
no_want pool digest before now (fault.Damaged recorded found) some holds same = absurd (cc (same))
no_want pool digest before now (fault.Full count) some holds same = absurd (cc (same))

-- whose recorded digest a damage tells
pub damage_of : (digest_of : List ℕ → List ℕ) (pool : PoolState) (all : List (List ℕ)) (index : ℕ) (piece digest : List ℕ) (before now : ℕ) (e : PoolFault) → slice_get all index ≡ Some piece → digest ≡ digest_of piece → FaultHolds pool digest before now e → IsDamageOf digest_of all e
damage_of digest_of pool all index piece digest before now fault.NoMemory at is holds = tt
damage_of digest_of pool all index piece digest before now fault.DiskFault at is holds = tt
damage_of digest_of pool all index piece digest before now (fault.Damaged recorded found) at is holds = (index, piece, at, holds ∙ is)
damage_of digest_of pool all index piece digest before now (fault.Full count) at is holds = tt

-- why it is refused, over any vault
pub fails_cause : (start now : PoolState) (done digest : List ℕ) (before mid after : ℕ) (e : PoolFault) → PlacedSoFar start now done → before ≤ mid → FaultHolds now digest mid after e → (IsDamage e → ⊥) → PlacingFails start before after e
fails_cause start now done digest before mid after fault.NoMemory far le holds undamaged = tt
fails_cause start now done digest before mid after fault.DiskFault far le holds undamaged = omega (arith, le, holds)
fails_cause start now done digest before mid after (fault.Damaged recorded found) far le holds undamaged = absurd (undamaged tt)
fails_cause start now done digest before mid after (fault.Full count) far le holds undamaged = ⊎_elim
    (λ same. omega (arith, same, holds.0, holds.1, far.pinned.limit))
    (λ few. omega (arith, few, holds.0, holds.1, far.pinned.limit, far.no_fewer)) far.fits

-- a slot of the pool that is damaged was so before any piece was placed
module _ (digest_of : List ℕ → List ℕ) (start now : PoolState) (old d : Disk) (all : List (List ℕ)) (done : List ℕ) (far : PlacedSoFar start now done) (so_far : HasPieces digest_of start now old d all done) (long : length done ≤ length all) where
  damaged_at : (slot : ℕ) (o : Option Slot) (recorded found : List ℕ) → held start slot ≡ o → IsDamaged digest_of now d.seen slot recorded found → (what : Slot) × (held start slot ≡ Some what) × (recorded ≡ what.digest)
  damaged_at slot (Some what) recorded found is damage =
      let w_is : damage.what ≡ record what { pins = what.pins + times slot done } = let a = damage.is_held in let b = far.pinned.again slot what is in cc (a, b) in
      (what, is, damage.recorded_is ∙ ap (λ (x : Slot). x.digest) w_is)
  damaged_at slot None recorded found is damage =
      let some : 1 ≤ times slot done = ⊎_elim (λ lt. lt) (λ few. absurd (free_held (held now slot) damage.what (far.pinned.others slot is (omega (arith, few))) damage.is_held)) (cases_lt 0 (times slot done)) in
      let at = times_at done slot some in
      let within : at.0 < length done = slice_get_within done at.0 slot at.1 in
      let had = so_far.has at.0 slot (get_or all at.0 []) at.1 (slice_get-get_or all at.0 [] (omega (arith, within, long))) in
      let same = has_undamaged digest_of now d.seen slot (get_or all at.0 []) (trouble.Damaged recorded found) had damage in
      absurd (cc (same))

  pub fails_told : (before after : ℕ) (piece : List ℕ) (e : PoolFault) → ((IsDamage e → ⊥) → PlacingFails start before after e) → FaultTold digest_of now d.seen piece e → PlacingFails start before after e
  fails_told before after piece fault.NoMemory cause told = cause (λ none. none)
  fails_told before after piece fault.DiskFault cause told = cause (λ none. none)
  fails_told before after piece (fault.Full count) cause told = cause (λ none. none)
  fails_told before after piece (fault.Damaged recorded found) cause told =
      let before_it = damaged_at told.0 (held start told.0) recorded found refl told.1 in (told.0, before_it.0, before_it.1, before_it.2)

  -- a true pool refuses a piece only where more are new than it has slots for
  pub told_full : (before after : ℕ) (digest piece : List ℕ) (bytes : List ℕ) (e : PoolFault) → IsTruePool digest_of start old.seen → StaysTrue digest_of start now old d all done → slice_get all (length done) ≡ Some piece → (IsDamage e → ⊥) → FaultHolds now digest before after e → FaultTold digest_of now d.seen piece e
      → length (lacking (held_pieces start old.seen) all) ≡ length (new_pieces start old.seen bytes) → PlacingTold digest_of start old.seen bytes e
  told_full before after digest piece bytes fault.NoMemory true_pool stays is undamaged holds told new = tt
  told_full before after digest piece bytes fault.DiskFault true_pool stays is undamaged holds told new = tt
  told_full before after digest piece bytes (fault.Damaged recorded found) true_pool stays is undamaged holds told new = absurd (undamaged tt)
  told_full before after digest piece bytes (fault.Full count) true_pool stays is undamaged holds told new =
      let more = lacked_more digest_of start now old d all done far so_far long true_pool piece is told in
      let front = front_lacking (held_pieces start old.seen) all (length done + 1) in
      (omega (arith, more, front, new), omega (arith, more, front, new, stays.number, holds.0, far.pinned.limit))

  -- what a refused piece touches
  pub touches_refused : (e : Disk) (piece : List ℕ) (count : ℕ) → length done + 1 ≤ count → length piece ≤ now.size → IsSame old d → ((t : ℕ) → IsLowestFree now t → Touches now (t * now.size + length piece) d e) → Touches start ((number_held start + count) * start.size) old e
  touches_refused e piece count le short same touches =
      let low = lowest_there now in
      let first : ℕ = low.0 * now.size + length piece in
      let end : ℕ = (number_held start + count) * start.size in
      let first_le : first ≤ (number_held start + count) * now.size = slot_end now.size low.0 (length piece) (number_held start + count) (omega (arith, low.2, far.no_more, le)) short in
      let within : first ≤ end = omega (arith, first_le, ap (λ (k : ℕ). (number_held start + count) * k) far.pinned.size) in
      let before : (number_held start + length done) * start.size ≤ end = mul-le-mul_right start.size (let z : number_held start + length done ≤ number_held start + count = omega (arith, le) in z) in
      touches_on start end old d e same (touches_wider start _ end old d before so_far.touches)
      (touches_as now start first end d e (λ c f keeps. keeps_wider start first end c f within (keeps_from start now done first c f far.pinned keeps)) (touches low.0 low.1))

  pub touches_all : (count : ℕ) → length done ≤ count → Touches start ((number_held start + count) * start.size) old d
  touches_all count le = touches_wider start _ _ old d (mul-le-mul_right start.size (let z : number_held start + length done ≤ number_held start + count = omega (arith, le) in z)) so_far.touches

  pub seen_refused : (image : Image) (count : ℕ) → length done ≤ count → ((f : ℕ) → image f ≡ d.seen f) → KeepsPieces start ((number_held start + count) * start.size) old.seen image
  seen_refused image count le same =
      let before : number_held now * start.size ≤ (number_held start + count) * start.size = mul-le-mul_right start.size (let z : number_held now ≤ number_held start + count = omega (arith, le, far.no_more) in z) in
      subst (λ (i : Image). KeepsPieces start ((number_held start + count) * start.size) old.seen i) (λ i f. sym (same f) i)
      (keeps_wider start _ _ old.seen d.seen before so_far.keeps)

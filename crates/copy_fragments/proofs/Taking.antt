-- One piece more that a pool found or placed.
use Rattle.std.proofs.Common.{◌≡◌, inl, inr, ⊎_elim, ℕ, zero, suc, ◌+◌, ◌*◌, ◌<◌, ◌≤◌, List, [], ◌∷◌, ◌++◌, length, take, drop, get_or, Some, None, refl, sym, ◌∙◌, ap, subst, arith, length-append}
use Rattle.std.specs.Prelude.{Option, cond, ◌⊎◌, ◌==◌, slice_get}
use Rattle.std.proofs.Math.Nat.{mul-le-mul_right}
use Rattle.std.proofs.lemmas.Bool.{cases_eq, cases_lt}
use Rattle.std.proofs.lemmas.List.Sums.{sum_by-cons}
use Rattle.std.proofs.lemmas.Option.{slice_get-get_or, slice_get_within}
use Rattle.vault_disk.specs.Disk.{Disk, Image, IsSame}
use Rattle.vault_disk.specs.Steps.{LookedAround}
use Rattle.segment_pool.specs.Placing.{HasPiece, IsTruePool, KeepsPieces, Touches, bytes_in}
use Rattle.segment_pool.specs.Slots.{Becomes, IsLowestFree, PinnedAgain, Placed, PoolState, held, number_held}
use Rattle.segment_pool.specs.declared.slot.Slot.{Slot}
use Rattle.segment_pool.proofs.Placings.{keeps_same}
use Rattle.copy_fragments.specs.Placings.{held_pieces, lacking, times}
use Rattle.copy_fragments.specs.PlacingSteps.{HasPieces, PlacedSoFar, StaysTrue}
use Rattle.copy_fragments.proofs.Kept.{keeps_from, keeps_on, keeps_wider, same_place, slot_end, touches_as, touches_on, touches_wider}
use Rattle.copy_fragments.proofs.Lacking.{In, from_front, from_held, front_on, in_front, in_held, more_lacking, same_lacking}
use Rattle.copy_fragments.proofs.Pinning.{other_time}
use Rattle.copy_fragments.proofs.Progress.{again_number, lowest_there, new_number}

-- what a piece that was found or placed tells
pub record Taken (digest_of : List ℕ → List ℕ) (now new : PoolState) (d e : Disk) (slot : ℕ) (piece digest : List ℕ) : Type 0 where
  pub short : length piece ≤ now.size
  pub pinned : PinnedAgain now new slot (length piece) digest ⊎ Placed now new slot (length piece) digest
  pub ways : HasPiece digest_of now d.seen slot piece ⊎ Placed now new slot (length piece) digest
  pub piece_is : HasPiece digest_of new e.seen slot piece
  pub found : (t : ℕ) → HasPiece digest_of now d.seen t piece → HasPiece digest_of now d.seen slot piece × LookedAround d e
  pub touches : (t : ℕ) → IsLowestFree now t → Touches now (t * now.size + length piece) d e
  pub seen : (t : ℕ) → IsLowestFree now t → KeepsPieces now (t * now.size + length piece) d.seen e.seen

pub taken_by : (digest_of : List ℕ → List ℕ) (now new : PoolState) (d e : Disk) (slot : ℕ) (piece digest : List ℕ) → length piece ≤ now.size → PinnedAgain now new slot (length piece) digest ⊎ Placed now new slot (length piece) digest
    → HasPiece digest_of now d.seen slot piece ⊎ Placed now new slot (length piece) digest → HasPiece digest_of new e.seen slot piece → ((t : ℕ) → HasPiece digest_of now d.seen t piece → HasPiece digest_of now d.seen slot piece × LookedAround d e)
    → ((t : ℕ) → IsLowestFree now t → Touches now (t * now.size + length piece) d e) → ((t : ℕ) → IsLowestFree now t → KeepsPieces now (t * now.size + length piece) d.seen e.seen) → Taken digest_of now new d e slot piece digest
taken_by digest_of now new d e slot piece digest short pinned ways piece_is found touches seen = record { short = short; pinned = pinned; ways = ways; piece_is = piece_is; found = found; touches = touches; seen = seen }

-- a slot that stands in a list stands somewhere there
pub times_at : (slots : List ℕ) (slot : ℕ) → 1 ≤ times slot slots → (k : ℕ) × (slice_get slots k ≡ Some slot)
times_at [] slot some = absurd (omega (arith, some))
times_at (x ∷ xs) slot some = ⊎_elim
    (λ same. (0, ap (λ (k : ℕ). Some k) same))
    (λ other.
    let behind = times_at xs slot (omega (arith, some, sum_by-cons (λ (s : ℕ). cond (s == slot) 1 0) x xs, other_time x slot (λ same. other (sym same)))) in
    (suc behind.0, behind.1)) (cases_eq x slot)

pub push_at : (done : List ℕ) (slot index t : ℕ) → slice_get (done ++ slot ∷ []) index ≡ Some t → (slice_get done index ≡ Some t) ⊎ ((index ≡ length done) × (t ≡ slot))
push_at [] slot zero t is = let same : t ≡ slot = cc (is) in inr (refl, same)
push_at [] slot (suc index) t is = inl is
push_at (x ∷ xs) slot zero t is = inl is
push_at (x ∷ xs) slot (suc index) t is = ⊎_elim (λ before. inl before) (λ last. inr (omega (arith, last.0), last.1)) (push_at xs slot index t is)

-- a slot that is free is no held one
pub free_held : {X : Type 0} (o : Option X) (w : X) → o ≡ None → o ≡ Some w → ⊥
free_held o w free is = absurd (cc (free, is))

-- a placed piece is where it was after one piece more
becomes_has : (digest_of : List ℕ → List ℕ) (now new : PoolState) (slot end t : ℕ) (what : Option Slot) (w : Slot) (q : List ℕ) (c d : Image) → Becomes now new slot what → KeepsPieces now end c d → (has : HasPiece digest_of now c t q) → held new t ≡ Some w → w.length ≡ has.what.length → w.digest ≡ has.what.digest → HasPiece digest_of new d t q
becomes_has digest_of now new slot end t what w q c d becomes keeps has is long digest = record {
  what = w;
  is_held = is;
  length_is = long ∙ has.length_is;
  digest_is = digest ∙ has.digest_is;
  bytes_are = (λ i. take w.length (drop (t * becomes.size i) (d (becomes.file i)))) ∙ ap (bytes_in now d t) long
      ∙ keeps.pieces t has.what has.is_held (ap length has.bytes_are ∙ sym has.length_is) ∙ has.bytes_are;
}

module _ (digest_of : List ℕ → List ℕ) (now new : PoolState) (d e : Disk) (slot : ℕ) (piece digest : List ℕ) (taken : Taken digest_of now new d e slot piece digest) where
  kept_has : (end t : ℕ) (q : List ℕ) → KeepsPieces now end d.seen e.seen → HasPiece digest_of now d.seen t q → HasPiece digest_of new e.seen t q
  kept_has end t q keeps has = ⊎_elim
      (λ again. ⊎_elim
      (λ same.
      let w_is : again.was.what ≡ has.what = let a = again.was.is_held in let b = ap (held now) (sym same) ∙ has.is_held in cc (a, b) in
      becomes_has digest_of now new slot end t _ (record again.was.what { pins = again.was.what.pins + 1 }) q d.seen e.seen again.now keeps has (ap (held new) same ∙ again.now.here) (ap (λ (x : Slot). x.length) w_is) (ap (λ (x : Slot). x.digest) w_is))
      (λ other. becomes_has digest_of now new slot end t _ has.what q d.seen e.seen again.now keeps has (again.now.elsewhere t other ∙ has.is_held) refl refl)
      (cases_eq t slot))
      (λ placed. ⊎_elim
      (λ same. absurd (free_held (held now slot) has.what placed.lowest.free (ap (held now) (sym same) ∙ has.is_held)))
      (λ other. becomes_has digest_of now new slot end t _ has.what q d.seen e.seen placed.now keeps has (placed.now.elsewhere t other ∙ has.is_held) refl refl)
      (cases_eq t slot)) taken.pinned

  -- a piece that was held makes none more, and one that was not makes one
  held_number : HasPiece digest_of now d.seen slot piece → number_held new ≡ number_held now
  held_number has = ⊎_elim
      (λ again. again_number now new slot (length piece) digest again)
      (λ placed. absurd (free_held (held now slot) has.what placed.lowest.free has.is_held)) taken.pinned

  no_fewer : number_held now ≤ number_held new
  no_fewer = ⊎_elim
      (λ again. omega (arith, again_number now new slot (length piece) digest again))
      (λ placed. omega (arith, new_number now new slot (length piece) digest placed)) taken.pinned

  taken_keeps : KeepsPieces now (number_held new * now.size) d.seen e.seen
  taken_keeps = ⊎_elim
      (λ has. keeps_same now (number_held new * now.size) d.seen e.seen (λ f. (taken.found slot has).1.rests.seen f))
      (λ placed.
      let low = lowest_there now in
      keeps_wider now (low.0 * now.size + length piece) (number_held new * now.size) d.seen e.seen (slot_end now.size low.0 (length piece) (number_held new) (omega (arith, low.2, new_number now new slot (length piece) digest placed)) taken.short) (taken.seen low.0 low.1)) taken.ways

  -- the pieces so far, with this one
  module _ (start : PoolState) (old : Disk) (all : List (List ℕ)) (done : List ℕ) (far : PlacedSoFar start now done) (so_far : HasPieces digest_of start now old d all done) (same : IsSame old d) (is : slice_get all (length done) ≡ Some piece) where
    pub has_on : HasPieces digest_of start new old e all (done ++ slot ∷ [])
    has_on =
        let each = far.pinned in
        let long : length (done ++ slot ∷ []) ≡ length done + 1 = length-append done (slot ∷ []) in
        let low = lowest_there now in
        let first : ℕ = low.0 * now.size + length piece in
        let end : ℕ = (number_held start + length (done ++ slot ∷ [])) * start.size in
        let first_le : first ≤ (number_held start + length (done ++ slot ∷ [])) * now.size = slot_end now.size low.0 (length piece) (number_held start + length (done ++ slot ∷ [])) (omega (arith, low.2, far.no_more, long)) taken.short in
        let within : first ≤ end = omega (arith, first_le, ap (λ (k : ℕ). (number_held start + length (done ++ slot ∷ [])) * k) each.size) in
        let before : (number_held start + length done) * start.size ≤ end = mul-le-mul_right start.size (let z : number_held start + length done ≤ number_held start + length (done ++ slot ∷ []) = omega (arith, long) in z) in
        let kept : number_held now * start.size ≤ number_held new * start.size = mul-le-mul_right start.size no_fewer in
        record {
          touches = touches_on start end old d e same (touches_wider start _ end old d before so_far.touches)
              (touches_as now start first end d e (λ c f keeps. keeps_wider start first end c f within (keeps_from start now done first c f each keeps)) (taken.touches low.0 low.1));
          keeps = keeps_on start (number_held new * start.size) old.seen d.seen e.seen (keeps_wider start _ (number_held new * start.size) old.seen d.seen kept so_far.keeps)
              (subst (λ (k : ℕ). KeepsPieces start (number_held new * k) d.seen e.seen) each.size (keeps_from start now done _ d.seen e.seen each taken_keeps));
          has = λ index t q t_is q_is. ⊎_elim
              (λ earlier. kept_has _ t q taken_keeps (so_far.has index t q earlier q_is))
              (λ last.
              let q_same : piece ≡ q = let a = ap (λ (k : ℕ). slice_get all k) last.0 in cc (a, is, q_is) in
              subst (λ (p : List ℕ). HasPiece digest_of new e.seen t p) q_same (subst (λ (s : ℕ). HasPiece digest_of new e.seen s piece) (sym last.1) taken.piece_is))
              (push_at done slot index t t_is);
        }

-- the pieces that a true pool holds, and those placed so far, are those that it holds now
module _ (digest_of : List ℕ → List ℕ) (start now : PoolState) (old d : Disk) (all : List (List ℕ)) (done : List ℕ) (far : PlacedSoFar start now done) (so_far : HasPieces digest_of start now old d all done) (long : length done ≤ length all) (true_pool : IsTruePool digest_of start old.seen) where
  kept_bytes : (slot : ℕ) (what : Slot) → held start slot ≡ Some what → bytes_in now d.seen slot what.length ≡ bytes_in start old.seen slot what.length
  kept_bytes slot what is = same_place start now done d.seen slot what.length far.pinned ∙ so_far.keeps.pieces slot what is (true_pool.whole slot what is).length_is

  member_at : (slot : ℕ) (o : Option Slot) (piece : List ℕ) → held start slot ≡ o → HasPiece digest_of now d.seen slot piece → In piece (held_pieces start old.seen) ⊎ In piece (take (length done) all)
  member_at slot (Some what) piece is has =
      let w_is : has.what ≡ record what { pins = what.pins + times slot done } = let a = has.is_held in let b = far.pinned.again slot what is in cc (a, b) in
      let bytes : bytes_in start old.seen slot what.length ≡ piece = sym (kept_bytes slot what is) ∙ ap (bytes_in now d.seen slot) (ap (λ (x : Slot). x.length) (sym w_is)) ∙ has.bytes_are in
      inl (subst (λ (p : List ℕ). In p (held_pieces start old.seen)) bytes (in_held start old.seen slot what is))
  member_at slot None piece is has =
      let some : 1 ≤ times slot done = ⊎_elim (λ lt. lt) (λ few. absurd (free_held (held now slot) has.what (far.pinned.others slot is (omega (arith, few))) has.is_held)) (cases_lt 0 (times slot done)) in
      let at = times_at done slot some in
      let within : at.0 < length done = slice_get_within done at.0 slot at.1 in
      let there : slice_get all at.0 ≡ Some (get_or all at.0 []) = slice_get-get_or all at.0 [] (omega (arith, within, long)) in
      let had = so_far.has at.0 slot (get_or all at.0 []) at.1 there in
      let w_is : had.what ≡ has.what = let a = had.is_held in let b = has.is_held in cc (a, b) in
      let bytes : get_or all at.0 [] ≡ piece = sym had.bytes_are ∙ ap (bytes_in now d.seen slot) (ap (λ (x : Slot). x.length) w_is) ∙ has.bytes_are in
      inr (in_front all (length done) at.0 piece within (there ∙ ap (λ (p : List ℕ). Some p) bytes))

  has_member : (piece : List ℕ) → In piece (held_pieces start old.seen) ⊎ In piece (take (length done) all) → (slot : ℕ) × HasPiece digest_of now d.seen slot piece
  has_member piece there = ⊎_elim
      (λ before.
      let at = from_held start old.seen piece before in
      let whole = true_pool.whole at.0 at.1 at.2 in (
        at.0,
        record {
          what = record at.1 { pins = at.1.pins + times at.0 done };
          is_held = far.pinned.again at.0 at.1 at.2;
          length_is = sym whole.length_is ∙ ap length at.3;
          digest_is = sym whole.digest_is ∙ ap digest_of at.3;
          bytes_are = kept_bytes at.0 at.1 at.2 ∙ at.3;
        },
      ))
      (λ earlier.
      let at = from_front all (length done) piece earlier in
      let slot : ℕ = get_or done at.0 0 in
      (slot, so_far.has at.0 slot piece (slice_get-get_or done at.0 0 at.1) at.2)) there

  -- a piece that no slot has is one more that the pool lacked
  pub lacked_more : (piece : List ℕ) → slice_get all (length done) ≡ Some piece → ((t : ℕ) → HasPiece digest_of now d.seen t piece → ⊥) → length (lacking (held_pieces start old.seen) (take (length done + 1) all)) ≡ length (lacking (held_pieces start old.seen) (take (length done) all)) + 1
  lacked_more piece is lacks =
      ap (λ (l : List (List ℕ)). length (lacking (held_pieces start old.seen) l)) (ap (λ (k : ℕ). take k all) (let z : length done + 1 ≡ suc (length done) = omega arith in z) ∙ front_on all (length done) piece is)
      ∙ more_lacking (held_pieces start old.seen) (take (length done) all) piece
      (λ there. let had = has_member piece (inl there) in lacks had.0 had.1)
      (λ there. let had = has_member piece (inr there) in lacks had.0 had.1)

  number_on : (new : PoolState) (e : Disk) (slot : ℕ) (piece digest : List ℕ) → Taken digest_of now new d e slot piece digest → slice_get all (length done) ≡ Some piece → number_held new + length (lacking (held_pieces start old.seen) (take (length done) all)) ≡ number_held now + length (lacking (held_pieces start old.seen) (take (length done + 1) all))
  number_on new e slot piece digest taken is = ⊎_elim
      (λ has.
      let count : length (lacking (held_pieces start old.seen) (take (length done + 1) all)) ≡ length (lacking (held_pieces start old.seen) (take (length done) all)) =
      ap (λ (l : List (List ℕ)). length (lacking (held_pieces start old.seen) l)) (ap (λ (k : ℕ). take k all) (let z : length done + 1 ≡ suc (length done) = omega arith in z) ∙ front_on all (length done) piece is)
      ∙ same_lacking (held_pieces start old.seen) (take (length done) all) piece (member_at slot (held start slot) piece refl has) in
      omega (arith, count, held_number digest_of now new d e slot piece digest taken has))
      (λ placed.
      let count = lacked_more piece is (λ t has. let had = taken.found t has in free_held (held now slot) had.0.what placed.lowest.free had.0.is_held) in
      omega (arith, count, new_number now new slot (length piece) digest placed)) taken.ways

  pub true_on : (new : PoolState) (e : Disk) (slot : ℕ) (piece digest : List ℕ) → Taken digest_of now new d e slot piece digest → slice_get all (length done) ≡ Some piece → StaysTrue digest_of start now old d all done → IsTruePool digest_of new e.seen → StaysTrue digest_of start new old e all (done ++ slot ∷ [])
  true_on new e slot piece digest taken is stays now_true = record {
    true_pool = now_true;
    number = omega (arith, number_on new e slot piece digest taken is, stays.number, ap (λ (k : ℕ). length (lacking (held_pieces start old.seen) (take k all))) (length-append done (slot ∷ [])));
  }

-- A pool that takes over what a ledger says, segment by segment and slot by slot.
use Rattle.std.proofs.Common.{◌≡◌, ◌≢◌, ◌+◌, ◌-◌, ◌<◌, ◌≤◌, ⊎_elim, ℕ, List, [], ◌∷◌, ◌++◌, length, get_or, take, drop, min, Some, None, true, false, refl, sym, ◌∙◌, ap, subst, append_assoc, arith}
use Rattle.std.specs.Prelude.{Bool, Option, IsTrue, ◌↔◌, ◌&&◌, nat_le, nat_lt, is_none}
use Rattle.std.proofs.lemmas.Bool.{and_left, and_parts, and_right, cases_eq, le-ltb, lt-ltb, not-true}
use Rattle.std.proofs.lemmas.Bool.Decides.{same_from_decides}
use Rattle.std.proofs.lemmas.List.{at_drop_more, take_more}
use Rattle.std.proofs.lemmas.List.Elements.{Contains-push_cases}
use Rattle.segment_pool.specs.Slots.{PoolState, Becomes, held, live_piece}
use Rattle.segment_pool.specs.declared.slot.Slot.{Slot}
use Rattle.copy_fragments.specs.Placings.{times}
use Rattle.pool_journal.specs.declared.segments.NewSegment.{NewSegment}
use Rattle.vault_ledger.specs.Following.{is_new}
use Rattle.vault_ledger.specs.Ledger.{added_fit, has_piece, has_slot, pieces_fit, slot_limit}
use Rattle.vault_ledger.specs.Pools.{HoldsLive, IsAdopted, live_slot}
use Rattle.vault_ledger.proofs.LiveSlots.{held_tells, piece_tells, slot_behind, times_behind, times_push}

-- New segments.

pub is_new_held : (known : List NewSegment) (named : List ℕ) (pool : PoolState) (s : NewSegment) → HoldsLive known named pool
    → is_new pool.size known s ≡ (nat_lt s.slot slot_limit && nat_le 1 s.length && nat_le s.length pool.size && is_none (held pool s.slot))
is_new_held known named pool s h = ap (λ (b : Bool). nat_lt s.slot slot_limit && nat_le 1 s.length && nat_le s.length pool.size && b) (sym (held_tells known named pool h s.slot))

-- one was adopted
pub adopted_one : (known : List NewSegment) (named : List ℕ) (old new : PoolState) (s : NewSegment) → HoldsLive known named old → held old s.slot ≡ None → Becomes old new s.slot (Some (live_piece s.length s.digest)) → HoldsLive (known ++ s ∷ []) named new
adopted_one known named old new s h free now = record {
  here = λ x among. ⊎_elim
      (λ before. now.elsewhere x.slot (λ same. absurd (let is : held old s.slot ≡ Some (live_slot x (times x.slot named)) = ap (λ (k : ℕ). held old k) (sym same) ∙ h.here x before in cc (is, free))) ∙ h.here x before)
      (λ is. subst (λ (y : NewSegment). held new y.slot ≡ Some (live_slot y (times y.slot named))) is (now.here ∙ ap (λ (k : ℕ). Some (live_slot s k)) (sym (h.only s.slot unknown))))
      (Contains-push_cases known s x among);
  others = λ slot none. let apart = slot_behind slot known s none in now.elsewhere slot apart.1 ∙ h.others slot apart.0;
  only = λ slot none. h.only slot (slot_behind slot known s none).0;
}
  where
    unknown : has_slot s.slot known ≡ false
    unknown = let tells = held_tells known named old h s.slot in not-true (has_slot s.slot known) (sym tells ∙ ap is_none free)

none_is : (o : Option Slot) → is_none o ≡ true → o ≡ None
none_is None is = refl
none_is (Some what) is = absurd (cc is)

-- one that fits the pool
pub adopted_fit : (known : List NewSegment) (named : List ℕ) (old new : PoolState) (s : NewSegment) (fits : Bool) → fits ≡ (nat_lt s.slot slot_limit && nat_le 1 s.length && nat_le s.length old.size && is_none (held old s.slot)) → fits ≡ true
    → Becomes old new s.slot (Some (live_piece s.length s.digest)) → HoldsLive known named old → IsAdopted (known ++ s ∷ []) named (is_new old.size known s) new true
adopted_fit known named old new s fits fits_is holds now h =
    let tests = sym fits_is ∙ holds in
    (is_new_held known named old s h ∙ tests, adopted_one known named old new s h (none_is (held old s.slot) (and_parts _ _ tests).1) now)

pub unfit_held : (known : List NewSegment) (named : List ℕ) (pool : PoolState) (s : NewSegment) (fits : Bool) → fits ≡ (nat_lt s.slot slot_limit && nat_le 1 s.length && nat_le s.length pool.size && is_none (held pool s.slot)) → fits ≡ false
    → HoldsLive known named pool → is_new pool.size known s ≡ false
unfit_held known named pool s fits fits_is fails h = is_new_held known named pool s h ∙ sym fits_is ∙ fails

-- the segments before a position were adopted
pub record AdoptedSoFar (size : ℕ) (known : List NewSegment) (named : List ℕ) (added : List NewSegment) (i : ℕ) (pool : PoolState) : Type 0 where
  pub holds : HoldsLive (known ++ take i added) named pool
  pub fits : added_fit size known added ≡ added_fit size (known ++ take i added) (drop i added)

-- Slots of pieces.

-- one was counted
pub named_one : (known : List NewSegment) (named : List ℕ) (old new : PoolState) (slot : ℕ) (what : Slot) → HoldsLive known named old → held old slot ≡ Some what → Becomes old new slot (Some (record what { count = what.count + 1 })) → HoldsLive known (named ++ slot ∷ []) new
named_one known named old new slot what h is now = record {
  here = λ x among. ⊎_elim
      (λ same.
      let one : what ≡ live_slot x (times x.slot named) = let e = ap (λ (k : ℕ). held old k) same ∙ is in let f = h.here x among in cc (e, f) in
      ap (λ (k : ℕ). held new k) same ∙ now.here ∙ ap (λ (w : Slot). Some (record w { count = w.count + 1 })) one ∙ ap (λ (k : ℕ). Some (live_slot x k)) (sym (subst (λ (k : ℕ). times x.slot (named ++ k ∷ []) ≡ times x.slot named + 1) same (times_push x.slot named))))
      (λ ne. now.elsewhere x.slot ne ∙ h.here x among ∙ ap (λ (k : ℕ). Some (live_slot x k)) (sym (times_behind x.slot slot named ne)))
      (cases_eq x.slot slot);
  others = λ t none. now.elsewhere t (other t none) ∙ h.others t none;
  only = λ t none. times_behind t slot named (other t none) ∙ h.only t none;
}
  where
    other : (t : ℕ) → has_slot t known ≡ false → t ≢ slot
    other t none same = absurd (let free : held old slot ≡ None = ap (λ (k : ℕ). held old k) (sym same) ∙ h.others t none in cc (free, is))

pub piece_is : (known : List NewSegment) (named : List ℕ) (pool : PoolState) (slot n : ℕ) (has : Bool) → IsTrue has ↔ ((what : Slot) × (held pool slot ≡ Some what) × (what.live ≡ true) × (what.length ≡ n)) → HoldsLive known named pool → has ≡ has_piece slot n known
piece_is known named pool slot n has tells h = same_from_decides has (has_piece slot n known) (tells.0, tells.1) (piece_tells known named pool h slot n)

-- one that is a piece's
pub named_fit : (known : List NewSegment) (named : List ℕ) (old new : PoolState) (slot n : ℕ) (has : Bool) → IsTrue has ↔ ((what : Slot) × (held old slot ≡ Some what) × (what.live ≡ true) × (what.length ≡ n)) → has ≡ true
    → ((what : Slot) → held old slot ≡ Some what → Becomes old new slot (Some (record what { count = what.count + 1 }))) → HoldsLive known named old → IsAdopted known (named ++ slot ∷ []) (has_piece slot n known) new true
named_fit known named old new slot n has tells holds raised h =
    let what = tells.0 holds in
    (sym (piece_is known named old slot n has tells h) ∙ holds, named_one known named old new slot what.0 h what.1 (raised what.0 what.1))

-- the slots before a position were counted, and so many bytes are left
pub record NamedSoFar (size : ℕ) (known : List NewSegment) (named : List ℕ) (n : ℕ) (slots : List ℕ) (i rest : ℕ) (pool : PoolState) : Type 0 where
  pub holds : HoldsLive known (named ++ take i slots) pool
  pub fits : pieces_fit size known n slots ≡ pieces_fit size known rest (drop i slots)

module _ (size : ℕ) (known : List NewSegment) (named : List ℕ) (n : ℕ) (slots : List ℕ) where
  module _ (i rest length' rest' : ℕ) (old new : PoolState) (lt : i < length slots) (length_is : length' ≡ min size rest) (rest_is : rest' ≡ rest - size) (far : NamedSoFar size known named n slots i rest old) where
    abbrev slot : ℕ
    slot = get_or slots i 0

    at_slot : pieces_fit size known n slots ≡ (nat_lt 0 rest && has_piece slot length' known && pieces_fit size known rest' (drop (i + 1) slots))
    at_slot = far.fits ∙ at_drop_more (pieces_fit size known rest) slots i 0 lt ∙ (λ j. nat_lt 0 rest && has_piece slot (sym length_is j) known && pieces_fit size known (sym rest_is j) (drop (i + 1) slots))

    pub next_named : 1 ≤ rest → IsAdopted known ((named ++ take i slots) ++ slot ∷ []) (has_piece slot length' known) new true → NamedSoFar size known named n slots (i + 1) rest' new
    next_named some done = record {
      holds = subst (λ (l : List ℕ). HoldsLive known l new) (append_assoc named (take i slots) (slot ∷ []) ∙ ap (λ (l : List ℕ). named ++ l) (sym (take_more slots i 0 lt))) done.1;
      fits = at_slot ∙ (λ j. lt-ltb 0 rest (omega (arith, some)) j && done.0 j && pieces_fit size known rest' (drop (i + 1) slots));
    }

    pub none_left : rest ≡ 0 → pieces_fit size known n slots ≡ false
    none_left none = at_slot ∙ and_left _ _ (and_left _ _ (le-ltb 0 rest (omega (arith, none))))

    pub unfit_slot : has_piece slot length' known ≡ false → pieces_fit size known n slots ≡ false
    unfit_slot unfit = at_slot ∙ and_left _ _ (and_right _ _ unfit)

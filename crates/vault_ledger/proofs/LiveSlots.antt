-- What a pool that holds a ledger's live slots tells of a slot, and how often a list names one.
use Rattle.std.proofs.Common.{◌≡◌, ◌≢◌, ◌+◌, ◌<◌, ◌^◌, ℕ, List, [], ◌∷◌, ◌++◌, length, Some, true, false, cond, refl, sym, ◌∙◌, ap, arith}
use Rattle.std.specs.Prelude.{Bool, ◌&&◌, ◌==◌, not, is_none, Contains}
use Rattle.std.proofs.lemmas.Bool.{eqb-true, eqb-false, eq-eqb, ne_eqb, or_parts, and_parts, and_from, cond-true, cond-false}
use Rattle.std.specs.Bool.{Decides}
use Rattle.std.proofs.lemmas.List.Folds.{Any-from_list_any, list_any-from_Any, list_any-append}
use Rattle.std.proofs.lemmas.List.Sums.{sum_by-cons, sum_by_push, count_by-le-length}
use Rattle.segment_pool.specs.Slots.{PoolState, count_of, held}
use Rattle.segment_pool.specs.declared.slot.Slot.{Slot}
use Rattle.copy_fragments.specs.Placings.{times}
use Rattle.pool_journal.specs.declared.segments.NewSegment.{NewSegment}
use Rattle.vault_ledger.specs.Following.{CountsFit, IsSamePool}
use Rattle.vault_ledger.specs.Ledger.{has_piece, has_slot}
use Rattle.vault_ledger.specs.Pools.{HoldsLive, live_slot}

-- Slots of segments.

-- one of the segments has this slot
pub found_slot : (slot : ℕ) (known : List NewSegment) → has_slot slot known ≡ true → (s : NewSegment) × Contains known s × (s.slot ≡ slot)
found_slot slot known there =
    let one = Any-from_list_any (λ (s : NewSegment). s.slot == slot) known there in
    (one.1, (one.0, one.2, one.3), eqb-true one.1.slot slot one.4)

pub slot_there : (known : List NewSegment) (s : NewSegment) → Contains known s → has_slot s.slot known ≡ true
slot_there known s among = list_any-from_Any (λ (r : NewSegment). r.slot == s.slot) known (among.0, s, among.1, among.2, eq-eqb s.slot s.slot refl)

-- a slot that none of some segments has is another than that of the last
pub slot_behind : (slot : ℕ) (known : List NewSegment) (s : NewSegment) → has_slot slot (known ++ s ∷ []) ≡ false → (has_slot slot known ≡ false) × (slot ≢ s.slot)
slot_behind slot known s none =
    let parts = or_parts (has_slot slot known) (has_slot slot (s ∷ [])) (sym (list_any-append (λ (r : NewSegment). r.slot == slot) known (s ∷ [])) ∙ none) in
    (parts.0, λ same. eqb-false s.slot slot (or_parts (s.slot == slot) false parts.1).0 (sym same))

-- How often a list names a slot.

pub times_push : (slot : ℕ) (slots : List ℕ) → times slot (slots ++ slot ∷ []) ≡ times slot slots + 1
times_push slot slots = sum_by_push (λ (s : ℕ). cond (s == slot) 1 0) slots slot ∙ ap (λ (k : ℕ). times slot slots + k) (cond-true {A = ℕ} (slot == slot) 1 0 (eq-eqb slot slot refl))

pub times_behind : (t slot : ℕ) (slots : List ℕ) → t ≢ slot → times t (slots ++ slot ∷ []) ≡ times t slots
times_behind t slot slots ne = omega (arith, sum_by_push (λ (s : ℕ). cond (s == t) 1 0) slots slot, cond-false {A = ℕ} (slot == t) 1 0 (ne_eqb slot t (λ same. ne (sym same))))

pub times_first : (slot : ℕ) (slots : List ℕ) → times slot (slot ∷ slots) ≡ times slot slots + 1
times_first slot slots = omega (arith, sum_by-cons (λ (s : ℕ). cond (s == slot) 1 0) slot slots, cond-true {A = ℕ} (slot == slot) 1 0 (eq-eqb slot slot refl))

pub times_past : (t slot : ℕ) (slots : List ℕ) → t ≢ slot → times t (slot ∷ slots) ≡ times t slots
times_past t slot slots ne = omega (arith, sum_by-cons (λ (s : ℕ). cond (s == t) 1 0) slot slots, cond-false {A = ℕ} (slot == t) 1 0 (ne_eqb slot t (λ same. ne (sym same))))

-- Slots of the pool.

pub same_pool : (a b c : PoolState) → IsSamePool a b → IsSamePool b c → IsSamePool a c
same_pool a b c first second = record { file = second.file ∙ first.file; size = second.size ∙ first.size; slots = second.slots ∙ first.slots }

module _ (known : List NewSegment) (named : List ℕ) (pool : PoolState) (h : HoldsLive known named pool) where
  -- a slot is held exactly where it is a segment's
  pub held_tells : (slot : ℕ) → is_none (held pool slot) ≡ not (has_slot slot known)
  held_tells slot = at (has_slot slot known) refl
    where
      at : (b : Bool) → has_slot slot known ≡ b → is_none (held pool slot) ≡ not b
      at true there = let found = found_slot slot known there in ap is_none (ap (λ (k : ℕ). held pool k) (sym found.2) ∙ h.here found.0 found.1)
      at false none = ap is_none (h.others slot none)

  -- a held slot is live, with the piece of a segment
  pub held_segment : (slot : ℕ) (what : Slot) → held pool slot ≡ Some what → (s : NewSegment) × Contains known s × (s.slot ≡ slot) × (what ≡ live_slot s (times slot named))
  held_segment slot what is = at (has_slot slot known) refl
    where
      at : (b : Bool) → has_slot slot known ≡ b → (s : NewSegment) × Contains known s × (s.slot ≡ slot) × (what ≡ live_slot s (times slot named))
      at true there =
          let found = found_slot slot known there in
          let here : held pool slot ≡ Some (live_slot found.0 (times slot named)) = (λ i. held pool (sym found.2 i)) ∙ h.here found.0 found.1 ∙ ap (λ (k : ℕ). Some (live_slot found.0 (times k named))) found.2 in
          (found.0, found.1, found.2, cc (is, here))
      at false none = absurd (let free = h.others slot none in cc (is, free))

  -- pieces are live segments' where slots are held so
  pub piece_tells : (slot n : ℕ) → Decides (has_piece slot n known) ((what : Slot) × (held pool slot ≡ Some what) × (what.live ≡ true) × (what.length ≡ n))
  piece_tells slot n = (
    λ there.
        let one = Any-from_list_any (λ (s : NewSegment). (s.slot == slot) && (s.length == n)) known there in
        let s = one.1 in
        let tests = and_parts (s.slot == slot) (s.length == n) one.4 in
        (live_slot s (times s.slot named), ap (λ (k : ℕ). held pool k) (sym (eqb-true s.slot slot tests.0)) ∙ h.here s (one.0, one.2, one.3), refl, eqb-true s.length n tests.1),
    λ has.
        let found = held_segment slot has.0 has.1 in
        let s = found.0 in
        list_any-from_Any (λ (r : NewSegment). (r.slot == slot) && (r.length == n)) known
        (found.1.0, s, found.1.1, found.1.2, and_from _ _ (eq-eqb s.slot slot found.2) (eq-eqb s.length n (sym (ap (λ (w : Slot). w.length) found.3) ∙ has.3))),
  )

  -- counts may be raised as often as slots may be named beside those that are
  pub counts_fit : (more : ℕ) → length named + more < 2 ^ 64 → CountsFit more pool
  counts_fit more few slot = at (has_slot slot known) refl
    where
      at : (b : Bool) → has_slot slot known ≡ b → count_of (held pool slot) + more < 2 ^ 64
      at true there =
          let found = found_slot slot known there in
          let count : count_of (held pool slot) ≡ times found.0.slot named = ap count_of (ap (λ (k : ℕ). held pool k) (sym found.2) ∙ h.here found.0 found.1) in
          omega (arith, few, count, count_by-le-length (λ (s : ℕ). s == found.0.slot) named)
      at false none = omega (arith, few, ap count_of (h.others slot none))

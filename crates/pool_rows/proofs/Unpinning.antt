-- How often slots are pinned once pieces were placed, or pins were taken away.
use Rattle.std.proofs.Common.{◌≡◌, ℕ, ◌+◌, ◌-◌, ◌≤◌, ⊎_elim, List, length, take, Some, None, true, false, sym, ◌∙◌, ap, arith}
use Rattle.std.specs.Prelude.{Bool, cond, ◌==◌, if◌then◌else◌, ◌||◌, nat_lt}
use Rattle.std.proofs.lemmas.Bool.{cases_eq, cases_lt}
use Rattle.std.proofs.lemmas.List.Sums.{sum_by-take-le}
use Rattle.segment_pool.specs.Pieces.{pieces}
use Rattle.segment_pool.specs.Slots.{Becomes, IsPinnedAtMost, PoolState, held, while_held}
use Rattle.segment_pool.specs.declared.slot.Slot.{Slot}
use Rattle.copy_fragments.specs.Placings.{PinnedEach, times}
use Rattle.copy_fragments.specs.PlacingSteps.{ArePinned, UnpinnedEach}
use Rattle.copy_fragments.proofs.Kept.{few_pieces}
use Rattle.copy_fragments.proofs.Pinning.{few_pins}

kept : (b : Bool) (x w : Slot) → (if b then Some x else None) ≡ Some w → x ≡ w
kept true x w is = cc (is)
kept false x w is = absurd (cc (is))

pub unpinned : (old new : PoolState) (slot most : ℕ) (what : Slot) → held old slot ≡ Some what → Becomes old new slot (while_held (record what { pins = what.pins - 1 })) → IsPinnedAtMost most old → IsPinnedAtMost most new
unpinned old new slot most what was becomes before s w is =
    let few : what.pins ≤ most = before slot what was in
    ⊎_elim
    (λ same.
    let here : while_held (record what { pins = what.pins - 1 }) ≡ Some w = sym becomes.here ∙ ap (held new) (sym same) ∙ is in
    let equal : record what { pins = what.pins - 1 } ≡ w = kept (what.live || nat_lt 0 (what.pins - 1)) (record what { pins = what.pins - 1 }) w here in
    let count : what.pins - 1 ≡ w.pins = ap (λ (x : Slot). x.pins) equal in
    omega arith)
    (λ other. before s w (sym (becomes.elsewhere s other) ∙ is)) (cases_eq s slot)

-- a pin of each slot of a list is taken away
pub unpinned_each : (old new : PoolState) (slots : List ℕ) (most : ℕ) → UnpinnedEach old new slots → ArePinned old slots → IsPinnedAtMost most old → IsPinnedAtMost most new
unpinned_each old new slots most back pinned before s w is = ⊎_elim
    (λ some.
    let had = pinned s some in
    let here : while_held (record had.0 { pins = had.0.pins - times s slots }) ≡ Some w = sym (back.less s had.0 had.1 some) ∙ is in
    let equal : record had.0 { pins = had.0.pins - times s slots } ≡ w = kept (had.0.live || nat_lt 0 (had.0.pins - times s slots)) (record had.0 { pins = had.0.pins - times s slots }) w here in
    omega (arith, ap (λ (x : Slot). x.pins) equal, before s had.0 had.1))
    (λ none. before s w (sym (back.others s (omega (arith, none))) ∙ is)) (cases_lt 0 (times s slots))

-- the front of a list is pinned where the list is
pub front_pinned : (pool : PoolState) (slots : List ℕ) (n : ℕ) → ArePinned pool slots → ArePinned pool (take n slots)
front_pinned pool slots n pinned s some =
    let fewer = sum_by-take-le (λ (t : ℕ). cond (t == s) 1 0) slots n in
    let had = pinned s (omega (arith, some, fewer)) in
    (had.0, had.1, omega (arith, had.2, fewer))

-- bytes were placed
pub placed_pins : (old new : PoolState) (size most : ℕ) (bytes placed : List ℕ) → 1 ≤ size → PinnedEach old new placed → length placed ≡ length (pieces size bytes) → IsPinnedAtMost most old → IsPinnedAtMost (most + length bytes) new
placed_pins old new size most bytes placed some each long few s what is = omega (arith, few_pins old new placed most each few s what is, long, few_pieces size bytes some)

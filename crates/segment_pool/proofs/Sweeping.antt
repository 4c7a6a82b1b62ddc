-- Where the lowest free slot may be, as the slots change.
use Rattle.std.proofs.Common.{◌≡◌, ℕ, ◌-◌, ◌<◌, List, [], ◌∷◌, length, set, Some, None, suc, refl, ◌∙◌, ap, subst, arith}
use Rattle.std.specs.Prelude.{Option, MatchOption, cond, is_some, IsSome}
use Rattle.std.specs.List.{count_by}
use Rattle.std.proofs.lemmas.List.Sums.{sum_by-cons}
use Rattle.segment_pool.specs.declared.slot.Slot.{Slot}
use Rattle.segment_pool.specs.Slots.{at_slot, one_if_held}
use Rattle.segment_pool.specs.Index.{bits_at, bits_of}
use Rattle.segment_pool.proofs.Changes.{count_set}
use Rattle.segment_pool.proofs.Links.{within_bits}

-- where each slot is held, so many are held
pub all_held : (t : List (Option Slot)) → ((u : ℕ) → u < length t → IsSome (at_slot t u)) → count_by is_some t ≡ length t
all_held [] held = refl
all_held (x ∷ xs) held =
    let first : ◌≡◌ {A = ℕ} (cond (is_some x) 1 0) 1 = ap (λ b. cond b 1 0) (held 0 (omega arith)) in
    let rest = all_held xs (λ u lt. held (suc u) (omega (arith, lt))) in
    omega (arith, first, rest, sum_by-cons (λ (o : Option Slot). cond (is_some o) 1 0) x xs)

held_bits : (x : Option Slot) (b : ℕ) → bits_at x ≡ Some b → one_if_held x ≡ 1
held_bits None b is = absurd (cc (is))
held_bits (Some w) b is = refl

-- one slot less is held
pub freed_count : (t v u : List (Option Slot)) (s b held : ℕ) → t ≡ v → bits_of v s ≡ Some b → u ≡ set t s None → held ≡ count_by is_some t → held - 1 ≡ count_by is_some u
freed_count t v u s b held same bits is count =
    let was : bits_of t s ≡ Some b = ap (λ (l : List (Option Slot)). bits_of l s) same ∙ bits in
    omega (arith, count_set t s None (within_bits t s b was), held_bits (at_slot t s) b was, ap (count_by is_some) is, count)

pub lowest_told : (w v : List (Option Slot)) (r : Option ℕ) → w ≡ v → MatchOption r ((u : ℕ) → u < length w → IsSome (at_slot w u)) (λ s. (s < length w) × (at_slot w s ≡ None) × ((t : ℕ) → t < s → IsSome (at_slot w t)))
    → MatchOption r (count_by is_some v ≡ length v) (λ s. (s < length v) × (at_slot v s ≡ None) × ((t : ℕ) → t < s → IsSome (at_slot v t)))
lowest_told w v None is held = subst (λ (l : List (Option Slot)). count_by is_some l ≡ length l) is (all_held w held)
lowest_told w v (Some s) is lowest = subst (λ (l : List (Option Slot)). (s < length l) × (at_slot l s ≡ None) × ((t : ℕ) → t < s → IsSome (at_slot l t))) is lowest

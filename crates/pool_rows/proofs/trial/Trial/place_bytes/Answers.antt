use Rattle.std.proofs.Common.{◌≡◌, ℕ, ◌+◌, ◌≤◌, ◌++◌, List, length, take, sym, ◌∙◌, ap, subst, arith, rules}
use Rattle.segment_pool.specs.Pieces.{CutBytes}
use Rattle.segment_pool.specs.Slots.{IsPinnedAtMost}
use Rattle.copy_fragments.specs.PlacingSteps.{ArePinned}
use Rattle.copy_fragments.proofs.Answered.{ok_there}
use Rattle.copy_fragments.proofs.Pinning.{are_pinned}
use Rattle.pool_rows.proofs.Unpinning.{front_pinned, placed_pins, unpinned_each}
use Rattle.pool_rows.proofs.trial.Trial.place_bytes.Goals as goal

pub unpin_each-requires : goal.unpin_each-requires
unpin_each-requires g c =
    let there = ok_there c.place.result c.in_default.not-Err c.place.ensures.pinned in
    let slots : c.deref.result.now ≡ there.0 = c.deref.ensures.value ∙ there.1 ∙ ap (λ (l : List ℕ). l ++ there.0) c.new-slots.ensures.items in
    front_pinned c.place.new.pool c.deref.result.now c.min-count.result (subst (λ (l : List ℕ). ArePinned c.place.new.pool l) (sym slots) (are_pinned c.args.self.now.pool c.place.new.pool there.0 there.2))

pub invariant_of-self-2 : goal.invariant_of-self-2
invariant_of-self-2 g c =
    let there = ok_there c.place.result c.in_default.not-Err c.place.ensures.pinned in
    let slots : c.deref.result.now ≡ there.0 = c.deref.ensures.value ∙ there.1 ∙ ap (λ (l : List ℕ). l ++ there.0) c.new-slots.ensures.items in
    let cut : c.in_ok-pieces.pieces ≡ record { bytes = c.args.bytes.now; size = 16 } = search rules in
    let size : c.in_ok-pieces.pieces.size ≡ 16 = ap (λ (p : CutBytes). p.size) cut in
    let pins : IsPinnedAtMost (c.args.self.now.placed + length c.in_ok-pieces.pieces.bytes) c.place.new.pool =
    placed_pins c.args.self.now.pool c.place.new.pool c.in_ok-pieces.pieces.size c.args.self.now.placed c.in_ok-pieces.pieces.bytes there.0 (omega (arith, size)) there.2 there.3 c.args.self.now.pins in
    record {
      size_is = c.unpin_each.ensures.size ∙ there.2.size ∙ c.args.self.now.size_is;
      pins = unpinned_each c.place.new.pool c.unpin_each.new.pool _ (c.args.self.now.placed + length c.args.bytes.now) c.unpin_each.ensures
          (front_pinned c.place.new.pool c.deref.result.now c.min-count.result (subst (λ (l : List ℕ). ArePinned c.place.new.pool l) (sym slots) (are_pinned c.args.self.now.pool c.place.new.pool there.0 there.2)))
          (subst (λ (l : List ℕ). IsPinnedAtMost (c.args.self.now.placed + length l) c.place.new.pool) (ap (λ (p : CutBytes). p.bytes) cut) pins);
    }

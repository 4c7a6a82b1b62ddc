use Rattle.std.proofs.Common.{List, sym, subst}
use Rattle.std.specs.Prelude.{Option}
use Rattle.segment_pool.specs.declared.slot.Slot.{Slot}
use Rattle.segment_pool.specs.Slots.{AreSound}
use Rattle.segment_pool.proofs.pool.Pool.lowest_free.Goals as goal

pub invariant_of-self : goal.invariant_of-self
invariant_of-self g c =
    let inv = c.self.invariant in
    (inv.0, inv.1, inv.2, subst (λ (l : List (Option Slot)). AreSound c.self.inside.size l) (sym c.lowest_free.ensures.same) inv.3)

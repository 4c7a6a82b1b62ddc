use Rattle.std.proofs.Common.{List, sym, subst}
use Rattle.std.specs.Prelude.{Option}
use Rattle.segment_pool.specs.declared.slot.Slot.{Slot}
use Rattle.segment_pool.specs.Slots.{AreSound}
use Rattle.segment_pool.proofs.Changes.{sound_grown}
use Rattle.segment_pool.proofs.pool.Pool.lengthen.Goals as goal

pub invariant_of-self : goal.invariant_of-self
invariant_of-self g c =
    let inv = c.self.invariant in
    (inv.0, inv.1, inv.2, subst (λ (l : List (Option Slot)). AreSound c.self.inside.size l) (sym c.in_err-grow.ensures.err) inv.3)

pub invariant_of-self-2 : goal.invariant_of-self-2
invariant_of-self-2 g c =
    let inv = c.self.invariant in
    (inv.0, inv.1, inv.2, subst (λ (l : List (Option Slot)). AreSound c.self.inside.size l) (sym c.in_ok-grow.ensures.ok) (sound_grown c.self.inside.size c.self.inside.table _ inv.3))

pub returns-in_err-grow-clause-sound : goal.returns-in_err-grow-clause-sound
returns-in_err-grow-clause-sound g c = subst (λ (l : List (Option Slot)). AreSound c.self.inside.size l) (sym c.in_err-grow.ensures.err) c.self.invariant.3

pub returns-clause-sound : goal.returns-clause-sound
returns-clause-sound g c = subst (λ (l : List (Option Slot)). AreSound c.self.inside.size l) (sym c.in_ok-grow.ensures.ok) (sound_grown c.self.inside.size c.self.inside.table _ c.self.invariant.3)

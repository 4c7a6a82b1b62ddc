use Rattle.std.proofs.Common.{◌≡◌, List, Some, sym, ◌∙◌, ap, subst, arith}
use Rattle.std.specs.Prelude.{Option}
use Rattle.segment_pool.specs.declared.slot.Slot.{Slot}
use Rattle.segment_pool.specs.Slots.{PoolState, AreSound, at_slot, held}
use Rattle.segment_pool.proofs.Changes.{sound_set, table_becomes, within_held}
use Rattle.segment_pool.proofs.pool.Pool.set.Goals as goal

pub invariant_of-self : goal.invariant_of-self
invariant_of-self g c =
    let t = c.self.inside.table in
    let inv = c.self.invariant in
    let was = c.requires.was in
    let is : at_slot t c.args.slot ≡ Some was.0 = ap (λ (p : PoolState). held p c.args.slot) c.self.view_is ∙ was.1 in
    let bounds = inv.3 c.args.slot was.0 is in (
      inv.0,
      inv.1,
      inv.2,
      subst (λ (l : List (Option Slot)). AreSound c.self.inside.size l) (sym c.change.ensures)
          (sound_set c.self.inside.size t c.args.slot c.args.what (within_held t c.args.slot was.0 is) (omega (arith, bounds.0, was.2)) (omega (arith, bounds.1, was.2)) c.requires.kept inv.3),
    )

pub returns : goal.returns
returns g c =
    let t = c.self.inside.table in
    let was = c.requires.was in
    let is : at_slot t c.args.slot ≡ Some was.0 = ap (λ (p : PoolState). held p c.args.slot) c.self.view_is ∙ was.1 in
    table_becomes _ _ _ t c.change.new.self _ c.args.slot (Some c.args.what) (within_held t c.args.slot was.0 is) c.self.view_is c.change.ensures

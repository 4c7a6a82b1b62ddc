use Rattle.std.proofs.Common.{◌≡◌, List, Some, None, sym, ◌∙◌, ap, subst}
use Rattle.std.specs.Prelude.{Option}
use Rattle.segment_pool.specs.declared.slot.Slot.{Slot}
use Rattle.segment_pool.specs.Slots.{PoolState, AreSound, at_slot, held}
use Rattle.segment_pool.proofs.Changes.{sound_freed, table_becomes, within_held}
use Rattle.segment_pool.proofs.pool.Pool.free.Goals as goal

pub invariant_of-self : goal.invariant_of-self
invariant_of-self g c =
    let t = c.self.inside.table in
    let inv = c.self.invariant in
    let is : at_slot t c.args.slot ≡ Some c.requires.0 = ap (λ (p : PoolState). held p c.args.slot) c.self.view_is ∙ c.requires.1 in
    (inv.0, inv.1, inv.2, subst (λ (l : List (Option Slot)). AreSound c.self.inside.size l) (sym c.free.ensures) (sound_freed c.self.inside.size t c.args.slot (within_held t c.args.slot c.requires.0 is) inv.3))

pub returns : goal.returns
returns g c =
    let t = c.self.inside.table in
    let is : at_slot t c.args.slot ≡ Some c.requires.0 = ap (λ (p : PoolState). held p c.args.slot) c.self.view_is ∙ c.requires.1 in
    table_becomes _ _ _ t c.free.new.self _ c.args.slot None (within_held t c.args.slot c.requires.0 is) c.self.view_is c.free.ensures

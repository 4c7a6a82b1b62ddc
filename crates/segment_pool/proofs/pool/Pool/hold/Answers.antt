use Rattle.std.proofs.Common.{◌<◌, ◌≤◌, List, length, Some, sym, subst}
use Rattle.std.specs.Prelude.{Option}
use Rattle.segment_pool.specs.declared.slot.Slot.{Slot}
use Rattle.segment_pool.specs.Slots.{PoolState, AreSound}
use Rattle.segment_pool.proofs.Changes.{sound_set, table_becomes}
use Rattle.segment_pool.proofs.pool.Pool.hold.Goals as goal

pub invariant_of-self : goal.invariant_of-self
invariant_of-self g c =
    let t = c.self.inside.table in
    let inv = c.self.invariant in
    let within : c.args.slot < length t = subst (λ (p : PoolState). c.args.slot < length p.table) (sym c.self.view_is) c.requires.within in
    let short : c.args.what.length ≤ c.self.inside.size = subst (λ (p : PoolState). c.args.what.length ≤ p.size) (sym c.self.view_is) c.requires.short in (
      inv.0,
      inv.1,
      inv.2,
      subst (λ (l : List (Option Slot)). AreSound c.self.inside.size l) (sym c.hold.ensures)
          (sound_set c.self.inside.size t c.args.slot c.args.what within c.requires.some short c.requires.kept inv.3),
    )

pub returns : goal.returns
returns g c =
    let t = c.self.inside.table in
    let within : c.args.slot < length t = subst (λ (p : PoolState). c.args.slot < length p.table) (sym c.self.view_is) c.requires.within in
    table_becomes _ _ _ t c.hold.new.self _ c.args.slot (Some c.args.what) within c.self.view_is c.hold.ensures

use Rattle.slp_tree.proofs.Common.{◌<◌, ℕ, length, refl, subst, ForSome}
use Rattle.std.specs.Prelude.{Option}
use Rattle.slp_tree.proofs.LifecycleLemmas.{latest_read, added_in_place}
use Rattle.slp_tree.proofs.lifecycles.Lifecycles.add_at.Goals as goal

pub add-requires : goal.add-requires
add-requires c =
    let at = rw (← c.self.view_is) at c.requires.place in
    let known = rw (← c.self.view_is) at c.requires.versions in
    let few = subst (λ (o : Option ℕ). ForSome o (λ latest. latest < 65535)) (latest_read c.self.inside.listed.items c.args.name.now c.args.at c.index_mut.result.now c.self.invariant.0 at c.index_mut.ensures.value) known in
    few (length c.index_mut.result.now.versions) refl

pub returns : goal.returns
returns c =
    let at = rw (← c.self.view_is) at c.requires.place in
    rw (← c.self.view_is) (added_in_place c.self.inside.listed.items c.args.name.now c.args.slp c.args.at c.index_mut.result.now c.add.new.self c.add.result c.self.invariant.0 at c.index_mut.ensures.value c.add.ensures.added c.add.ensures.unchanged)

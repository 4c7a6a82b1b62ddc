use Rattle.slp_tree.proofs.Common.{◌≡◌, ◌<◌, ◌∷◌, [], length, ◌∙◌, sym, ap, subst, arith, AreByName}
use Rattle.slp_tree.specs.Lifecycles.{lifecycle_name, with_further, lifecycle_named}
use Rattle.slp_tree.proofs.ListLemmas.{rising_put}
use Rattle.slp_tree.proofs.LifecycleLemmas.{inserted_is, first_added}
use Rattle.slp_tree.proofs.lifecycles.Lifecycles.insert_at.Goals as goal

pub invariant_of-self-2 : goal.invariant_of-self-2
invariant_of-self-2 c =
    let ls = c.self.inside.listed.items in
    let few : length c.insert.new.self.items < 4294967296 = omega (arith, c.in_ok-insert.ensures.len, ap length c.self.view_is, c.requires.names) in
    let lacks = rw (← c.self.view_is) at c.requires.place in
    let new : record { name = c.in_ok-new.new.name; versions = c.in_ok-new.new.versions } ≡ record { name = c.args.name.now; versions = c.args.slp ∷ [] } = c.in_ok-new.ensures ∙ (λ j. record { name = c.in_ok-copy.ensures j; versions = c.args.slp ∷ [] }) in
    let is = inserted_is ls c.insert.new.self.items c.args.name.now c.args.slp c.args.at _ lacks new c.in_ok-insert.ensures.items in
    (subst (AreByName lifecycle_name) (sym is) (rising_put lifecycle_name ls (with_further c.args.name.now c.args.slp (lifecycle_named c.args.name.now ls)) c.self.invariant.0), few)

pub returns : goal.returns
returns c =
    let ls = c.self.inside.listed.items in
    let lacks = rw (← c.self.view_is) at c.requires.place in
    let new : record { name = c.in_ok-new.new.name; versions = c.in_ok-new.new.versions } ≡ record { name = c.args.name.now; versions = c.args.slp ∷ [] } = c.in_ok-new.ensures ∙ (λ j. record { name = c.in_ok-copy.ensures j; versions = c.args.slp ∷ [] }) in
    let is = inserted_is ls c.insert.new.self.items c.args.name.now c.args.slp c.args.at _ lacks new c.in_ok-insert.ensures.items in
    rw (← c.self.view_is) (first_added ls c.insert.new.self.items c.args.name.now c.args.slp c.args.at lacks is)

use Rattle.slp_tree.proofs.Common.{◌∙◌, sym, subst, refl, AreByName}
use Rattle.slp_tree.proofs.ListLemmas.{without_at, without_lacking, rising_without, stands_as, lacks_as}
use Rattle.slp_tree.proofs.named.remove.Goals as goal

pub returns-in-Ok-clause-without : goal.returns-in-Ok-clause-without
returns-in-Ok-clause-without g c =
    c.remove.ensures.items
    ∙ sym (without_at g.T.Named.name_of c.args.list.now.items c.args.name.now c.in-Ok.at c.requires
    (stands_as g.T.Named.name_of c.args.list.now.items c.deref.result.now c.args.name.now c.args.name.now c.in-Ok.at c.deref.ensures.value refl c.in-Ok.ensures))

pub returns-in-Ok-clause-by_name : goal.returns-in-Ok-clause-by_name
returns-in-Ok-clause-by_name g c =
    subst (AreByName g.T.Named.name_of) (sym (returns-in-Ok-clause-without g c)) (rising_without g.T.Named.name_of c.args.list.now.items c.args.name.now c.requires)

pub returns-in_default-clause-without : goal.returns-in_default-clause-without
returns-in_default-clause-without g c =
    sym (without_lacking g.T.Named.name_of c.args.list.now.items c.args.name.now c.in_default.field-0
    (lacks_as g.T.Named.name_of c.args.list.now.items c.deref.result.now c.args.name.now c.args.name.now c.in_default.field-0 c.deref.ensures.value refl c.in_default.ensures))

use Rattle.slp_tree.proofs.Common.{◌∙◌, sym, subst, AreByName}
use Rattle.slp_tree.proofs.ListLemmas.{put_at, inserted_at, rising_put, stands_as, lacks_as}
use Rattle.slp_tree.proofs.named.put.Goals as goal

pub returns-in-Ok-clause-put : goal.returns-in-Ok-clause-put
returns-in-Ok-clause-put g c =
    sym (put_at g.T.Named.name_of c.args.list.now.items c.args.item c.in-Ok.at c.requires
    (stands_as g.T.Named.name_of c.args.list.now.items c.deref.result.now (g.T.Named.name_of c.args.item) c.name.result.now c.in-Ok.at c.deref.ensures.value c.name.ensures c.in-Ok.ensures))

pub returns-in-Ok-clause-by_name : goal.returns-in-Ok-clause-by_name
returns-in-Ok-clause-by_name g c =
    subst (AreByName g.T.Named.name_of) (sym (returns-in-Ok-clause-put g c)) (rising_put g.T.Named.name_of c.args.list.now.items c.args.item c.requires)

pub returns-in_ok-insert-in-Err-clause-put : goal.returns-in_ok-insert-in-Err-clause-put
returns-in_ok-insert-in-Err-clause-put g c =
    c.in_ok-insert-in-Err.ensures.items
    ∙ sym (inserted_at g.T.Named.name_of c.args.list.now.items c.args.item c.in-Err.at
    (lacks_as g.T.Named.name_of c.args.list.now.items c.deref.result.now (g.T.Named.name_of c.args.item) c.name.result.now c.in-Err.at c.deref.ensures.value c.name.ensures c.in-Err.ensures))

pub returns-in_ok-insert-in-Err-clause-by_name : goal.returns-in_ok-insert-in-Err-clause-by_name
returns-in_ok-insert-in-Err-clause-by_name g c =
    subst (AreByName g.T.Named.name_of) (sym (returns-in_ok-insert-in-Err-clause-put g c)) (rising_put g.T.Named.name_of c.args.list.now.items c.args.item c.requires)

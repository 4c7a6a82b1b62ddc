use Rattle.slp_tree.proofs.Common.{◌∙◌, sym, ap, Some}
use Rattle.slp_tree.proofs.ListLemmas.{named_at, unnamed_at}
use Rattle.slp_tree.proofs.named.find.Goals as goal

pub returns-in-Ok : goal.returns-in-Ok
returns-in-Ok g c =
    ap (λ (x : g.row.T.Denot). Some x) c.index-list-at.is
    ∙ sym (named_at g.T.Named.name_of c.args.list.now c.args.name.now c.in-Ok.at c.index-list-at.result c.requires c.in-Ok.ensures)

pub returns-in-Err : goal.returns-in-Err
returns-in-Err g c = sym (unnamed_at g.T.Named.name_of c.args.list.now c.args.name.now c.in-Err.field-0 c.in-Err.ensures)

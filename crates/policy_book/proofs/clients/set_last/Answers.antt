use Rattle.policy_book.proofs.Common.{sym, refl, client_name, changed_in_place, changed_lacking, stands_as, lacks_as}
use Rattle.policy_book.specs.Changes.{with_last}
use Rattle.policy_book.proofs.clients.set_last.Goals as goal

pub returns-in-Ok-clause-set : goal.returns-in-Ok-clause-set
returns-in-Ok-clause-set c =
    let items = c.args.clients.now.items in
    let name = c.args.client.now in
    changed_in_place client_name items name (with_last c.args.time) c.in-Ok.at c.index_mut.result.now (with_last c.args.time c.index_mut.result.now) c.requires
    (stands_as client_name items c.deref.result.now name name c.in-Ok.at c.deref.ensures.value refl c.in-Ok.ensures)
    c.index_mut.ensures.value refl

pub returns-in_default-clause-set : goal.returns-in_default-clause-set
returns-in_default-clause-set c =
    let items = c.args.clients.now.items in
    let name = c.args.client.now in
    sym (changed_lacking client_name items name (with_last c.args.time) c.in_default.field-0
    (lacks_as client_name items c.deref.result.now name name c.in_default.field-0 c.deref.ensures.value refl c.in_default.ensures))

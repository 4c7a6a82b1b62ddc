use Rattle.policy_book.proofs.Common.{◌∙◌, List, sym, ap, refl, Client, client_name, raised, last_raised, changed_in_place, changed_lacking, stands_as, lacks_as}
use Rattle.policy_book.proofs.BookLemmas.{seen}
use Rattle.policy_book.proofs.book.Book.raise_last.Goals as goal

pub returns-in-Ok : goal.returns-in-Ok
returns-in-Ok c =
    let items = c.self.inside.clients.items in
    let before : Client = c.index_mut-found.result.now in
    let after : Client = record { name = before.name; last = c.max-found.result } in
    ap (λ (clients : List Client). record (seen c.self.inside) { clients = clients })
    (changed_in_place client_name items c.args.client.now (raised c.args.time) c.in-Ok.at before after c.self.invariant.clients
    (stands_as client_name items c.deref.result.now c.args.client.now c.args.client.now c.in-Ok.at c.deref.ensures.value refl c.in-Ok.ensures)
    c.index_mut-found.ensures.value (λ j. record { name = before.name; last = c.max-found.ensures j }))
    ∙ ap (last_raised c.args.client.now c.args.time) c.self.view_is

pub returns-in_default : goal.returns-in_default
returns-in_default c =
    let items = c.self.inside.clients.items in
    sym c.self.view_is
    ∙ ap (λ (clients : List Client). record (seen c.self.inside) { clients = clients })
    (sym (changed_lacking client_name items c.args.client.now (raised c.args.time) c.in_default.field-0
    (lacks_as client_name items c.deref.result.now c.args.client.now c.args.client.now c.in_default.field-0 c.deref.ensures.value refl c.in_default.ensures)))
    ∙ ap (last_raised c.args.client.now c.args.time) c.self.view_is

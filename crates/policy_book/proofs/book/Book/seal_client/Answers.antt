use Rattle.policy_book.proofs.Common.{◌∙◌, List, ap, refl, Client, put, client_name, client_sealed, stands_as, lacks_as}
use Rattle.policy_book.proofs.BookLemmas.{seen}
use Rattle.policy_book.proofs.ClientLemmas.{sealed_at, sealed_new, client_lacks}
use Rattle.policy_book.proofs.book.Book.seal_client.Goals as goal

pub returns-in_err-copy-in-Err-clause-there : goal.returns-in_err-copy-in-Err-clause-there
returns-in_err-copy-in-Err-clause-there c =
    let lacks = client_lacks c.self.inside c.args.self.now c.deref.result.now c.args.client.now c.in-Err.field-0 c.self.view_is c.deref.ensures.value c.in-Err.ensures in
    λ there. absurd (cc (there, lacks))

pub returns-in_err-put-in-Err-clause-there : goal.returns-in_err-put-in-Err-clause-there
returns-in_err-put-in-Err-clause-there c =
    let lacks = client_lacks c.self.inside c.args.self.now c.deref.result.now c.args.client.now c.in-Err.field-0 c.self.view_is c.deref.ensures.value c.in-Err.ensures in
    λ there. absurd (cc (there, lacks))

pub returns-in-Ok-clause-sealed : goal.returns-in-Ok-clause-sealed
returns-in-Ok-clause-sealed c =
    let items = c.self.inside.clients.items in
    let name = c.args.client.now in
    let before : Client = c.index_mut-found.result.now in
    let after : Client = record { name = before.name; last = c.max-found.result } in
    ap (λ (clients : List Client). record (seen c.self.inside) { clients = clients })
    (sealed_at items name c.args.time c.in-Ok.at before after c.self.invariant.clients
    (stands_as client_name items c.deref.result.now name name c.in-Ok.at c.deref.ensures.value refl c.in-Ok.ensures)
    c.index_mut-found.ensures.value (λ j. record { name = before.name; last = c.max-found.ensures j }))
    ∙ ap (client_sealed name c.args.time) c.self.view_is

pub returns-in_ok-put-in-Err-clause-sealed : goal.returns-in_ok-put-in-Err-clause-sealed
returns-in_ok-put-in-Err-clause-sealed c =
    let items = c.self.inside.clients.items in
    let name = c.args.client.now in
    let lacks = lacks_as client_name items c.deref.result.now name name c.in-Err.field-0 c.deref.ensures.value refl c.in-Err.ensures in
    ap (λ (clients : List Client). record (seen c.self.inside) { clients = clients })
    (c.in_ok-put-in-Err.ensures.put ∙ (λ j. put client_name (record { name = c.in_ok-copy-in-Err.ensures j; last = c.args.time }) items) ∙ sealed_new items name c.args.time c.in-Err.field-0 lacks)
    ∙ ap (client_sealed name c.args.time) c.self.view_is

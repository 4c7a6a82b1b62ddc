use Rattle.policy_book.proofs.Common.{◌≡◌, ◌∙◌, [], ◌∷◌, codes}
use Rattle.policy_book.proofs.site_file.add_clients.Goals as goal

pub returns : goal.returns
returns c =
    let form : c.deref.result.now ≡ codes "client" ∷ codes "add" ∷ [] = c.deref.ensures.value ∙ c.in_ok-form.ensures in
    rw (c.in_ok-items_at.ensures) (rw form at c.add_tables.ensures)

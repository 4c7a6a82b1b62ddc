use Rattle.policy_book.proofs.Common.{◌≡◌, ◌∙◌, Some, codes, sym, ap, get_member, table, view, table_view}
use Rattle.toml.proofs.Views.{view-Table}
use Rattle.policy_book.proofs.site_file.add_zone.Goals as goal

pub returns-in-Some-Table : goal.returns-in-Some-Table
returns-in-Some-Table c =
    let members = c.in-Some-Table.members in
    let here : Some (table (table_view members)) ≡ get_member (codes "zone") (table_view c.args.file.now) =
    ap Some (sym (view-Table members) ∙ ap view (sym c.in-Some-Table.field-0-is)) ∙ c.in-Some-Table.ensures in
    rw (← here) (rw c.in-Some-Table.members-is at c.add_zone_itself.ensures)

use Rattle.policy_book.proofs.Common.{rules, table_view, joined}
use Rattle.policy_book.specs.SiteFile.{clients_of, selections_of, schedules_of}
use Rattle.policy_book.proofs.LineLemmas.{none_behind, none_before, adds_rest}
use Rattle.policy_book.proofs.site_file.add_parts_of.Goals as goal

pub returns-in_err-add_selections : goal.returns-in_err-add_selections
returns-in_err-add_selections c =
    let e = c.in_err-add_selections.field-0.0 in
    let members = table_view c.args.members.now in
    let policy = c.args.policy.now in
    let selections = selections_of members policy in
    let schedules = schedules_of members policy in
    let lacks = none_behind e (clients_of members policy) (joined selections schedules) (none_before e selections schedules c.in_err-add_selections.ensures) in
    search (rules, lacks)

pub returns : goal.returns
returns c = adds_rest _ _ _ _ _ _ c.in_ok-add_listed.ensures (adds_rest _ _ _ _ _ _ c.in_ok-add_selections.ensures c.add_schedules.ensures)

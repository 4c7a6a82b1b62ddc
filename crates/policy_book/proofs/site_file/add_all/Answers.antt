use Rattle.policy_book.proofs.Common.{rules, codes, get_member, table_view, joined, tables_at, zone_lines, unit_line, client_line, policy_lines}
use Rattle.policy_book.proofs.LineLemmas.{none_behind, none_before, adds_rest}
use Rattle.policy_book.proofs.site_file.add_all.Goals as goal

pub returns-in_err-add_units : goal.returns-in_err-add_units
returns-in_err-add_units c =
    let e = c.in_err-add_units.field-0.0 in
    let file = table_view c.args.file.now in
    let zone = zone_lines (get_member (codes "zone") file) in
    let units = tables_at (codes "unit") unit_line file in
    let rest = joined (tables_at (codes "client") client_line file) (tables_at (codes "policy") policy_lines file) in
    let lacks = none_behind e zone (joined units rest) (none_before e units rest c.in_err-add_units.ensures) in
    search (rules, lacks)

pub returns-in_err-add_clients : goal.returns-in_err-add_clients
returns-in_err-add_clients c =
    let e = c.in_err-add_clients.field-0.0 in
    let file = table_view c.args.file.now in
    let zone = zone_lines (get_member (codes "zone") file) in
    let units = tables_at (codes "unit") unit_line file in
    let clients = tables_at (codes "client") client_line file in
    let rest = tables_at (codes "policy") policy_lines file in
    let lacks = none_behind e zone (joined units (joined clients rest)) (none_behind e units (joined clients rest) (none_before e clients rest c.in_err-add_clients.ensures)) in
    search (rules, lacks)

pub returns : goal.returns
returns c =
    adds_rest _ _ _ _ _ _ c.in_ok-add_zone.ensures
    (adds_rest _ _ _ _ _ _ c.in_ok-add_units.ensures (adds_rest _ _ _ _ _ _ c.in_ok-add_clients.ensures c.add_policies.ensures))

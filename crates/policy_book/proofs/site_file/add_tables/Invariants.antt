use Rattle.policy_book.proofs.Common.{◌≡◌, Some, [], map, drop, joined, of_items, table_with, one, request_of, items_view}
use Rattle.policy_book.proofs.site_file.add_tables.Given as goal

-- the lines so far before those of the other items are the lines of them all
abbrev pub invariant-loop-item : goal.invariant-loop-item
invariant-loop-item l =
    joined (Some l.initial.lines.items) (of_items (table_with (λ members. one (request_of l.fn.form (map (λ k. k.now) l.fn.keys) [] members))) (items_view l.tables))
    ≡ joined (Some l.lines.items) (of_items (table_with (λ members. one (request_of l.fn.form (map (λ k. k.now) l.fn.keys) [] members))) (items_view (drop l.item-index l.tables)))

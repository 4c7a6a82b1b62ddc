use Rattle.policy_book.proofs.Common.{◌≡◌, Some, drop, joined, of_items, with_word, client_word, items_view}
use Rattle.policy_book.proofs.site_file.add_listed.Given as goal

-- the lines so far before those of the other items are the lines of them all
abbrev pub invariant-loop-item : goal.invariant-loop-item
invariant-loop-item l =
    joined (Some l.initial.lines.items) (of_items (with_word l.form.items client_word) (items_view l.clients))
    ≡ joined (Some l.lines.items) (of_items (with_word l.form.items client_word) (items_view (drop l.item-index l.clients)))

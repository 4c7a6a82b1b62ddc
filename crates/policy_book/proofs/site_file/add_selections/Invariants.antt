use Rattle.policy_book.proofs.Common.{◌≡◌, Some, drop, joined, of_items, with_word, path_word, items_view}
use Rattle.policy_book.proofs.site_file.add_selections.Given as goal

-- the lines so far before those of the other items are the lines of them all
abbrev pub invariant-loop-item : goal.invariant-loop-item
invariant-loop-item l =
    joined (Some l.initial.lines.items) (of_items (with_word l.form.items path_word) (items_view l.paths))
    ≡ joined (Some l.lines.items) (of_items (with_word l.form.items path_word) (items_view (drop l.item-index l.paths)))

use Rattle.slp_tree.proofs.Common.{rules, is_lt, answers_always, ranks_by, due_order}
use Rattle.slp_tree.specs.declared.due.Ranked.{Ranked}
use Rattle.slp_tree.proofs.DueLemmas.{due_order_total, due_sorted}
use Rattle.slp_tree.proofs.due.sort.Goals as goal

-- the closure compares by the order of due operations
pub returns : goal.returns
returns c =
    due_sorted c.args.ranked.now.items c.sort_by.new.self.items c.in_ok-sort_by.ensures.permutation
    (c.in_ok-sort_by.ensures.sorted (λ x y. is_lt (due_order x y)) (ranks_by due_order_total (λ (r : Ranked). r)) (answers_always _ _ _ (λ f a r g called. search rules)))

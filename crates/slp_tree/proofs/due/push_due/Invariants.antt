use Rattle.slp_tree.proofs.Common.{◌≡◌, ◌++◌, Some, due_of}
use Rattle.slp_tree.proofs.DueLemmas.{due_from}
use Rattle.slp_tree.proofs.due.push_due.Given as goal

abbrev pub invariant-loop-op : goal.invariant-loop-op
invariant-loop-op l = l.ranked.items ++ due_from l.image l.slp l.open_windows l.op ≡ l.initial.ranked.items ++ due_of l.image l.open_windows (Some l.slp)

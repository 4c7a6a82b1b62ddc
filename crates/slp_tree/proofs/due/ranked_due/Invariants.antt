use Rattle.slp_tree.proofs.Common.{◌≡◌, ◌++◌, length, drop, due_of_all}
use Rattle.slp_tree.proofs.DueLemmas.{count_states}
use Rattle.slp_tree.proofs.due.ranked_due.Given as goal

abbrev pub invariant-loop-image : goal.invariant-loop-image
invariant-loop-image l = record {
  collected : l.ranked.items ++ due_of_all (drop l.image-index l.images) l.lifecycles l.later ≡ due_of_all l.images l.lifecycles l.zone_open;
  left : count_states (drop l.image-index l.images) ≡ length l.later;
}

use Rattle.desk_rules.proofs.Common.{◌∙◌, ◌+◌, ℕ, ap}
use Rattle.desk_rules.proofs.DecisionLemmas.{lengths_more}
use Rattle.desk_rules.proofs.moments.total_length.Goals as goal

pub loop-id-preserved : goal.loop-id-preserved
loop-id-preserved c = lengths_more c.args.images.now c.args.ids.now c.loop-id.id-index c.loop-id.total _ c.id-item.result c.loop-id-test.true c.id-item.is c.loop-id.invariant (c.in_ok-total.ensures ∙ ap (λ (n : ℕ). c.loop-id.total + n) c.length_of.ensures)

use Rattle.desk_rules.proofs.Common.{◌≡◌, take, filter, flat_map, due_of_policy}
use Rattle.desk_rules.proofs.due_list.due_backups.Given as goal

abbrev pub invariant-loop-policy : goal.invariant-loop-policy
invariant-loop-policy l = l.lines.items ≡ flat_map (due_of_policy l.site.zone l.images l.fn.moment) (filter (λ p. p.active) (take l.policy-index l.policy-items))

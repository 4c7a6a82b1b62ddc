use Rattle.desk_rules.proofs.Common.{◌≡◌, ◌++◌, take, flat_map, due_of_client}
use Rattle.desk_rules.proofs.due_list.push_policy.Given as goal

abbrev pub invariant-loop-client : goal.invariant-loop-client
invariant-loop-client l = l.lines.items ≡ l.initial.lines.items ++ flat_map (due_of_client l.moment.zone.now l.moment.images l.moment.time l.policy) (take l.client-index l.client-items)

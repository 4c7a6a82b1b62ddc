use Rattle.desk_rules.proofs.Common.{◌≡◌, map, take, filter, option_map, is_due_for, foremost}
use Rattle.desk_rules.proofs.due_list.foremost_due.Given as goal

abbrev pub invariant-loop-schedule : goal.invariant-loop-schedule
invariant-loop-schedule l = option_map (λ s. s.now) l.found ≡ foremost (filter (is_due_for l.moment.zone.now l.moment.images l.moment.time l.policy l.client) (take l.schedule-index (map (λ s. s.now) l.schedules)))

use Rattle.desk_rules.proofs.Common.{◌≡◌, map, take, filter, may_be_due}
use Rattle.desk_rules.proofs.due_list.may_be_due.Given as goal

abbrev pub invariant-loop-schedule : goal.invariant-loop-schedule
invariant-loop-schedule l = map (λ s. s.now) l.found.items ≡ filter (may_be_due l.moment.zone.now l.moment.time) (take l.schedule-index l.schedules)

use Rattle.desk_rules.proofs.Common.{◌≡◌, ◌++◌, ◌∙◌, ap, arith, List, map, Bor, Schedule, due_of_client}
use Rattle.std.proofs.lemmas.Grind.{common_steps}
use Rattle.site_types.specs.declared.due.DueBackup.{DueBackup}
use Rattle.desk_rules.proofs.DueLemmas.{line_of_possible}
use Rattle.desk_rules.proofs.due_list.push_policy.Goals as goal

pub loop-client-preserved : goal.loop-client-preserved
loop-client-preserved c =
    let added : c.push_client.new.lines.items ≡ c.loop-client.lines.items ++ due_of_client c.args.moment.now.zone.now c.args.moment.now.images c.args.moment.now.time c.args.policy.now c.client-item.result =
    c.in_ok-push_client.ensures
    ∙ ap (λ (l : List DueBackup). c.loop-client.lines.items ++ l)
    (line_of_possible _ _ _ c.args.policy.now c.client-item.result c.name.result.now c.schedules.result.now _ c.name.ensures c.schedules.ensures.schedules (ap (map (λ (s : Bor Schedule). s.now)) c.deref.ensures.value ∙ c.in_ok-schedules.ensures)) in
    grind (arith, common_steps)

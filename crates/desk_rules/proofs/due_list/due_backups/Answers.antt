use Rattle.desk_rules.proofs.Common.{[], ◌++◌, ◌∙◌, ap, List, if◌then◌else◌, Policy, ImageRecord, due_of_policy}
use Rattle.desk_rules.proofs.ForemostLemmas.{one_added}
use Rattle.desk_rules.proofs.due_list.due_backups.Goals as goal

pub loop-policy-preserved : goal.loop-policy-preserved
loop-policy-preserved c =
    one_added (λ (p : Policy). p.active) (due_of_policy c.args.site.now.zone c.args.images.now c.args.moment) c.policies-policy-items.result.now c.loop-policy.policy-index c.policy-item.result c.loop-policy-test.true c.policy-item.is _ _ c.loop-policy.invariant
    (c.in_ok-push_if_active.ensures ∙ ap (λ (images : List ImageRecord). c.loop-policy.lines.items ++ (if c.policy-item.result.active then due_of_policy c.args.site.now.zone images c.args.moment c.policy-item.result else [])) c.in_ok-new.ensures)

use Rattle.desk_rules.proofs.Common.{rules, unwrap_or, adhoc, client_refusals, policy_asked, entries, asked_by, room_under, seen}
use Rattle.desk_rules.proofs.RefusalLemmas.{both_pass, passes_after, passes_as, passes_before}
use Rattle.desk_rules.proofs.SeenLemmas.{backup_seen}
use Rattle.desk_rules.proofs.backups.check_backup.Goals as goal

pub returns-in_err-policy-clause-passes : goal.returns-in_err-policy-clause-passes
returns-in_err-policy-clause-passes c =
    let s = seen c.args.site.now c.args.images.now in
    let asked = asked_by c.args.asked.now in
    let found = policy_asked asked s in
    passes_before (client_refusals asked found s) (room_under (unwrap_or found adhoc) asked (entries s.images) c.args.moment s) c.in_err-policy.field-0.0 c.from_residual.result c.in_err-policy.ensures.passes (search rules)

pub returns-in_err-schedule-clause-passes : goal.returns-in_err-schedule-clause-passes
returns-in_err-schedule-clause-passes c =
    let s = seen c.args.site.now c.args.images.now in
    let asked = asked_by c.args.asked.now in
    passes_as _ _ _ (backup_seen c.args.site.now c.args.images.now asked c.in_ok-policy.policy.now c.args.moment c.in_ok-policy.ensures.policy)
    (passes_after (client_refusals asked (policy_asked asked s) s) (room_under c.in_ok-policy.policy.now asked c.args.images.now c.args.moment s) c.in_err-schedule.field-0.0 c.from_residual-in_err-schedule.result c.in_ok-policy.ensures.passes.passed c.in_err-schedule.ensures.passes (search rules))

pub returns-clause-passes : goal.returns-clause-passes
returns-clause-passes c =
    let s = seen c.args.site.now c.args.images.now in
    let asked = asked_by c.args.asked.now in
    passes_as _ _ _ (backup_seen c.args.site.now c.args.images.now asked c.in_ok-policy.policy.now c.args.moment c.in_ok-policy.ensures.policy)
    (both_pass (client_refusals asked (policy_asked asked s) s) (room_under c.in_ok-policy.policy.now asked c.args.images.now c.args.moment s) (c.in_ok-policy.policy, c.in_ok-schedule.schedule) c.in_ok-policy.ensures.passes.passed c.in_ok-schedule.ensures.passes.passed)

use Rattle.desk_rules.proofs.Common.{◌∙◌, List, sym, ap, ImageRecord, backup_refusals, base_of, SealNow, asked_by, backup_body, backup_answer, seen}
use Rattle.restore_engine.specs.Chains.{reference}
use Rattle.desk_rules.proofs.RefusalLemmas.{refused_settles}
use Rattle.desk_rules.proofs.SeenLemmas.{entries_seen, made_settles}
use Rattle.desk_rules.proofs.backups.decide_backup.Goals as goal

pub returns-in_ok-backup_body-in-Ok : goal.returns-in_ok-backup_body-in-Ok
returns-in_ok-backup_body-in-Ok c =
    made_settles (asked_by c.args.asked.now) c.in-Ok.policy.now c.in-Ok.schedule.now c.args.length c.args.moment (seen c.args.site.now c.args.images.now) c.in_ok-id-in-Ok.id c.in_ok-base-in-Ok.base c.in_ok-id_answer-in-Ok.field-0 c.in_ok-backup_body-in-Ok.field-0
    c.in-Ok.ensures.policy c.in-Ok.ensures.schedule c.in-Ok.ensures.passes.passed c.in_ok-id-in-Ok.ensures
    (c.in_ok-base-in-Ok.ensures ∙ ap (λ (images : List ImageRecord). base_of (reference c.in-Ok.policy.now.name c.args.asked.now.client.now c.in-Ok.schedule.now.kind images)) (sym (entries_seen c.args.images.now)))
    c.in_ok-id_answer-in-Ok.ensures c.in_ok-backup_body-in-Ok.ensures

pub returns-in-Err : goal.returns-in-Err
returns-in-Err c =
    let s = seen c.args.site.now c.args.images.now in
    let asked = asked_by c.args.asked.now in
    refused_settles (backup_refusals asked c.args.moment s) c.in-Err.refusal (backup_answer asked c.args.moment s) (SealNow (backup_body asked c.args.length c.args.moment s)) c.refused.result c.in-Err.ensures.passes c.refused.ensures.answer c.refused.ensures.change

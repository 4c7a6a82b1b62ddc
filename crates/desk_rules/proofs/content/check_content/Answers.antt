use Rattle.desk_rules.proofs.Common.{◌∙◌, length, refl, rules}
use Rattle.desk_rules.proofs.ContentLemmas.{break_refusals, content_parts, copy_refusals}
use Rattle.desk_rules.proofs.RefusalLemmas.{both_pass, passes_after, passes_as, passes_before}
use Rattle.image_catalogue.specs.Images.{used}
use Rattle.desk_model.specs.Backups.{backup_unit, sealed_bytes, unit_at}
use Rattle.desk_rules.specs.Contents.{base_time}
use Rattle.desk_rules.proofs.content.check_content.Goals as goal

pub returns-in_err-content-clause-passes : goal.returns-in_err-content-clause-passes
returns-in_err-content-clause-passes c =
    let policy = c.in-Some.policy.now in
    let unit = unit_at (backup_unit policy c.args.site.now.book) c.args.site.now.book in
    let held = used unit.name c.args.images.now in
    let bytes = sealed_bytes policy (base_time c.args.base) c.args.payload.now in
    passes_as _ _ _ (content_parts c.args.site.now c.args.images.now c.args.name.now c.args.payload.now c.args.base policy unit held bytes c.in-Some.ensures refl refl refl)
    (passes_before (break_refusals policy c.args.payload.now) (copy_refusals unit held (length bytes)) c.in_err-content.field-0.0 c.from_residual.result c.in_err-content.ensures.passes (search rules))

pub returns-in_err-check_copy-clause-passes : goal.returns-in_err-check_copy-clause-passes
returns-in_err-check_copy-clause-passes c =
    let policy = c.in-Some.policy.now in
    passes_as _ _ _ (content_parts c.args.site.now c.args.images.now c.args.name.now c.args.payload.now c.args.base policy c.in_ok-unit.unit c.used.result c.bytes.result.now c.in-Some.ensures c.in_ok-unit.ensures c.used.ensures (c.bytes.ensures ∙ c.in_ok-content.ensures.bytes))
    (passes_after (break_refusals policy c.args.payload.now) (copy_refusals c.in_ok-unit.unit c.used.result (length c.bytes.result.now)) c.in_err-check_copy.field-0.0 c.from_residual-in_err-check_copy.result c.in_ok-content.ensures.passes.passed c.in_err-check_copy.ensures (search rules))

pub returns-clause-passes : goal.returns-clause-passes
returns-clause-passes c =
    let policy = c.in-Some.policy.now in
    passes_as _ _ _ (content_parts c.args.site.now c.args.images.now c.args.name.now c.args.payload.now c.args.base policy c.in_ok-unit.unit c.used.result c.bytes.result.now c.in-Some.ensures c.in_ok-unit.ensures c.used.ensures (c.bytes.ensures ∙ c.in_ok-content.ensures.bytes))
    (both_pass (break_refusals policy c.args.payload.now) (copy_refusals c.in_ok-unit.unit c.used.result (length c.bytes.result.now)) c.in_ok-content.content c.in_ok-content.ensures.passes.passed c.in_ok-check_copy.ensures.passed)

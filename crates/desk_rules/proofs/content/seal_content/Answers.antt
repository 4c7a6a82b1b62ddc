use Rattle.desk_rules.proofs.Common.{◌≡◌, ◌∙◌, ◌⊎◌, List, Bool, Answer, sym, ap, subst, Some, first_refusal}
use Rattle.site_types.specs.declared.answer.Answer.TheVariants.{OutOfMemory}
use Rattle.desk_model.specs.Backups.{sealed_bytes}
use Rattle.desk_rules.specs.Contents.{base_time, policy_of, content_under}
use Rattle.desk_rules.proofs.ContentLemmas.{bytes_same, shown_by, content_same}
use Rattle.desk_rules.proofs.content.seal_content.Goals as goal

pub returns-in-Ok-clause-content : goal.returns-in-Ok-clause-content
returns-in-Ok-clause-content c s asked size moment state none body_is =
    ap first_refusal (sym (content_same c.args.site.now c.args.images.now c.args.body.now c.args.payload.now s asked size moment state none body_is)
    ∙ (λ j. content_under (policy_of (sym c.policy.ensures j) c.args.site.now.book) (sym c.base.ensures j) c.args.payload.now c.args.site.now c.args.images.now))
    ∙ c.in-Ok.ensures.passes.passed

pub returns-in-Ok-clause-bytes : goal.returns-in-Ok-clause-bytes
returns-in-Ok-clause-bytes c s asked size moment state none body_is =
    c.in-Ok.ensures.bytes
    ∙ (λ j. sealed_bytes (policy_of (c.policy.ensures j) c.args.site.now.book) (base_time (c.base.ensures j)) c.args.payload.now)
    ∙ bytes_same c.args.site.now c.args.images.now c.args.body.now c.args.payload.now s asked size moment state none body_is

pub returns-in-Err-Answered-clause-content : goal.returns-in-Err-Answered-clause-content
returns-in-Err-Answered-clause-content c s asked size moment state none body_is =
    subst (λ (refusals : List (Bool × Answer)). (c.in-Err-Answered.answer ≡ OutOfMemory) ⊎ (first_refusal refusals ≡ Some c.in-Err-Answered.answer))
    ((λ j. content_under (policy_of (c.policy.ensures j) c.args.site.now.book) (c.base.ensures j) c.args.payload.now c.args.site.now c.args.images.now)
    ∙ content_same c.args.site.now c.args.images.now c.args.body.now c.args.payload.now s asked size moment state none body_is)
    (shown_by _ c.in-Err-Answered.field-0 c.in-Err-Answered.answer c.in-Err-Answered.field-0-is c.in-Err-Answered.ensures.passes)

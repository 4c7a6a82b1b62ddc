use Rattle.desk_rules.proofs.Common.{rules, refusals_of, use_refusals, seen}
use Rattle.desk_rules.proofs.RefusalLemmas.{answered, both_pass, passes_after, passes_before}
use Rattle.desk_rules.proofs.settings.stage.Goals as goal

pub returns-in_err-change-clause-passes : goal.returns-in_err-change-clause-passes
returns-in_err-change-clause-passes c =
    passes_before (answered (refusals_of c.args.request.now c.args.site.now.book)) (use_refusals c.args.request.now (seen c.args.site.now c.args.images.now)) _ _ c.in_err-change.ensures.passes (search rules)

pub returns-in_err-check_unused-clause-passes : goal.returns-in_err-check_unused-clause-passes
returns-in_err-check_unused-clause-passes c =
    passes_after (answered (refusals_of c.args.request.now c.args.site.now.book)) (use_refusals c.args.request.now (seen c.args.site.now c.args.images.now)) _ _ c.in_ok-change.ensures.passes.passed (c.in_err-check_unused.ensures c.args.site.now) (search rules)

pub returns-clause-passes : goal.returns-clause-passes
returns-clause-passes c =
    both_pass (answered (refusals_of c.args.request.now c.args.site.now.book)) (use_refusals c.args.request.now (seen c.args.site.now c.args.images.now)) _ c.in_ok-change.ensures.passes.passed ((c.in_ok-check_unused.ensures c.args.site.now).passed)

use Rattle.desk_rules.proofs.Common.{refusals_of}
use Rattle.desk_rules.proofs.RefusalLemmas.{book_refuses}
use Rattle.desk_rules.proofs.settings.stage_change.Goals as goal

pub returns-in_err-check-in-None-clause-passes : goal.returns-in_err-check-in-None-clause-passes
returns-in_err-check-in-None-clause-passes c =
    book_refuses (refusals_of c.args.request.now c.args.site.now.book) c.in_err-check-in-None.field-0.0 c.from_residual-in_err-check-in-None.result c.in_err-check-in-None.ensures.allows c.from_residual-in_err-check-in-None.ensures.1

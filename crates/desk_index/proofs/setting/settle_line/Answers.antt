use Rattle.std.proofs.Common.{sym, ◌∙◌}
use Rattle.desk_index.proofs.LineLemmas.{line_settled, no_setting}
use Rattle.desk_index.proofs.setting.settle_line.Goals as goal

pub returns-in_default : goal.returns-in_default
returns-in_default c l is = no_setting l.outline c.args.line.now (sym c.in_ok-request.ensures.request ∙ c.in_default.is)

pub returns : goal.returns
returns c l is =
    line_settled l c.args.line.now c.in-Some.request _ _ c.args.index.now c.set.new.self (sym c.in_ok-request.ensures.request ∙ c.in-Some.is) c.is_none.ensures (c.in_ok-set.ensures.set l is)

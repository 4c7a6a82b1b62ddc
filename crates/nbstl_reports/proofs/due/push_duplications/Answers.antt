use Rattle.std.proofs.Common.{rules}
use Rattle.nbstl_reports.specs.Fields.{StartsWith}
use Rattle.nbstl_reports.proofs.LineLemmas.{starts_before}
use Rattle.nbstl_reports.proofs.due.push_duplications.Goals as goal

pub returns-in_err-push_duplication-clause-begun : goal.returns-in_err-push_duplication-clause-begun
returns-in_err-push_duplication-clause-begun c =
    let begun : StartsWith c.args.out.now.items c.push_duplication.new.out.items = starts_before _ _ _ _ c.loop-due.invariant c.in_err-push_duplication.ensures.begun in
    search rules

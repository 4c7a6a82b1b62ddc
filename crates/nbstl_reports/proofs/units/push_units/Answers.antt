use Rattle.std.proofs.Common.{rules}
use Rattle.nbstl_reports.specs.Fields.{StartsWith}
use Rattle.nbstl_reports.proofs.LineLemmas.{starts_before}
use Rattle.nbstl_reports.proofs.units.push_units.Goals as goal

pub returns-in_err-push_unit-clause-begun : goal.returns-in_err-push_unit-clause-begun
returns-in_err-push_unit-clause-begun c =
    let begun : StartsWith c.args.out.now.items c.push_unit.new.out.items = starts_before _ _ _ _ c.loop-unit.invariant c.in_err-push_unit.ensures.begun in
    search rules

use Rattle.nbstl_reports.specs.ImageLines.{listed}
use Rattle.nbstl_reports.specs.OperationLines.{operation_lines}
use Rattle.nbstl_reports.proofs.LineLemmas.{whole_run}
use Rattle.nbstl_reports.proofs.operations.operation_lines.Goals as goal

pub returns-clause-written : goal.returns-clause-written
returns-clause-written g c =
    whole_run _ _ (λ items. operation_lines c.args.lifecycles.now (listed items)) c.args.out.now.items c.push_operations-written.new.out.items c.whole_or_none.new.out.items c.push_operations-written.result c.whole_or_none.result c.whole_or_none.ensures.same c.whole_or_none.ensures.whole c.push_operations-written.ensures.written

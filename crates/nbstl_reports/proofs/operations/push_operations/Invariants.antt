use Rattle.std.proofs.Common.{◌≡◌, ◌++◌}
use Rattle.nbstl_reports.specs.ImageLines.{listed}
use Rattle.nbstl_reports.specs.OperationLines.{operation_lines}
use Rattle.nbstl_reports.proofs.operations.push_operations.Given as goal

abbrev pub invariant-loop-image : goal.invariant-loop-image
invariant-loop-image g l = l.out.items ≡ l.fn.out.items ++ operation_lines l.lifecycles (listed l.yielded)

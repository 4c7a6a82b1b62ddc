use Rattle.std.proofs.Common.{◌≡◌, ◌++◌, Some, take, map}
use Rattle.nbstl_reports.specs.Lines.{lines}
use Rattle.nbstl_reports.specs.OperationLines.{operation_fields, operations_of}
use Rattle.nbstl_reports.proofs.operations.push_version.Given as goal

abbrev pub invariant-loop-op : goal.invariant-loop-op
invariant-loop-op l = l.out.items ≡ l.fn.out.items ++ lines (map (operation_fields l.image) (take l.op (operations_of l.image.states (Some l.version))))

use Rattle.std.proofs.Common.{◌≡◌, ◌++◌, take, map}
use Rattle.nbstl_reports.specs.Lines.{lines}
use Rattle.nbstl_reports.specs.DueLines.{duplicate_fields}
use Rattle.nbstl_reports.proofs.due.push_duplications.Given as goal

abbrev pub invariant-loop-due : goal.invariant-loop-due
invariant-loop-due l = l.out.items ≡ l.fn.out.items ++ lines (map duplicate_fields (take l.due-index l.operations))

use Rattle.std.proofs.Common.{◌≡◌, ◌++◌, take, map}
use Rattle.nbstl_reports.specs.Lines.{lines}
use Rattle.nbstl_reports.specs.DueLines.{backup_fields}
use Rattle.nbstl_reports.proofs.due.push_backups.Given as goal

abbrev pub invariant-loop-due : goal.invariant-loop-due
invariant-loop-due l = l.out.items ≡ l.fn.out.items ++ lines (map backup_fields (take l.due-index l.backups))

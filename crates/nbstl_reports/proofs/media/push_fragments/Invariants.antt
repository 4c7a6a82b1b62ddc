use Rattle.std.proofs.Common.{◌≡◌, ◌++◌, map}
use Rattle.std.specs.List.{range_with_len}
use Rattle.nbstl_reports.specs.Lines.{lines}
use Rattle.nbstl_reports.specs.MediaLines.{fragment_fields}
use Rattle.nbstl_reports.proofs.media.push_fragments.Given as goal

abbrev pub invariant-loop-before : goal.invariant-loop-before
invariant-loop-before l = l.out.items ≡ l.fn.out.items ++ lines (map (fragment_fields l.image l.copy l.size) (range_with_len 0 l.before))

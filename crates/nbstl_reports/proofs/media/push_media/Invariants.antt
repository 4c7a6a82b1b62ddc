use Rattle.std.proofs.Common.{◌≡◌, ◌++◌, take}
use Rattle.std.specs.List.{flat_map}
use Rattle.nbstl_reports.specs.Lines.{lines}
use Rattle.nbstl_reports.specs.MediaLines.{fragments_of, unit_named}
use Rattle.nbstl_reports.proofs.media.push_media.Given as goal

abbrev pub invariant-loop-copy : goal.invariant-loop-copy
invariant-loop-copy l = l.out.items ≡ l.fn.out.items ++ lines (flat_map (λ copy. fragments_of l.image copy (unit_named copy.unit l.units)) (take l.copy-index l.image.copies))

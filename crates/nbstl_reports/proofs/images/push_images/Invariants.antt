use Rattle.std.proofs.Common.{◌≡◌, ◌++◌}
use Rattle.nbstl_reports.specs.ImageLines.{image_lines, listed}
use Rattle.nbstl_reports.proofs.images.push_images.Given as goal

abbrev pub invariant-loop-image : goal.invariant-loop-image
invariant-loop-image g l = l.out.items ≡ l.fn.out.items ++ image_lines (listed l.yielded)

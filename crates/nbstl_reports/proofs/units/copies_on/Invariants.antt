use Rattle.std.proofs.Common.{◌≡◌, ◌+◌}
use Rattle.nbstl_reports.specs.UnitLines.{copies_on}
use Rattle.nbstl_reports.proofs.units.copies_on.Given as goal

-- those so far and those of the images that are left
abbrev pub invariant-loop-image : goal.invariant-loop-image
invariant-loop-image l = l.count + copies_on l.unit l.image-iterator ≡ copies_on l.unit l.images

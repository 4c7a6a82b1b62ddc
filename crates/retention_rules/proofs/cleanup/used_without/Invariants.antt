use Rattle.std.proofs.Common.{◌≡◌, ◌-◌, take}
use Rattle.image_catalogue.specs.Images.{used}
use Rattle.retention_rules.specs.Cleanup.{bytes_on_unit}
use Rattle.retention_rules.proofs.cleanup.used_without.Given as goal

abbrev pub invariant-loop-kept : goal.invariant-loop-kept
invariant-loop-kept l = l.left ≡ used l.unit l.images - bytes_on_unit l.unit (take l.kept-index l.gone)

use Rattle.std.proofs.Common.{◌≡◌, ◌++◌, take}
use Rattle.nbstl_reports.specs.UnitLines.{unit_lines}
use Rattle.nbstl_reports.proofs.units.push_units.Given as goal

abbrev pub invariant-loop-unit : goal.invariant-loop-unit
invariant-loop-unit l = l.out.items ≡ l.fn.out.items ++ unit_lines (take l.unit-index l.units) l.images

use Rattle.std.proofs.Common.{◌≡◌, ◌++◌, map}
use Rattle.nbstl_reports.specs.Lines.{lines}
use Rattle.nbstl_reports.specs.UnitLines.{stats_fields}
use Rattle.nbstl_reports.proofs.units.push_stats.Given as goal

abbrev pub invariant-loop-unit : goal.invariant-loop-unit
invariant-loop-unit l = l.out.items ≡ l.fn.out.items ++ lines (map (stats_fields l.images) (map (λ p. (p.0.now, p.1.now)) l.yielded))

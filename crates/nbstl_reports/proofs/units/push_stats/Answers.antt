use Rattle.std.proofs.Common.{◌∙◌, ◌++◌, rules, ap, List, map}
use Rattle.nbstl_reports.specs.Fields.{StartsWith}
use Rattle.nbstl_reports.proofs.LineLemmas.{starts_before}
use Rattle.std.proofs.lemmas.Iterator.{YieldsList-from_slice, YieldsList-from_zip}
use Rattle.std.proofs.lemmas.Iterator.Consumers.{YieldsList-end}
use Rattle.site_types.specs.declared.unit.Unit.{Unit as StorageUnit}
use Rattle.nbstl_reports.specs.declared.units.StoredSize.{StoredSize}
use Rattle.nbstl_reports.specs.Lines.{lines}
use Rattle.nbstl_reports.specs.UnitLines.{stats_fields}
use Rattle.nbstl_reports.proofs.units.push_stats.Goals as goal

pub returns-in_err-push_unit_stats-clause-begun : goal.returns-in_err-push_unit_stats-clause-begun
returns-in_err-push_unit_stats-clause-begun c =
    let begun : StartsWith c.args.out.now.items c.push_unit_stats.new.out.items = starts_before _ _ _ _ c.loop-unit.invariant c.in_err-push_unit_stats.ensures.begun in
    search rules

-- the pairs that the loop was given are those of the two lists
pub returns-clause-written : goal.returns-clause-written
returns-clause-written c =
    let all = YieldsList-end (YieldsList-from_zip (YieldsList-from_slice c.args.units.now cc) (YieldsList-from_slice c.args.stored.now cc)) c.loop-unit.yielded c.loop-unit.unit-iterator c.loop-unit.yielded_by c.next.result c.next.new.self c.in-None.is c.next.ensures.steps in
    c.loop-unit.invariant ∙ ap (λ (entries : List (StorageUnit × StoredSize)). c.args.out.now.items ++ lines (map (stats_fields c.args.images.now) entries)) all.0

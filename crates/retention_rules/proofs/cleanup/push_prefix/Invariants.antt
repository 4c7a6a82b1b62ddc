use Rattle.std.proofs.Common.{◌≡◌, ◌++◌, drop}
use Rattle.std.specs.Prelude.{filter}
use Rattle.retention_rules.specs.Cleanup.{enough_of, is_on}
use Rattle.retention_rules.proofs.cleanup.push_prefix.Given as goal

abbrev pub invariant-loop-kept : goal.invariant-loop-kept
invariant-loop-kept l =
    l.gone.items ++ enough_of l.unit l.left (filter (is_on l.unit.name) (drop l.kept-index l.candidates)) ≡ l.fn.gone.items ++ enough_of l.unit l.used (filter (is_on l.unit.name) l.candidates)

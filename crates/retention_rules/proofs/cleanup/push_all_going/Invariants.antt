use Rattle.std.proofs.Common.{◌≡◌, drop}
use Rattle.retention_rules.specs.Cleanup.{gone_after}
use Rattle.retention_rules.proofs.cleanup.push_all_going.Given as goal

abbrev pub invariant-loop-unit : goal.invariant-loop-unit
invariant-loop-unit l = gone_after l.images l.candidates (drop l.unit-index l.units) l.gone.items ≡ gone_after l.images l.candidates l.units l.fn.gone.items

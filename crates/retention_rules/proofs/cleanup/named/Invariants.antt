use Rattle.std.proofs.Common.{◌≡◌, take, map}
use Rattle.retention_rules.specs.Cleanup.{expired_of}
use Rattle.retention_rules.proofs.cleanup.named.Given as goal

abbrev pub invariant-loop-kept : goal.invariant-loop-kept
invariant-loop-kept l = l.expired.items ≡ map expired_of (take l.kept-index l.gone)

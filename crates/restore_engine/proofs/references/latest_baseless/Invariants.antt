use Rattle.std.proofs.Common.{◌≡◌}
use Rattle.restore_engine.specs.Chains.{latest_baseless}
use Rattle.restore_engine.proofs.references.latest_baseless.Given as goal

abbrev pub invariant-loop-image : goal.invariant-loop-image
invariant-loop-image l = latest_baseless l.policy l.image-iterator ≡ latest_baseless l.policy l.fn.images

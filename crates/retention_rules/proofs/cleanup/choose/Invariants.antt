use Rattle.std.proofs.Common.{◌≡◌, ◌++◌}
use Rattle.std.specs.Prelude.{filter}
use Rattle.retention_rules.specs.Cleanup.{kept, goes_anyway, is_candidate}
use Rattle.retention_rules.proofs.cleanup.choose.Given as goal

abbrev pub invariant-loop-image : goal.invariant-loop-image
invariant-loop-image l = record {
  gone : l.choices.gone.items ++ filter (goes_anyway l.lifecycles l.moment) (kept l.image-iterator) ≡ filter (goes_anyway l.lifecycles l.moment) (kept l.images);
  candidates : l.choices.candidates.items ++ filter (is_candidate l.lifecycles l.moment) (kept l.image-iterator) ≡ filter (is_candidate l.lifecycles l.moment) (kept l.images);
}

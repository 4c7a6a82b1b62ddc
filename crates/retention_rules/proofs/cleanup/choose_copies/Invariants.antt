use Rattle.std.proofs.Common.{◌≡◌, ◌++◌, take}
use Rattle.std.specs.Prelude.{filter, map}
use Rattle.retention_rules.specs.Cleanup.{with_image, goes_under, is_candidate_under}
use Rattle.retention_rules.proofs.cleanup.choose_copies.Given as goal

abbrev pub invariant-loop-copy : goal.invariant-loop-copy
invariant-loop-copy l = record {
  gone : l.choices.gone.items ≡ l.fn.choices.gone.items ++ filter (goes_under l.slp l.moment) (map (with_image l.image) (take l.copy-index l.image.copies));
  candidates : l.choices.candidates.items ≡ l.fn.choices.candidates.items ++ filter (is_candidate_under l.slp l.moment) (map (with_image l.image) (take l.copy-index l.image.copies));
}

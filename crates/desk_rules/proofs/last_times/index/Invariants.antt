use Rattle.desk_rules.proofs.Common.{take}
use Rattle.desk_rules.specs.LastTimes.{IsIndex}
use Rattle.desk_rules.proofs.last_times.index.Given as goal

abbrev pub invariant-loop-image : goal.invariant-loop-image
invariant-loop-image l = IsIndex l.times (take l.image-index l.images)

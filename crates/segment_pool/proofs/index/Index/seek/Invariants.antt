use Rattle.std.proofs.Common.{◌<◌}
use Rattle.segment_pool.specs.Index.{IsPlaceOf, bound_of}
use Rattle.segment_pool.proofs.index.Index.seek.Given as goal

abbrev pub invariant-loop-place : goal.invariant-loop-place
invariant-loop-place l = record {
  at_place : IsPlaceOf l.self.slots.items l.bits l.place;
  past : l.slot < bound_of l.place;
}

abbrev pub decreases-loop-place : goal.decreases-loop-place
decreases-loop-place l = bound_of l.place

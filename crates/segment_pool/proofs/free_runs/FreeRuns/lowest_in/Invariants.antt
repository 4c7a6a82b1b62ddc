use Rattle.std.proofs.Common.{◌-◌, ◌+◌, ◌*◌, ◌<◌, ◌≤◌, ◌^◌, ℕ, IsSome}
use Rattle.segment_pool.specs.Slots.{at_slot}
use Rattle.segment_pool.proofs.free_runs.FreeRuns.lowest_in.Given as goal

abbrev pub invariant-loop-slot : goal.invariant-loop-slot
invariant-loop-slot l = record {
  low : l.run * 4096 ≤ l.slot;
  fits : l.slot < 2 ^ 32;
  swept : (u : ℕ) → l.run * 4096 ≤ u → u < l.slot → u < (l.run + 1) * 4096 → IsSome (at_slot l.slots u);
}

abbrev pub decreases-loop-slot : goal.decreases-loop-slot
decreases-loop-slot l = l.end - l.slot

use Rattle.std.proofs.Common.{◌*◌, ◌<◌, ℕ, length, IsSome}
use Rattle.segment_pool.specs.Slots.{at_slot}
use Rattle.segment_pool.specs.Free.{Sweeps}
use Rattle.segment_pool.proofs.free_runs.FreeRuns.lowest.Given as goal

abbrev pub invariant-loop-run : goal.invariant-loop-run
invariant-loop-run l = record {
  sweeps : Sweeps l.slots l.self.from.items;
  held : (u : ℕ) → u < l.run * 4096 → u < length l.slots → IsSome (at_slot l.slots u);
}

use Rattle.std.proofs.Common.{◌≡◌, ◌-◌, ◌<◌, ◌≤◌, ℕ, length, Some}
use Rattle.std.specs.Prelude.{slice_get}
use Rattle.segment_pool.specs.Slots.{held}
use Rattle.segment_pool.specs.declared.slot.Slot.{Slot}
use Rattle.copy_fragments.specs.Copies.{piece_length}
use Rattle.copy_fragments.proofs.copy_map.CopyMap.is_held.Given as goal

abbrev pub invariant-loop-index : goal.invariant-loop-index
invariant-loop-index g l = record {
  within : l.index ≤ length l.self.slots;
  so_far : (k slot : ℕ) → k < l.index → slice_get l.self.slots k ≡ Some slot → (what : Slot) × (held l.pool slot ≡ Some what) × (what.length ≡ piece_length l.self k);
}

abbrev pub decreases-loop-index : goal.decreases-loop-index
decreases-loop-index g l = length l.self.slots - l.index

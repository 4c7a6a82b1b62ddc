-- Where the lowest free slot may be.
use Rattle.std.specs.Prelude.{ℕ, ◌/◌, ◌<◌, List, Option, IsSome, slice_index}
use Rattle.segment_pool.specs.declared.slot.Slot.{Slot}
use Rattle.segment_pool.specs.Slots.{at_slot}

-- in each run of 4,096 slots all before this one are held
abbrev pub Sweeps : List (Option Slot) → List ℕ → Type 0
Sweeps table from = (slot : ℕ) → slot < slice_index from (slot / 4096) → IsSome (at_slot table slot)

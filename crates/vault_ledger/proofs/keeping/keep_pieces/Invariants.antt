use Rattle.std.proofs.Common.{◌+◌, ◌-◌, ◌≤◌, ℕ, List, drop, length, take, vec_len}
use Rattle.std.specs.Prelude.{vec_capacity}
use Rattle.segment_pool.specs.Slots.{PoolState}
use Rattle.copy_fragments.specs.PlacingSteps.{ArePinned}
use Rattle.pool_journal.specs.declared.segments.NewSegment.{NewSegment}
use Rattle.vault_ledger.specs.Following.{CountsFit, IsSamePool}
use Rattle.vault_ledger.proofs.Kept.{IsPlacedOn, KeptSoFar}
use Rattle.vault_ledger.proofs.keeping.keep_pieces.Given as goal

abbrev pub invariant-loop-slot : goal.invariant-loop-slot
invariant-loop-slot g l = record {
  same : IsSamePool l.fn.pool l.pool;
  pinned : ArePinned l.pool (drop l.slot-index l.slots);
  few : CountsFit (length l.slots - l.slot-index) l.pool;
  room : vec_len l.added + (length l.slots - l.slot-index) ≤ vec_capacity l.added;
  short : vec_len l.added ≤ l.slot-index;
  so_far : (before : PoolState) (known : List NewSegment) (named : List ℕ) → IsPlacedOn before known named l.slots l.fn.pool → KeptSoFar before l.fn.pool known named l.slots (take l.slot-index l.slots) (drop l.slot-index l.slots) l.added.items l.pool;
}

use Rattle.std.proofs.Common.{◌≡◌, ◌-◌, ◌≤◌, ◌+◌, length}
use Rattle.std.specs.Prelude.{vec_capacity}
use Rattle.vault_disk.specs.Disk.{IsSame}
use Rattle.segment_pool.specs.Pieces.{pieces}
use Rattle.segment_pool.specs.Placing.{IsTruePool}
use Rattle.segment_pool.specs.Slots.{IsAsBefore, PoolState, spare}
use Rattle.copy_fragments.specs.Placings.{FitPieces}
use Rattle.copy_fragments.specs.PlacingSteps.{HasPieces, PlacedSoFar, StaysTrue}
use Rattle.copy_fragments.proofs.placing.place_each.Given as goal

abbrev pub invariant-loop-piece : goal.invariant-loop-piece
invariant-loop-piece g l = record {
  count : length l.placed.items ≡ l.index;
  within : l.index ≤ length (pieces l.cut.size l.cut.bytes);
  room : length (pieces l.cut.size l.cut.bytes) ≤ vec_capacity l.placed;
  spare : length (pieces l.cut.size l.cut.bytes) ≤ spare l.pool + l.index;
  same : IsSame (g.V.Vault.disk l.fn.vault) (g.V.Vault.disk l.vault);
  slots : (start : PoolState) → IsAsBefore start l.fn.pool → PlacedSoFar start l.pool l.placed.items;
  fit : (start : PoolState) → IsAsBefore start l.fn.pool → FitPieces start l.pool (pieces l.cut.size l.cut.bytes) l.placed.items;
  has : (g.V.Vault.disk l.fn.vault).tells → (start : PoolState) → IsAsBefore start l.fn.pool → HasPieces g.F.Fingerprint.digest_of start l.pool (g.V.Vault.disk l.fn.vault) (g.V.Vault.disk l.vault) (pieces l.cut.size l.cut.bytes) l.placed.items;
  stays_true : (g.V.Vault.disk l.fn.vault).tells → (start : PoolState) → IsAsBefore start l.fn.pool → IsTruePool g.F.Fingerprint.digest_of start (g.V.Vault.disk l.fn.vault).seen → StaysTrue g.F.Fingerprint.digest_of start l.pool (g.V.Vault.disk l.fn.vault) (g.V.Vault.disk l.vault) (pieces l.cut.size l.cut.bytes) l.placed.items;
}

abbrev pub decreases-loop-piece : goal.decreases-loop-piece
decreases-loop-piece g l = length (pieces l.cut.size l.cut.bytes) - l.index

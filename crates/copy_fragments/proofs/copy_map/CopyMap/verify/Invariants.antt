use Rattle.std.proofs.Common.{◌≡◌}
use Rattle.vault_disk.specs.Disk.{IsSame}
use Rattle.vault_disk.specs.Steps.{LookedAround}
use Rattle.copy_fragments.specs.WholeCopies.{AreWholeBefore}
use Rattle.copy_fragments.proofs.copy_map.CopyMap.verify.Given as goal

abbrev pub invariant-loop-slot : goal.invariant-loop-slot
invariant-loop-slot g l = record {
  pool : l.pool ≡ l.fn.pool;
  same : IsSame (g.V.Vault.disk l.fn.vault) (g.V.Vault.disk l.vault);
  looked : (g.V.Vault.disk l.fn.vault).tells → LookedAround (g.V.Vault.disk l.fn.vault) (g.V.Vault.disk l.vault);
  whole : (g.V.Vault.disk l.fn.vault).tells → AreWholeBefore g.F.Fingerprint.digest_of l.fn.pool (g.V.Vault.disk l.fn.vault).seen l.self l.slot-index;
}

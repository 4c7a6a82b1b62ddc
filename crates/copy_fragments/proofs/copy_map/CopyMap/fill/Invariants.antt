use Rattle.std.proofs.Common.{◌≡◌, ◌-◌, ◌≤◌, length, take}
use Rattle.vault_disk.specs.Disk.{IsSame}
use Rattle.vault_disk.specs.Steps.{LookedAround}
use Rattle.copy_fragments.specs.Copies.{IsPart}
use Rattle.copy_fragments.proofs.copy_map.CopyMap.fill.Given as goal

abbrev pub invariant-loop-done : goal.invariant-loop-done
invariant-loop-done g l = record {
  within : l.done ≤ length l.into;
  pool : l.pool ≡ l.fn.pool;
  same : IsSame (g.V.Vault.disk l.fn.vault) (g.V.Vault.disk l.vault);
  looked : (g.V.Vault.disk l.fn.vault).tells → LookedAround (g.V.Vault.disk l.fn.vault) (g.V.Vault.disk l.vault);
  part : (g.V.Vault.disk l.fn.vault).tells → IsPart g.F.Fingerprint.digest_of l.fn.pool (g.V.Vault.disk l.fn.vault).seen l.self l.at (take l.done l.into);
}

abbrev pub decreases-loop-done : goal.decreases-loop-done
decreases-loop-done g l = length l.initial.into - l.done

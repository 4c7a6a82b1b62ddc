use Rattle.vault_disk.specs.Disk.{IsSame}
use Rattle.vault_disk.specs.Steps.{LookedAround}
use Rattle.vault_ledger.proofs.SyncedStorage.{AreSynced}
use Rattle.vault_ledger.proofs.storage.Storage.sync_pools.Given as goal

abbrev pub invariant-loop-number : goal.invariant-loop-number
invariant-loop-number g l = record {
  same : IsSame (g.V.Vault.disk l.fn.vault) (g.V.Vault.disk l.vault);
  looked : (g.V.Vault.disk l.fn.vault).tells → LookedAround (g.V.Vault.disk l.fn.vault) (g.V.Vault.disk l.vault);
  synced : (g.V.Vault.disk l.fn.vault).tells → AreSynced l.fn.self.pools l.number (g.V.Vault.disk l.vault);
}

use Rattle.std.proofs.Common.{◌≡◌}
use Rattle.vault_ledger.proofs.FittedPools.{AreFitting}
use Rattle.vault_ledger.proofs.storage.Storage.fit.Given as goal

abbrev pub invariant-loop-unit : goal.invariant-loop-unit
invariant-loop-unit l = record {
  pools : AreFitting l.fn.book l.fn.self.pools l.unit-index l.self-inside.pools.items;
  copies : l.self-inside.copies ≡ l.fn.self.copies;
}

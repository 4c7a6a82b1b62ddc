use Rattle.std.proofs.Common.{◌≡◌, true, take}
use Rattle.std.specs.Prelude.{Contains, map}
use Rattle.site_types.specs.declared.id.BackupId.{BackupId}
use Rattle.vault_disk.specs.Disk.{IsSame}
use Rattle.vault_disk.specs.Steps.{LookedAround}
use Rattle.desk_model.specs.State.{has_image}
use Rattle.vault_ledger.specs.Ledger.{Ledger}
use Rattle.desk_index.specs.Index.{IsIndexOf}
use Rattle.desk_steps.specs.Readings.{IsWholeImage, bytes_over}
use Rattle.desk_steps.proofs.reading.read_images.Given as goal

abbrev pub invariant-loop-id : goal.invariant-loop-id
invariant-loop-id g l = record {
  index : l.index ≡ l.fn.index;
  same : IsSame (g.V.Vault.disk l.fn.vault) (g.V.Vault.disk l.vault);
  looked : (g.V.Vault.disk l.fn.vault).tells → LookedAround (g.V.Vault.disk l.fn.vault) (g.V.Vault.disk l.vault);
  bytes : (k : Ledger) → IsIndexOf k l.fn.index → ((id : BackupId) → Contains l.ids id → has_image id k.outline.images ≡ true) → (g.V.Vault.disk l.fn.vault).tells
      → l.images.items ≡ map (bytes_over (g.V.Vault.disk l.fn.vault).seen k) (take l.id-index l.ids);
  whole : (k : Ledger) → IsIndexOf k l.fn.index → (g.V.Vault.disk l.fn.vault).tells → (id : BackupId) → Contains (take l.id-index l.ids) id → IsWholeImage (g.V.Vault.disk l.fn.vault).seen k id;
}

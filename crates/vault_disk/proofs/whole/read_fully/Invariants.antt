use Rattle.std.proofs.Common.{length, ◌-◌, ◌≤◌, ◌+◌, ◌<◌, ◌^◌}
use Rattle.vault_disk.specs.Disk.{IsSame}
use Rattle.vault_disk.specs.Steps.{LookedAround}
use Rattle.vault_disk.proofs.ReadOn.{Filled}
use Rattle.vault_disk.proofs.whole.read_fully.Given as goal

abbrev pub invariant-loop-filled : goal.invariant-loop-filled
invariant-loop-filled g l = record {
  within : l.filled ≤ length l.into;
  fits : l.at + l.filled < 2 ^ 64;
  same : IsSame (g.V.Vault.disk l.fn.vault) (g.V.Vault.disk l.vault);
  read : (g.V.Vault.disk l.fn.vault).tells → Filled ((g.V.Vault.disk l.fn.vault).seen l.file) l.at l.filled l.into;
  looked : (g.V.Vault.disk l.fn.vault).tells → LookedAround (g.V.Vault.disk l.fn.vault) (g.V.Vault.disk l.vault);
}

abbrev pub decreases-loop-filled : goal.decreases-loop-filled
decreases-loop-filled g l = length l.initial.into - l.filled

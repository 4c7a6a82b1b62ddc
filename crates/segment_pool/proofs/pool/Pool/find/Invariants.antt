use Rattle.std.proofs.Common.{◌≡◌, Some}
use Rattle.std.specs.Prelude.{MatchOption}
use Rattle.vault_disk.specs.Disk.{IsSame}
use Rattle.vault_disk.specs.Steps.{LookedAround}
use Rattle.segment_pool.specs.Index.{bits_of, leading_bits}
use Rattle.segment_pool.proofs.Finding.{Passed, rank}
use Rattle.segment_pool.proofs.pool.Pool.find.Given as goal

abbrev pub invariant-loop-candidate : goal.invariant-loop-candidate
invariant-loop-candidate g l = record {
  pool : l.self ≡ l.fn.self;
  bits : MatchOption l.candidate (Unit {0}) (λ s. bits_of l.fn.self.table s ≡ Some (leading_bits l.digest));
  same : IsSame (g.V.Vault.disk l.fn.vault) (g.V.Vault.disk l.vault);
  looked : (g.V.Vault.disk l.fn.vault).tells → LookedAround (g.V.Vault.disk l.fn.vault) (g.V.Vault.disk l.vault);
  passed : (g.V.Vault.disk l.fn.vault).tells → Passed g.F.Fingerprint.digest_of l.fn.self (g.V.Vault.disk l.fn.vault).seen l.piece l.candidate;
}

abbrev pub decreases-loop-candidate : goal.decreases-loop-candidate
decreases-loop-candidate g l = rank l.candidate

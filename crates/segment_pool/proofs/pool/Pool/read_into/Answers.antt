use Rattle.std.proofs.Common.{rules}
use Rattle.segment_pool.proofs.Troubles.{undamaged_result}
use Rattle.segment_pool.proofs.pool.Pool.read_into.Goals as goal

pub returns-clause-undamaged : goal.returns-clause-undamaged
returns-clause-undamaged g c = λ told true_pool. undamaged_result g.F.Fingerprint.digest_of c.args.self.now (g.V.Vault.disk c.args.vault.now).seen c.args.slot c.check.result true_pool (search rules)

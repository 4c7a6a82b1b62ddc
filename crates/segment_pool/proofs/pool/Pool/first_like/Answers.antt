use Rattle.std.proofs.Common.{subst}
use Rattle.segment_pool.specs.Slots.{PoolState, AreSound}
use Rattle.segment_pool.proofs.pool.Pool.first_like.Goals as goal

pub returns-clause-sound : goal.returns-clause-sound
returns-clause-sound g c = subst (λ (p : PoolState). AreSound p.size p.table) c.self.view_is c.self.invariant.3

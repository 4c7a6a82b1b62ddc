use Rattle.std.proofs.Common.{◌≡◌, sym, ◌∙◌, ap, arith}
use Rattle.segment_pool.specs.Slots.{PoolState}
use Rattle.segment_pool.proofs.pool.Pool.known.Goals as goal

pub returns-clause-some : goal.returns-clause-some
returns-clause-some g c = (c.self.invariant.3 c.args.slot _ (sym c.at.ensures ∙ c.in-Some.is)).0

pub returns-clause-short : goal.returns-clause-short
returns-clause-short g c = let size : c.self.inside.size ≡ c.args.self.now.size = ap (λ (p : PoolState). p.size) c.self.view_is in omega (arith, size, (c.self.invariant.3 c.args.slot _ (sym c.at.ensures ∙ c.in-Some.is)).1)

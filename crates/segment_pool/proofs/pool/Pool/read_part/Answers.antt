use Rattle.std.proofs.Common.{rules}
use Rattle.segment_pool.proofs.pool.Pool.read_part.Goals as goal

pub invariant_of-self : goal.invariant_of-self
invariant_of-self g c = let inv = c.self.invariant in (inv.0, inv.1, search rules, inv.3)

pub invariant_of-self-in_err-check : goal.invariant_of-self-in_err-check
invariant_of-self-in_err-check g c = let inv = c.self.invariant in (inv.0, inv.1, search rules, inv.3)

pub invariant_of-self-2 : goal.invariant_of-self-2
invariant_of-self-2 g c = let inv = c.self.invariant in (inv.0, inv.1, search rules, inv.3)

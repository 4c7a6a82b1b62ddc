use Rattle.std.proofs.Common.{◌≡◌, ◌≤◌, ℕ, None}
use Rattle.segment_pool.specs.Slots.{at_slot}
use Rattle.segment_pool.proofs.pool.Pool.end.Given as goal

abbrev pub invariant-loop-end : goal.invariant-loop-end
invariant-loop-end g l = (slot : ℕ) → l.end ≤ slot → at_slot l.self-inside.table slot ≡ None

abbrev pub decreases-loop-end : goal.decreases-loop-end
decreases-loop-end g l = l.end

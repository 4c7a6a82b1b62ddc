use Rattle.pool_journal.proofs.Common.{◌≡◌, ◌+◌, nat_eq, drop, common_prefix_len}
use Rattle.pool_journal.proofs.open.first_difference.Given as goal

abbrev pub invariant-loop-at : goal.invariant-loop-at
invariant-loop-at l = common_prefix_len nat_eq l.bytes l.header ≡ l.at + common_prefix_len nat_eq (drop l.at l.bytes) (drop l.at l.header)

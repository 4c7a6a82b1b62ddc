use Rattle.pool_journal.proofs.Common.{arith, length-drop, nat_eq, drop}
use Rattle.std.proofs.lemmas.List.Sums.{common_prefix_len-le}
use Rattle.pool_journal.proofs.open.first_difference.Goals as goal

pub returns : goal.returns
returns c =
    let rest = common_prefix_len-le nat_eq (drop c.loop-at.at c.args.bytes.now) (drop c.loop-at.at c.args.header.now) in
    omega (arith, c.loop-at.invariant, rest.0, rest.1, length-drop c.loop-at.at c.args.bytes.now, length-drop c.loop-at.at c.args.header.now)

use Rattle.schedule_windows.proofs.Common.{arith}
use Rattle.schedule_windows.proofs.Steady.{steady_offset}
use Rattle.schedule_windows.proofs.rule.same_offset_until.Goals as goal

pub returns-then-is_steady-clause-same : goal.returns-then-is_steady-clause-same
returns-then-is_steady-clause-same c = λ k low high. steady_offset c.args.rule.now c.args.at _ k (c.is_steady.ensures c.if-is_steady.true) low (omega arith)

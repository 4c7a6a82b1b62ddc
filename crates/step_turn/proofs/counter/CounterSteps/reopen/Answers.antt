use Rattle.std.proofs.Common.{false, refl}
use Rattle.step_turn.proofs.Counting.{reopened, same_tally}
use Rattle.step_turn.proofs.counter.CounterSteps.reopen.Goals as goal

pub returns-clause-reopened : goal.returns-clause-reopened
returns-clause-reopened c told s t between =
    let same = c.if-fails.ensures.same in
    let n = c.fails.new.self in
    reopened c.args.self.now record { count = n.count; limit = n.limit; stopped = false; faults = n.faults; calls = n.calls; failing = n.failing; acts = n.acts } (same_tally c.fails.new.self c.args.self.now same.0 same.1) refl s t between

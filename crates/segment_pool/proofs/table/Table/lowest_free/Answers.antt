use Rattle.std.proofs.Common.{◌∙◌}
use Rattle.segment_pool.proofs.Sweeping.{lowest_told}
use Rattle.segment_pool.proofs.table.Table.lowest_free.Goals as goal

pub returns-clause-lowest : goal.returns-clause-lowest
returns-clause-lowest c = lowest_told c.deref.result.now c.args.self.now c.lowest.result (c.deref.ensures.value ∙ c.self.view_is) c.lowest.ensures.lowest

use Rattle.segment_pool.proofs.Links.{changed}
use Rattle.segment_pool.proofs.index.Index.change.Goals as goal

pub invariant_of-self : goal.invariant_of-self
invariant_of-self c = record { indexed = changed _ _ c.args.self.now.indexed c.args.slot c.args.what c.requires }

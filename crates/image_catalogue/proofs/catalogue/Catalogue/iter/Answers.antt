use Rattle.image_catalogue.proofs.Common.{subst, AreById}
use Rattle.image_catalogue.proofs.EntryLemmas.{in_order}
use Rattle.image_catalogue.proofs.catalogue.Catalogue.iter.Goals as goal

pub returns-clause-by_id : goal.returns-clause-by_id
returns-clause-by_id c = subst AreById c.self.view_is (in_order c.self.inside.images.entries c.values.ensures.ordered c.self.invariant.0)

use Rattle.image_catalogue.proofs.Common.{◌∙◌, ap, record_named}
use Rattle.image_catalogue.proofs.EntryLemmas.{found}
use Rattle.image_catalogue.proofs.catalogue.Catalogue.find.Goals as goal

pub returns : goal.returns
returns c = c.get.ensures.value ∙ found c.self.inside.images.entries c.args.id.now c.self.invariant.0 ∙ ap (record_named c.args.id.now) c.self.view_is

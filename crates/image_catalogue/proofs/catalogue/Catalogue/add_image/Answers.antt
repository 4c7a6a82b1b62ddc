use Rattle.image_catalogue.proofs.Common.{◌∙◌, ap, length, subst, values_of, Counts, used}
use Rattle.image_catalogue.proofs.ImageLemmas.{length_with, used_with}
use Rattle.image_catalogue.proofs.ChangeLemmas.{added_as, counts_added}
use Rattle.image_catalogue.proofs.catalogue.Catalogue.add_image.Goals as goal

pub returns-clause-added : goal.returns-clause-added
returns-clause-added c =
    (added_as c.self.inside.images.entries c.insert.new.self.entries c.args.self.now c.in_ok-id.id c.args.image c.self.invariant.0 c.self.view_is c.requires c.in_ok-id.ensures c.in_ok-insert.ensures.entries).1

pub returns-clause-length_added : goal.returns-clause-length_added
returns-clause-length_added c = ap length (returns-clause-added c) ∙ length_with c.args.self.now c.args.image

pub returns-clause-used_added : goal.returns-clause-used_added
returns-clause-used_added c unit = ap (used unit) (returns-clause-added c) ∙ used_with unit c.args.self.now c.args.image

pub invariant_of-self-2 : goal.invariant_of-self-2
invariant_of-self-2 c =
    let es = c.self.inside.images.entries in
    let added = added_as es c.insert.new.self.entries c.args.self.now c.in_ok-id.id c.args.image c.self.invariant.0 c.self.view_is c.requires c.in_ok-id.ensures c.in_ok-insert.ensures.entries in (
      added.0,
      counts_added c.self.inside.used.items c.deref.result.now c.in_ok-used.used.items c.args.self.now (values_of c.insert.new.self.entries) c.args.image added.1 (subst (Counts c.self.inside.used.items) c.self.view_is c.self.invariant.1) c.deref.ensures.value c.in_ok-used.ensures,
    )

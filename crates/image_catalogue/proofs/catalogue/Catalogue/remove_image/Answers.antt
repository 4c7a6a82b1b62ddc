use Rattle.image_catalogue.proofs.Common.{sym, values_of}
use Rattle.image_catalogue.proofs.ImageLemmas.{undone_as}
use Rattle.image_catalogue.proofs.EntryLemmas.{at_id}
use Rattle.image_catalogue.proofs.ChangeLemmas.{removed_as, counted_as, counts_left}
use Rattle.image_catalogue.proofs.catalogue.Catalogue.remove_image.Goals as goal

pub uncount-requires : goal.uncount-requires
uncount-requires c =
    counted_as c.self.inside.used.items c.deref_mut.result.now c.self.inside.images.entries (at_id c.args.id.now) c.in-Some.image c.deref_mut.ensures.value c.self.invariant.1 (sym c.in-Some.ensures.value)

pub returns-in-Some-clause-removed : goal.returns-in-Some-clause-removed
returns-in-Some-clause-removed c =
    (removed_as c.self.inside.images.entries c.remove.new.self.entries c.args.self.now c.args.id.now c.self.invariant.0 c.self.view_is c.remove.ensures.updates.1 c.remove.ensures.entries).1

pub returns-in-Some-clause-undone : goal.returns-in-Some-clause-undone
returns-in-Some-clause-undone c = undone_as c.args.self.now (values_of c.remove.new.self.entries) c.args.id.now (returns-in-Some-clause-removed c)

pub invariant_of-self : goal.invariant_of-self
invariant_of-self c =
    let es = c.self.inside.images.entries in
    let at = at_id c.args.id.now in (
      (removed_as es c.remove.new.self.entries c.args.self.now c.args.id.now c.self.invariant.0 c.self.view_is c.remove.ensures.updates.1 c.remove.ensures.entries).0,
      counts_left c.self.inside.used.items c.deref_mut.result.now c.uncount.new.entries c.self.inside.used.len es c.remove.new.self.entries at c.in-Some.image c.deref_mut.ensures.value c.self.invariant.1 (sym c.in-Some.ensures.value) c.remove.ensures.entries c.uncount.ensures c.self.inside.used.ok.0 c.uncount.auto.entries,
    )

pub returns-in_default-clause-removed : goal.returns-in_default-clause-removed
returns-in_default-clause-removed c =
    (removed_as c.self.inside.images.entries c.remove.new.self.entries c.args.self.now c.args.id.now c.self.invariant.0 c.self.view_is c.remove.ensures.updates.1 c.remove.ensures.entries).1

pub returns-in_default-clause-undone : goal.returns-in_default-clause-undone
returns-in_default-clause-undone c = undone_as c.args.self.now (values_of c.remove.new.self.entries) c.args.id.now (returns-in_default-clause-removed c)

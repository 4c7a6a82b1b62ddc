use Rattle.std.proofs.Common.{◌∙◌, ap, length, arith}
use Rattle.std.specs.Prelude.{is_some}
use Rattle.std.proofs.lemmas.Bool.{false≢true}
use Rattle.desk_steps.proofs.ReadImages.{first_unit, record_found, some_copy, unit_first}
use Rattle.desk_steps.proofs.reading.unit_of_copy.Goals as goal

pub unreachable-requires : goal.unreachable-requires
unreachable-requires c =
    let r = c.requires.there in
    false≢true (ap is_some c.in_default.ensures ∙ record_found r.0 r.1 r.2 c.args.book.now r.3 c.args.catalogue.now r.4 c.args.id.now r.5)

pub bounds-as_slice-0 : goal.bounds-as_slice-0
bounds-as_slice-0 c =
    let r = c.requires.there in
    let one = some_copy r.0 r.1 r.2 c.args.book.now r.3 c.args.catalogue.now r.4 c.args.id.now r.5 c.in-Some.image.now c.in-Some.ensures in
    omega (arith, ap length (c.as_slice.ensures ∙ one.1))

pub unreachable-requires-in_default-unit : goal.unreachable-requires-in_default-unit
unreachable-requires-in_default-unit c =
    let r = c.requires.there in
    false≢true (ap is_some c.in_default-unit.ensures ∙ first_unit r.0 r.1 r.2 c.args.book.now r.3 c.args.catalogue.now r.4 c.args.id.now r.5 c.in-Some.image.now c.in-Some.ensures c.as_slice.result.now c.as_slice.ensures _)

pub returns : goal.returns
returns c l index image copy is book_is catalogue_is of =
    unit_first l index is c.args.book.now book_is c.args.catalogue.now catalogue_is c.args.id.now image copy of c.in-Some.image.now c.in-Some.ensures c.as_slice.result.now c.as_slice.ensures _ c.in-Some-unit.unit.now c.in-Some-unit.ensures

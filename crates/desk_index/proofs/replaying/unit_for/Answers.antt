use Rattle.std.proofs.Common.{◌∙◌, List, ap, sym}
use Rattle.std.specs.Option.{option_copied}
use Rattle.slp_tree.specs.Lifecycles.{Lifecycle, version_named}
use Rattle.desk_index.proofs.FittingUnits.{operation_there, unit_so, unit_there}
use Rattle.desk_index.proofs.replaying.unit_for.Goals as goal

pub unit-requires : goal.unit-requires
unit-requires c =
    let there = c.requires.there in
    operation_there there.0 there.1 c.args.image.now c.args.book.now there.2 there.3 c.in-Some.version.now
    (ap (λ (listed : List Lifecycle). version_named c.args.image.now.lifecycle c.args.image.now.version listed) (sym c.lifecycles.ensures) ∙ sym c.find.ensures ∙ ap option_copied c.in-Some.is)

pub unreachable-requires-in_default-unit : goal.unreachable-requires-in_default-unit
unreachable-requires-in_default-unit c =
    let there = c.requires.there in
    unit_there there.0 there.1 c.args.image.now c.args.book.now there.2 there.3 c.in-Some.version.now
    (ap (λ (listed : List Lifecycle). version_named c.args.image.now.lifecycle c.args.image.now.version listed) (sym c.lifecycles.ensures) ∙ sym c.find.ensures ∙ ap option_copied c.in-Some.is)
    c.unit.result.now c.unit.ensures (sym c.unit-2.ensures ∙ ap option_copied c.in_default-unit.is)

pub returns : goal.returns
returns c =
    let there = c.requires.there in
    unit_so there.0 there.1 c.args.image.now c.args.book.now there.2 there.3 c.in-Some.version.now
    (ap (λ (listed : List Lifecycle). version_named c.args.image.now.lifecycle c.args.image.now.version listed) (sym c.lifecycles.ensures) ∙ sym c.find.ensures ∙ ap option_copied c.in-Some.is)
    c.unit.result.now c.unit.ensures c.in-Some-unit.unit.now (sym c.unit-2.ensures ∙ ap option_copied c.in-Some-unit.is)

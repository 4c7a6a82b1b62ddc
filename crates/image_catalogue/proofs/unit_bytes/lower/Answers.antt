use Rattle.image_catalogue.proofs.Common.{arith}
use Rattle.image_catalogue.proofs.CountLemmas.{first_recorded, lowered_at, lowered_none}
use Rattle.image_catalogue.proofs.unit_bytes.lower.Goals as goal

pub overflow_sub-entry : goal.overflow_sub-entry
overflow_sub-entry c =
    omega (arith, first_recorded c.args.entries.now c.args.unit.now c.in-Some.at c.index-entries-at.result c.in-Some.ensures)

pub returns-in-Some : goal.returns-in-Some
returns-in-Some c =
    lowered_at c.args.entries.now c.args.unit.now c.in-Some.at c.index-entries-at.result c.args.size c.in-Some.ensures
    (omega (arith, first_recorded c.args.entries.now c.args.unit.now c.in-Some.at c.index-entries-at.result c.in-Some.ensures))

pub returns-in_default : goal.returns-in_default
returns-in_default c = lowered_none c.args.entries.now c.args.unit.now c.args.size c.in_default.ensures c.requires

use Rattle.image_catalogue.proofs.Common.{sym}
use Rattle.image_catalogue.proofs.CountLemmas.{first_recorded, none_recorded}
use Rattle.image_catalogue.proofs.unit_bytes.bytes_of.Goals as goal

pub returns-in-Some : goal.returns-in-Some
returns-in-Some c = sym (first_recorded c.args.entries.now c.args.unit.now c.in-Some.at c.index-entries-at.result c.in-Some.ensures)

pub returns-in-None : goal.returns-in-None
returns-in-None c = sym (none_recorded c.args.entries.now c.args.unit.now c.in-None.ensures)

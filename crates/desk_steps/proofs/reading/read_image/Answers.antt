use Rattle.std.proofs.Common.{◌∙◌, refl, rules}
use Rattle.vault_ledger.specs.Storage.{ReadingFails}
use Rattle.desk_steps.proofs.ReadImages.{bytes_named, copy_on, err_is, image_there}
use Rattle.desk_steps.proofs.reading.read_image.Goals as goal

pub read_copy-requires : goal.read_copy-requires
read_copy-requires g c =
    let l = c.requires.there.0 in
    let is = c.requires.there.1 in
    let one = image_there l is.follows.order c.args.id.now c.requires.there.2 in
    record { known = (l, one.0, one.1, is.follows, copy_on l c.args.id.now c.unit_of_copy-unit.result.now one.0 one.1 one.2 (c.unit_of_copy-unit.ensures l c.args.index.now one.0 one.1 is refl refl one.2)) }

pub returns-in_err-bytes-clause-fails : goal.returns-in_err-bytes-clause-fails
returns-in_err-bytes-clause-fails g c l image copy is of told =
    err_is c.from_residual.result c.in_err-bytes.field-0.0 (ReadingFails (g.V.Vault.disk c.args.vault.now).seen l image.entry copy) (search rules)
    (c.in_err-bytes.ensures.fails l image copy is.follows (copy_on l c.args.id.now c.unit_of_copy-unit.result.now image copy of (c.unit_of_copy-unit.ensures l c.args.index.now image copy is refl refl of)) told)

pub returns-clause-bytes : goal.returns-clause-bytes
returns-clause-bytes g c l is there told =
    let one = image_there l is.follows.order c.args.id.now there in
    c.from_vec.ensures
    ∙ c.in_ok-bytes.ensures.bytes l one.0 one.1 is.follows (copy_on l c.args.id.now c.unit_of_copy-unit.result.now one.0 one.1 one.2 (c.unit_of_copy-unit.ensures l c.args.index.now one.0 one.1 is refl refl one.2)) told
    ∙ bytes_named (g.V.Vault.disk c.args.vault.now).seen l c.args.id.now one.0 one.2.image_is

pub returns-clause-whole : goal.returns-clause-whole
returns-clause-whole g c l is told image copy of =
    c.in_ok-bytes.ensures.whole l image copy is.follows (copy_on l c.args.id.now c.unit_of_copy-unit.result.now image copy of (c.unit_of_copy-unit.ensures l c.args.index.now image copy is refl refl of)) told

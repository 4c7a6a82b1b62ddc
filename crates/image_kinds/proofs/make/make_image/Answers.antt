use Rattle.image_kinds.proofs.Common.{◌∙◌, take_all}
use Rattle.image_kinds.proofs.Orders.{made_is}
use Rattle.image_kinds.proofs.make.make_image.Goals as goal

pub new-requires : goal.new-requires
new-requires c =
    let all = take_all c.loop-entry.entry-index c.entries-entries.result.now c.loop-entry-test.false ∙ c.entries-entries.ensures.entries in
    rw (c.loop-entry.invariant, all) (made_is c.args.selections.now c.args.reference c.args.stream.now c.entries-entries.ensures.stream)

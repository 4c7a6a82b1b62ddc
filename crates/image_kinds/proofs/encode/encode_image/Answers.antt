use Rattle.image_kinds.proofs.Common.{[]}
use Rattle.image_kinds.proofs.Writing.{length_at}
use Rattle.image_kinds.proofs.encode.encode_image.Goals as goal

pub write_item-requires : goal.write_item-requires
write_item-requires c = rw (c.item-item.is, c.items-items.ensures.items) (length_at [] c.args.value.now c.loop-item.item-index c.item-item.result c.items-items.ensures.image.rising (rw c.items-items.ensures.items at c.loop-item-test.true))

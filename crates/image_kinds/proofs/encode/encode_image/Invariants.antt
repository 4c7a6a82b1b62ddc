use Rattle.image_kinds.proofs.Common.{◌≡◌, ◌++◌, take, flat_map, letters_of, spelled_item}
use Rattle.image_kinds.specs.declared.format.Format.TheVariants as format
use Rattle.image_kinds.proofs.encode.encode_image.Given as goal

abbrev pub invariant-loop-item : goal.invariant-loop-item
invariant-loop-item l = l.out.items ≡ letters_of format.Image ++ flat_map spelled_item (take l.item-index l.items)

use Rattle.image_kinds.proofs.Common.{◌≡◌, take, made}
use Rattle.image_kinds.proofs.make.make_image.Given as goal

abbrev pub invariant-loop-entry : goal.invariant-loop-entry
invariant-loop-entry l = l.items.items ≡ made l.selections l.reference (take l.entry-index l.entries)

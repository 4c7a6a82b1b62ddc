use Rattle.image_kinds.proofs.Common.{length}
use Rattle.image_kinds.proofs.Fronts.{HasRead}
use Rattle.image_kinds.proofs.decode.read_items.Given as goal

abbrev pub invariant-loop-items : goal.invariant-loop-items
invariant-loop-items l = HasRead l.format l.bytes l.items.items l.cursor

abbrev pub decreases-loop-items : goal.decreases-loop-items
decreases-loop-items l = length l.cursor

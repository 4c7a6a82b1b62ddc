use Rattle.image_kinds.proofs.Common.{arith, refl, ◌/◌, ◌-◌, length, take, drop, ◌∙◌, Less, Equal, Greater, path_of}
use Rattle.image_kinds.proofs.Trees.{halved, compared, narrows_right, narrows_left, narrows_here}
use Rattle.image_kinds.proofs.merge.taken_in.Goals as goal

pub loop-path-preserved-in-Less : goal.loop-path-preserved-in-Less
loop-path-preserved-in-Less c =
    let part = c.loop-path.part.now in
    let front = take (length part / 2) part in
    let tail = c.later_half.result.now in
    let parts = halved part (length part / 2) front tail c.item-item.result refl c.later_half.ensures (omega (arith, c.in-len1-up.len_at_least)) c.item-item.is in
    narrows_right c.args.path.now c.args.items.now part front c.item-item.result (take (length tail - 1) (drop 1 tail)) c.loop-path.invariant parts (compared (path_of c.item-item.result) c.args.path.now c.path.result.now Less c.path.ensures c.in-Less.ensures)

pub loop-path-preserved : goal.loop-path-preserved
loop-path-preserved c =
    let part = c.loop-path.part.now in
    let front = take (length part / 2) part in
    let tail = c.later_half.result.now in
    let parts = halved part (length part / 2) front tail c.item-item.result refl c.later_half.ensures (omega (arith, c.in-len1-up.len_at_least)) c.item-item.is in
    narrows_left c.args.path.now c.args.items.now part front c.item-item.result (take (length tail - 1) (drop 1 tail)) c.loop-path.invariant parts (compared (path_of c.item-item.result) c.args.path.now c.path.result.now Greater c.path.ensures c.in-Greater.ensures)

pub returns-in-Equal : goal.returns-in-Equal
returns-in-Equal c =
    let part = c.loop-path.part.now in
    let front = take (length part / 2) part in
    let tail = c.later_half.result.now in
    let parts = halved part (length part / 2) front tail c.item-item.result refl c.later_half.ensures (omega (arith, c.in-len1-up.len_at_least)) c.item-item.is in
    c.taken.ensures
    ∙ narrows_here c.args.path.now c.args.items.now part front c.item-item.result (take (length tail - 1) (drop 1 tail)) c.loop-path.invariant parts (compared (path_of c.item-item.result) c.args.path.now c.path.result.now Equal c.path.ensures c.in-Equal.ensures)

use Rattle.std.proofs.Common.{◌+◌, refl}
use Rattle.std.proofs.lemmas.List.Sums.{sum_by-take-le}
use Rattle.copy_fragments.proofs.Pinning.{held_still, take_more, unpinned_on}
use Rattle.copy_fragments.proofs.placing.unpin_each.Goals as goal

pub unpin-requires : goal.unpin-requires
unpin-requires g c =
    let l = c.loop-slot in
    held_still c.args.pool.now l.pool l.pool _ _ _ c.args.slots.now (take_more _ l.slot-index c.args.slots.now c.loop-slot-test.true refl) (sum_by-take-le _ c.args.slots.now (l.slot-index + 1)) l.invariant c.requires

pub loop-slot-preserved : goal.loop-slot-preserved
loop-slot-preserved g c =
    let l = c.loop-slot in
    unpinned_on c.args.pool.now l.pool c.unpin.new.self _ _ _ c.args.slots.now (take_more _ l.slot-index c.args.slots.now c.loop-slot-test.true refl) (sum_by-take-le _ c.args.slots.now (l.slot-index + 1)) l.invariant c.requires c.unpin.ensures

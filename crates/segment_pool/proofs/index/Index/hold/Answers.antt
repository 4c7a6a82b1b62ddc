use Rattle.std.proofs.Common.{arith}
use Rattle.std.proofs.lemmas.List.{get_or_read}
use Rattle.segment_pool.proofs.Links.{now_held, place_within}
use Rattle.segment_pool.proofs.index.Index.hold.Goals as goal

pub invariant_of-self : goal.invariant_of-self
invariant_of-self c =
    let inside = c.args.self.now in
    let seek = c.seek-place.ensures in
    let within = place_within _ _ inside.indexed c.bits_in.result c.seek-place.result seek.place in
    let read = get_or_read inside.links.items c.seek-place.result c.index.result.now within c.index.ensures 0 in
    record { indexed = now_held _ _ inside.indexed c.args.slot c.bits_in.result c.seek-place.result c.index.result.now seek.place c.requires.within seek.bound read (omega (arith, read, seek.link)) c.args.what c.bits_in.ensures.bits c.requires.free }

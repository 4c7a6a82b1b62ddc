use Rattle.std.proofs.Common.{arith}
use Rattle.std.proofs.lemmas.List.{get_or_read}
use Rattle.segment_pool.proofs.Links.{place_within, followed}
use Rattle.segment_pool.proofs.index.Index.seek.Goals as goal

pub loop-place-preserved : goal.loop-place-preserved
loop-place-preserved c =
    let inside = c.args.self.now in
    let at_place = c.loop-place.invariant.at_place in
    let within = place_within _ _ inside.indexed c.args.bits c.loop-place.place at_place in
    let tested = get_or_read inside.links.items c.loop-place.place c.index.result.now within c.index.ensures 0 in
    let read = get_or_read inside.links.items c.loop-place.place c.index-in-loop-place.result.now within c.index-in-loop-place.ensures 0 in
    let next = followed _ _ inside.indexed c.args.bits c.loop-place.place c.args.slot c.index-in-loop-place.result.now at_place read (omega (arith, tested, read, c.loop-place-test.true)) in
    record { at_place = next.0; past = next.1 }

pub loop-place-smaller : goal.loop-place-smaller
loop-place-smaller c =
    let inside = c.args.self.now in
    let at_place = c.loop-place.invariant.at_place in
    let within = place_within _ _ inside.indexed c.args.bits c.loop-place.place at_place in
    let tested = get_or_read inside.links.items c.loop-place.place c.index.result.now within c.index.ensures 0 in
    let read = get_or_read inside.links.items c.loop-place.place c.index-in-loop-place.result.now within c.index-in-loop-place.ensures 0 in
    (followed _ _ inside.indexed c.args.bits c.loop-place.place c.args.slot c.index-in-loop-place.result.now at_place read (omega (arith, tested, read, c.loop-place-test.true))).2

use Rattle.std.proofs.lemmas.List.{get_or_read}
use Rattle.segment_pool.proofs.Links.{begins, first_place, place_within}
use Rattle.segment_pool.proofs.index.Index.first.Goals as goal

pub returns : goal.returns
returns c =
    let inside = c.args.self.now in
    let few = c.bits_in.ensures.few in
    let within = place_within _ _ inside.indexed c.bits_in.result c.bits_in.result (first_place _ _ few) in
    begins _ _ inside.indexed c.bits_in.result _ c.index.result.now c.checked_sub.result c.bits_in.ensures.bits few (get_or_read inside.links.items c.bits_in.result c.index.result.now within c.index.ensures 0) c.checked_sub.ensures

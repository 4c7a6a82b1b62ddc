use Rattle.std.proofs.Common.{◌+◌}
use Rattle.std.proofs.lemmas.List.{get_or_read}
use Rattle.segment_pool.proofs.Links.{leads_on, next_place, place_within}
use Rattle.segment_pool.proofs.index.Index.next.Goals as goal

pub returns : goal.returns
returns c = λ bits is.
    let inside = c.args.self.now in
    let within = place_within _ _ inside.indexed bits (262144 + c.args.slot) (next_place _ bits c.args.slot is) in
    leads_on _ _ inside.indexed c.args.slot bits c.index.result.now c.checked_sub.result is (get_or_read inside.links.items (262144 + c.args.slot) c.index.result.now within c.index.ensures 0) c.checked_sub.ensures

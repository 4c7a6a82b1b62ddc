use Rattle.std.proofs.Common.{arith}
use Rattle.segment_pool.proofs.Links.{grown_to}
use Rattle.segment_pool.proofs.index.Index.grow.Goals as goal

pub invariant_of-self-in-Ok : goal.invariant_of-self-in-Ok
invariant_of-self-in-Ok c =
    let inside = c.args.self.now in
    record {
      indexed = grown_to _ _ inside.indexed c.args.slots inside.slots.len inside.links.len _ _ (omega (arith, inside.slots.ok.0)) (omega (arith, inside.links.ok.0)) (omega (arith, inside.slots.ok.0, c.len-before.ensures, c.if-slots-before.false)) c.requires c.in-Ok.ensures.items c.in_ok-resize.ensures.items;
    }

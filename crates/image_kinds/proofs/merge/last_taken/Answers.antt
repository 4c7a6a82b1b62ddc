use Rattle.image_kinds.proofs.Common.{arith, ◌-◌, ◌∙◌, sym, ap, Some, None, length, taken_in}
use Rattle.std.proofs.Common.{length-take}
use Rattle.image_kinds.proofs.Chains.{last_step}
use Rattle.image_kinds.proofs.merge.last_taken.Goals as goal

pub returns-in-Some : goal.returns-in-Some
returns-in-Some c =
    let took = ap (taken_in c.args.path.now) (sym c.items.ensures.items) ∙ sym c.in-Some.ensures in
    sym (last_step c.args.path.now c.loop-rest.rest.now c.image-item.result (Some c.in-Some.entry.now) (omega (arith, c.in-len1-up.len_at_least)) c.image-item.is took) ∙ c.loop-rest.invariant.same

pub loop-rest-preserved : goal.loop-rest-preserved
loop-rest-preserved c =
    let none = rw c.in_default-taken_in.is at c.taken_in.ensures in
    let took = ap (taken_in c.args.path.now) (sym c.items.ensures.items) ∙ sym none in
    record {
      same = sym (last_step c.args.path.now c.loop-rest.rest.now c.image-item.result None (omega (arith, c.in-len1-up.len_at_least)) c.image-item.is took) ∙ c.loop-rest.invariant.same;
      shorter = omega (arith, length-take (length c.loop-rest.rest.now - 1) c.loop-rest.rest.now, c.loop-rest.invariant.shorter);
    }

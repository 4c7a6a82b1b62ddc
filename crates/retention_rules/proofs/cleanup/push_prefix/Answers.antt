use Rattle.std.proofs.Common.{◌≡◌, ◌<◌, ◌-◌, ◌++◌, ◌∷◌, [], length, true, false, ap, arith}
use Rattle.retention_rules.specs.Cleanup.{Kept, is_on}
use Rattle.retention_rules.specs.Marks.{is_low_met}
use Rattle.retention_rules.proofs.PrefixLemmas.{candidate_pushed, candidate_passed}
use Rattle.retention_rules.proofs.cleanup.push_prefix.Goals as goal
use Rattle.retention_rules.proofs.cleanup.push_prefix.Goals.{then-is_on+else-low_met+in_ok-push, else-is_on}

pub loop-kept-preserved : goal.loop-kept-preserved
loop-kept-preserved c =
    let unit = c.args.unit.now in
    let k = c.kept-item.result in
    let here : c.loop-kept.kept-index < length c.args.candidates.now = omega arith in
    elim c.if-is_on.branch [
      | then-is_on+else-low_met+in_ok-push w ↦
          let on : is_on unit.name k ≡ true = cc in
          let unmet : is_low_met c.loop-kept.left unit.capacity unit.low ≡ false = cc in
          let after : c.if-is_on.gone.items ≡ c.loop-kept.gone.items ++ k ∷ [] =
          rw (w.gone-is, w.push.ensures.items, w.in_ok-push.was) (ap (λ (m : Kept). c.loop-kept.gone.items ++ m ∷ []) w.again.ensures) in
          let left : c.if-is_on.left ≡ c.loop-kept.left - k.image.length = first_of (cc, grind arith) in
          candidate_pushed unit c.args.candidates.now c.loop-kept.kept-index c.loop-kept.left _ _ c.loop-kept.invariant k c.if-is_on.gone.items c.if-is_on.left here c.kept-item.is on unmet after left
      | else-is_on w ↦
          let off : is_on unit.name k ≡ false = cc in
          rw (w.gone-is, w.left-is) (candidate_passed unit c.args.candidates.now c.loop-kept.kept-index c.loop-kept.left _ _ c.loop-kept.invariant k here c.kept-item.is off)
    ]

use Rattle.slp_tree.proofs.Common.{◌≡◌, ◌<◌, ◌++◌, ◌∷◌, [], length, true, false, arith, is_due, ranked}
use Rattle.slp_tree.proofs.DueLemmas.{due_pushed, due_passed}
use Rattle.slp_tree.proofs.due.push_due.Goals as goal
use Rattle.slp_tree.proofs.due.push_due.Goals.{then-is_due+in_ok-copy+in_ok-push, else-is_due}

pub loop-op-preserved : goal.loop-op-preserved
loop-op-preserved c =
    let here : c.loop-op.op < length c.args.slp.now.operations = omega (arith, c.count-op-end.ensures.count) in
    elim c.if-is_due.branch [
      | then-is_due+in_ok-copy+in_ok-push w ↦
          let due : is_due c.args.image.now c.args.slp.now.operations c.args.open_windows.now c.loop-op.op ≡ true = cc in
          let after : c.if-is_due.ranked.items ≡ c.loop-op.ranked.items ++ ranked c.args.image.now c.args.slp.now.priority c.loop-op.op ∷ [] =
          rw (w.ranked-is, w.push.ensures.items, w.in_ok-push.was) (λ j. c.loop-op.ranked.items ++ record { priority = w.priority.ensures j; due = record { id = record { client = w.in_ok-copy.ensures j; time = c.args.image.now.id.time }; op = c.loop-op.op } } ∷ []) in
          due_pushed c.args.image.now c.args.slp.now c.args.open_windows.now c.loop-op.op _ _ _ here due c.loop-op.invariant after
      | else-is_due w ↦
          let other : is_due c.args.image.now c.args.slp.now.operations c.args.open_windows.now c.loop-op.op ≡ false = cc in
          rw w.ranked-is (due_passed c.args.image.now c.args.slp.now c.args.open_windows.now c.loop-op.op _ _ here other c.loop-op.invariant)
    ]

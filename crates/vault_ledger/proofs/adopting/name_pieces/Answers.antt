use Rattle.std.proofs.Common.{◌+◌, ◌-◌, ◌++◌, length, take, refl, arith, rules}
use Rattle.vault_ledger.proofs.Adoptions.{next_named, none_left, unfit_slot}
use Rattle.vault_ledger.proofs.LiveSlots.{same_pool}
use Rattle.vault_ledger.proofs.adopting.name_pieces.Goals.{then-rest-eq0-via-then-rest-eq0, then-rest-eq0-via-else-rest-eq0+then-not-name_piece}
use Rattle.vault_ledger.proofs.adopting.name_pieces.Goals as goal

pub loop-slot-preserved : goal.loop-slot-preserved
loop-slot-preserved g c =
    let i = c.loop-slot.invariant in
    let slots = c.args.slots.now in
    record {
      same = same_pool _ _ _ i.same c.name_piece.ensures.same;
      few = c.name_piece.ensures.few (length slots - (c.loop-slot.slot-index + 1)) (λ t. omega (arith, i.few t));
      so_far = λ known named h. next_named c.args.pool.now.size known named c.args.bytes slots c.loop-slot.slot-index c.loop-slot.rest c.min.result _ c.loop-slot.pool c.name_piece.new.pool (omega arith) (omega arith) (omega arith) (i.so_far known named h) (omega arith)
          (c.if-not-name_piece.ensures.named known (named ++ take c.loop-slot.slot-index slots) (i.so_far known named h).holds);
    }

pub returns-then-rest-eq0-clause-named : goal.returns-then-rest-eq0-clause-named
returns-then-rest-eq0-clause-named g c = λ known named h.
    let slots = c.args.slots.now in
    let far = c.loop-slot.invariant.so_far known named h in
    elim c.then-rest-eq0.branch [
      | then-rest-eq0-via-then-rest-eq0 w ↦ none_left c.args.pool.now.size known named c.args.bytes slots c.loop-slot.slot-index c.loop-slot.rest _ _ c.loop-slot.pool c.loop-slot.pool (omega arith) refl refl far (search rules)
      | then-rest-eq0-via-else-rest-eq0+then-not-name_piece w ↦ unfit_slot c.args.pool.now.size known named c.args.bytes slots c.loop-slot.slot-index c.loop-slot.rest w.min.result _ c.loop-slot.pool w.name_piece.new.pool (omega arith) (omega arith) refl far
          (w.if-not-name_piece.ensures.named known (named ++ take c.loop-slot.slot-index slots) far.holds)
    ]

use Rattle.std.proofs.Common.{◌+◌, ◌-◌, drop, get_or, length, refl, arith}
use Rattle.std.proofs.lemmas.List.{drop_more}
use Rattle.vault_ledger.proofs.Kept.{all_kept, counts_next, kept_at, pinned_first, pinned_next}
use Rattle.vault_ledger.proofs.LiveSlots.{same_pool}
use Rattle.vault_ledger.proofs.keeping.keep_pieces.Goals as goal

pub keep_piece-requires-clause-pinned : goal.keep_piece-requires-clause-pinned
keep_piece-requires-clause-pinned g c =
    let slots = c.args.slots.now in
    let i = c.loop-slot.slot-index in
    pinned_first (get_or slots i 0) (drop (i + 1) slots) c.loop-slot.pool (rw (drop_more slots i 0 (omega arith)) at c.loop-slot.invariant.pinned)

pub loop-slot-preserved : goal.loop-slot-preserved
loop-slot-preserved g c =
    let so_far = c.loop-slot.invariant in
    let slots = c.args.slots.now in
    let i = c.loop-slot.slot-index in
    let pinned = rw (drop_more slots i 0 (omega arith)) at so_far.pinned in
    let first = pinned_first (get_or slots i 0) (drop (i + 1) slots) c.loop-slot.pool pinned in
    let now = c.keep_piece.ensures.kept first.0 first.1 in
    record {
      same = same_pool _ _ _ so_far.same now.pool;
      pinned = pinned_next c.loop-slot.pool c.keep_piece.new.pool (get_or slots i 0) (drop (i + 1) slots) first.0 first.1 now pinned;
      few = counts_next _ _ _ first.0 (length slots - (i + 1)) (length slots - i) first.1 now (omega arith) so_far.few;
      room = omega (arith, so_far.room, c.keep_piece.ensures.room, c.keep_piece.ensures.short);
      short = omega (arith, so_far.short, c.keep_piece.ensures.short);
      so_far = λ before known named placed. kept_at before c.args.pool.now known named slots placed i (get_or slots i 0) c.loop-slot.added.items c.keep_piece.new.added.items c.loop-slot.pool c.keep_piece.new.pool first.0 (omega arith) refl first.1 now
          (c.keep_piece.ensures.added first.0 first.1) (so_far.so_far before known named placed);
    }

pub returns-clause-kept : goal.returns-clause-kept
returns-clause-kept g c = λ before known named h pins.
    (all_kept before c.args.pool.now known named c.args.slots.now (h, pins) c.loop-slot.slot-index _ _ (omega arith) (c.loop-slot.invariant.so_far before known named (h, pins))).0

pub returns-clause-order : goal.returns-clause-order
returns-clause-order g c = λ before known named h pins.
    (all_kept before c.args.pool.now known named c.args.slots.now (h, pins) c.loop-slot.slot-index _ c.loop-slot.pool (omega arith) (c.loop-slot.invariant.so_far before known named (h, pins))).1

pub returns-clause-fits : goal.returns-clause-fits
returns-clause-fits g c = λ before known named h pins. (c.loop-slot.invariant.so_far before known named (h, pins)).fits

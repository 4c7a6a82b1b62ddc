use Rattle.std.proofs.Common.{ap, arith}
use Rattle.segment_pool.specs.Slots.{count_of, made_live}
use Rattle.vault_ledger.proofs.Kept.{is_made_live, kept_now}
use Rattle.vault_ledger.proofs.keeping.keep_piece.Goals as goal

pub raise_count-requires : goal.raise_count-requires
raise_count-requires g c =
    let pinned = c.requires.pinned in
    let made = is_made_live pinned.0 in
    (made_live pinned.0, (c.make_live.ensures.live pinned.0 pinned.1).here, made.0, omega (arith, made.1, c.requires.few c.args.slot, ap count_of pinned.1))

pub unpin-requires : goal.unpin-requires
unpin-requires g c =
    let pinned = c.requires.pinned in
    let raised = c.raise_count.ensures (made_live pinned.0) (c.make_live.ensures.live pinned.0 pinned.1).here in
    (_, raised.here, omega (arith, (is_made_live pinned.0).2, pinned.2))

pub returns-clause-kept : goal.returns-clause-kept
returns-clause-kept g c = λ what is. kept_now _ _ _ _ c.args.slot what (c.make_live.ensures.live what is) c.raise_count.ensures c.unpin.ensures

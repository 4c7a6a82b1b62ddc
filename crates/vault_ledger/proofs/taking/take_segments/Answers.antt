use Rattle.std.proofs.Common.{◌++◌, length, rules}
use Rattle.vault_ledger.proofs.LiveSlots.{counts_fit}
use Rattle.vault_ledger.proofs.TakenBackups.{adopted_holds}
use Rattle.vault_ledger.proofs.taking.take_segments.Goals as goal

pub name_pieces-requires : goal.name_pieces-requires
name_pieces-requires g c =
    let known = c.requires.few in
    let holds = adopted_holds _ _ _ _ _ (search rules) (c.in_ok-adopt.ensures.adopted known.0 known.1 known.2) in
    record { few = counts_fit (known.0 ++ c.args.added.now) known.1 c.adopt.new.pool holds.1 (length c.args.slots.now) known.3 }

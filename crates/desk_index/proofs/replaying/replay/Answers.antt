use Rattle.std.proofs.Common.{◌∙◌, ◌<◌, ◌≤◌, arith, ap, sym, subst, List, length, get_or}
use Rattle.pool_journal.specs.declared.records.Placed.{Placed}
use Rattle.vault_ledger.specs.Ledger.{new_ledger}
use Rattle.desk_index.proofs.ReplayedRecords.{all_replayed, fit_at, nothing_yet, still_known, unfit_at}
use Rattle.desk_index.proofs.replaying.replay.Goals as goal

pub loop-placed-init : goal.loop-placed-init
loop-placed-init c = (λ fs are. nothing_yet fs c.in_ok-index.index c.in_ok-index.ensures, new_ledger, c.in_ok-index.ensures)

pub replay_record-requires : goal.replay_record-requires
replay_record-requires c = record { known = (c.loop-placed.invariant.1, c.loop-placed.invariant.2) }

pub returns-then-not-branch-clause-replayed : goal.returns-then-not-branch-clause-replayed
returns-then-not-branch-clause-replayed c fs are =
    let far = c.loop-placed.invariant.0 fs are in
    unfit_at fs c.loop-placed.index c.replay_record.new.index c.loop-placed.placed-index c.placed-item.result c.in_ok-replay_record.field-0 far (subst (λ (l : List Placed). c.loop-placed.placed-index < length l) (sym are) (omega arith))
    (c.placed-item.is ∙ ap (λ (l : List Placed). get_or l c.loop-placed.placed-index c.placed-item.result) (sym are)) (c.in_ok-replay_record.ensures far.ledger far.is_of) c.if-not-branch.true

pub loop-placed-preserved : goal.loop-placed-preserved
loop-placed-preserved c =
    let known = still_known _ c.replay_record.new.index c.in_ok-replay_record.field-0 c.if-not-branch.false (c.in_ok-replay_record.ensures c.loop-placed.invariant.1 c.loop-placed.invariant.2) in (
      λ fs are.
          let far = c.loop-placed.invariant.0 fs are in
          fit_at fs c.loop-placed.index c.replay_record.new.index c.loop-placed.placed-index c.placed-item.result c.in_ok-replay_record.field-0 far (subst (λ (l : List Placed). c.loop-placed.placed-index < length l) (sym are) (omega arith))
          (c.placed-item.is ∙ ap (λ (l : List Placed). get_or l c.loop-placed.placed-index c.placed-item.result) (sym are)) (c.in_ok-replay_record.ensures far.ledger far.is_of) c.if-not-branch.false,
      known.0,
      known.1,
    )

pub returns-clause-replayed : goal.returns-clause-replayed
returns-clause-replayed c fs are = all_replayed fs c.loop-placed.index c.loop-placed.placed-index (subst (λ (l : List Placed). length l ≤ c.loop-placed.placed-index) (sym are) (omega arith)) (c.loop-placed.invariant.0 fs are)

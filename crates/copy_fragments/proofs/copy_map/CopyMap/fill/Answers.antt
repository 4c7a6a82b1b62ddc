use Rattle.std.proofs.Common.{ℕ, length, rules, arith, ◌∙◌}
use Rattle.vault_disk.proofs.Moments.{same_on}
use Rattle.vault_disk.proofs.ReadOn.{within_part}
use Rattle.segment_pool.specs.Faults.{TroubleHolds}
use Rattle.segment_pool.specs.declared.fault.ReadTrouble.{ReadTrouble}
use Rattle.segment_pool.specs.declared.slot.Slot.{Slot}
use Rattle.segment_pool.proofs.Placings.{looked_after}
use Rattle.copy_fragments.proofs.Reading.{held_before, part_on, same_image, turn_trouble}
use Rattle.copy_fragments.proofs.copy_map.CopyMap.fill.Goals as goal

pub loop-done-preserved : goal.loop-done-preserved
loop-done-preserved g c =
    let i = c.loop-done.invariant in
    record {
      within = within_part _ _ _ _ c.read_piece.new.into i.within c.in_ok-done.ensures.count.1;
      pool = c.read_piece.ensures.pool ∙ i.pool;
      same = same_on i.same c.read_piece.ensures.same;
      looked = λ told. looked_after _ _ _ (i.looked told) (c.read_piece.ensures.looked (i.same.tells told)) i.same;
      part = λ told. part_on g.F.Fingerprint.digest_of c.args.pool.now c.loop-done.pool (g.V.Vault.disk c.args.vault.now).seen (g.V.Vault.disk c.loop-done.vault).seen c.args.self.now c.args.at c.loop-done.done c.in_ok-done.field-0 _ _ c.loop-done.into c.read_piece.new.into
          i.pool (same_image _ _ (λ f. (i.looked told).rests.seen f)) (search rules) (omega arith) c.in_ok-done.ensures.count.1 (i.part told) (c.in_ok-done.ensures.part (i.same.tells told));
    }

pub returns-in_err-done-clause-told : goal.returns-in_err-done-clause-told
returns-in_err-done-clause-told g c = λ told.
    let i = c.loop-done.invariant in
    turn_trouble c.args.pool.now c.loop-done.pool c.args.self.now c.args.at c.loop-done.done (length c.args.into.now) _ _
    (λ (s : ℕ) (w : Slot) (t : ReadTrouble). TroubleHolds g.F.Fingerprint.digest_of c.loop-done.pool (g.V.Vault.disk c.loop-done.vault).seen s t)
    (λ (s : ℕ) (w : Slot) (t : ReadTrouble). TroubleHolds g.F.Fingerprint.digest_of c.args.pool.now (g.V.Vault.disk c.args.vault.now).seen s t)
    c.in_err-done.field-0.0 c.from_residual.result i.pool (search rules) (search rules) (omega arith)
    (λ s w. held_before g.F.Fingerprint.digest_of c.args.pool.now c.loop-done.pool _ _ s c.in_err-done.field-0.0 i.pool (same_image _ _ (λ f. (i.looked told).rests.seen f)))
    (c.in_err-done.ensures.told (i.same.tells told))

pub returns-in_err-done-clause-looked : goal.returns-in_err-done-clause-looked
returns-in_err-done-clause-looked g c = λ told. looked_after _ _ _ (c.loop-done.invariant.looked told) (c.read_piece.ensures.looked (c.loop-done.invariant.same.tells told)) c.loop-done.invariant.same

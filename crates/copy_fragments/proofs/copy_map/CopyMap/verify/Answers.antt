use Rattle.std.proofs.Common.{ℕ, get_or, rules, ◌∙◌, ap}
use Rattle.std.proofs.lemmas.Option.{slice_get_within}
use Rattle.vault_disk.proofs.Moments.{same_on}
use Rattle.segment_pool.specs.Faults.{TroubleHolds, TroubleOf}
use Rattle.segment_pool.specs.Slots.{PoolState, held}
use Rattle.segment_pool.specs.declared.fault.ReadTrouble.{ReadTrouble}
use Rattle.segment_pool.specs.declared.slot.Slot.{Slot}
use Rattle.segment_pool.proofs.Placings.{looked_after}
use Rattle.copy_fragments.proofs.Reading.{held_before, later_cause, same_image}
use Rattle.copy_fragments.proofs.WholeReading.{first_at, slot_there, trouble_at, whole_on}
use Rattle.copy_fragments.proofs.copy_map.CopyMap.verify.Goals as goal

pub loop-slot-preserved : goal.loop-slot-preserved
loop-slot-preserved g c =
    let i = c.loop-slot.invariant in
    record {
      pool = c.read_part.ensures.pool ∙ i.pool;
      same = same_on i.same c.read_part.ensures.same;
      looked = λ told. looked_after _ _ _ (i.looked told) (c.read_part.ensures.looked (i.same.tells told)) i.same;
      whole = λ told. whole_on g.F.Fingerprint.digest_of c.args.pool.now c.loop-slot.pool _ _ c.args.self.now c.loop-slot.slot-index _ i.pool (same_image _ _ (λ f. (i.looked told).rests.seen f))
          (slot_there _ _ c.loop-slot.slot-index c.slots-slot-items.ensures.is c.loop-slot-test.true) (i.whole told) (c.in_ok-read_part.ensures.whole (i.same.tells told));
    }

pub returns-in_err-read_part-clause-told : goal.returns-in_err-read_part-clause-told
returns-in_err-read_part-clause-told g c = λ told.
    let i = c.loop-slot.invariant in
    trouble_at c.args.pool.now c.args.self.now c.loop-slot.slot-index _ (λ (s : ℕ) (w : Slot) (t : ReadTrouble). TroubleHolds g.F.Fingerprint.digest_of c.args.pool.now (g.V.Vault.disk c.args.vault.now).seen s t)
    c.in_err-read_part.field-0.0 c.from_residual.result c.slots-slot-items.ensures.count c.requires (slot_there _ _ c.loop-slot.slot-index c.slots-slot-items.ensures.is c.loop-slot-test.true) c.from_residual.ensures.1
    (λ what is. held_before g.F.Fingerprint.digest_of c.args.pool.now c.loop-slot.pool _ _ _ c.in_err-read_part.field-0.0 i.pool (same_image _ _ (λ f. (i.looked told).rests.seen f)) (c.in_err-read_part.ensures.told (i.same.tells told)))

pub returns-in_err-read_part-clause-first : goal.returns-in_err-read_part-clause-first
returns-in_err-read_part-clause-first g c = λ told.
    let i = c.loop-slot.invariant in
    first_at g.F.Fingerprint.digest_of c.args.pool.now _ c.args.self.now c.loop-slot.slot-index _ c.in_err-read_part.field-0.0 c.from_residual.result
    (slot_there _ _ c.loop-slot.slot-index c.slots-slot-items.ensures.is c.loop-slot-test.true) (i.whole told) c.from_residual.ensures.1
    (held_before g.F.Fingerprint.digest_of c.args.pool.now c.loop-slot.pool _ _ _ c.in_err-read_part.field-0.0 i.pool (same_image _ _ (λ f. (i.looked told).rests.seen f)) (c.in_err-read_part.ensures.told (i.same.tells told)))

pub returns-in_err-read_part-clause-cause : goal.returns-in_err-read_part-clause-cause
returns-in_err-read_part-clause-cause g c =
    let i = c.loop-slot.invariant in
    trouble_at c.args.pool.now c.args.self.now c.loop-slot.slot-index _ (λ (s : ℕ) (w : Slot) (t : ReadTrouble). TroubleOf w.digest (g.V.Vault.disk c.args.vault.now).faults (g.V.Vault.disk c.read_part.new.vault).faults t)
    c.in_err-read_part.field-0.0 c.from_residual.result c.slots-slot-items.ensures.count c.requires (slot_there _ _ c.loop-slot.slot-index c.slots-slot-items.ensures.is c.loop-slot-test.true) c.from_residual.ensures.1
    (λ what is. later_cause what.digest _ _ _ c.in_err-read_part.field-0.0 i.same.faults (c.in_err-read_part.ensures.cause what (ap (λ (p : PoolState). held p (get_or c.slots-slot-items.result.now c.loop-slot.slot-index 0)) i.pool ∙ is)))

pub returns-clause-whole : goal.returns-clause-whole
returns-clause-whole g c = λ told index slot what slot_is is.
    c.loop-slot.invariant.whole told index slot what (let z = slice_get_within c.args.self.now.slots index slot slot_is in search (z, rules)) slot_is is

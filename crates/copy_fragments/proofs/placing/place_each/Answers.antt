use Rattle.std.proofs.Common.{◌≡◌, ℕ, ◌+◌, ◌*◌, ◌≤◌, List, [], ◌∷◌, ◌++◌, Some, length, sym, ◌∙◌, ap, subst, arith, rules, ◌≢◌}
use Rattle.std.specs.Prelude.{IfErr, slice_get}
use Rattle.std.proofs.lemmas.Option.{slice_get_within}
use Rattle.vault_disk.proofs.Moments.{same_on}
use Rattle.segment_pool.specs.Faults.{IsDamage, IsDiskFault}
use Rattle.segment_pool.specs.Pieces.{pieces}
use Rattle.segment_pool.specs.Placing.{KeepsPieces}
use Rattle.segment_pool.specs.Slots.{number_held}
use Rattle.segment_pool.specs.declared.fault.PoolFault.TheVariants as fault
use Rattle.segment_pool.proofs.Changes.{as_before_self}
use Rattle.copy_fragments.specs.Placings.{FitPieces, PlacingFails, PlacingTold, held_pieces, lacking}
use Rattle.copy_fragments.specs.PlacingSteps.{HasPieces, IsDamageOf, PlacedSoFar, StaysTrue}
use Rattle.copy_fragments.proofs.Fitting.{fit_on}
use Rattle.copy_fragments.proofs.Kept.{few_pieces, piece_bounds}
use Rattle.copy_fragments.proofs.Pinning.{few_pins}
use Rattle.copy_fragments.proofs.Progress.{placed_before, placed_on, spare_on}
use Rattle.copy_fragments.proofs.Refusing.{damage_of, err_is, fails_cause, fails_told, no_want, seen_refused, told_full, touches_all, touches_refused}
use Rattle.copy_fragments.proofs.Taking.{has_on, taken_by, true_on}
use Rattle.copy_fragments.proofs.placing.place_each.Goals as goal

pub find_or_place-requires-clause-some : goal.find_or_place-requires-clause-some
find_or_place-requires-clause-some g c = (piece_bounds c.args.cut.now.size c.loop-piece.index c.args.cut.now.bytes c.in-Some.piece.0.now c.requires.some c.in-Some.ensures.0).0

pub find_or_place-requires-clause-short : goal.find_or_place-requires-clause-short
find_or_place-requires-clause-short g c =
    let far = c.loop-piece.invariant.slots c.args.pool.now (as_before_self c.args.pool.now) in
    omega (arith, (piece_bounds c.args.cut.now.size c.loop-piece.index c.args.cut.now.bytes c.in-Some.piece.0.now c.requires.some c.in-Some.ensures.0).1, c.requires.size, far.pinned.size)

pub find_or_place-requires-clause-pins : goal.find_or_place-requires-clause-pins
find_or_place-requires-clause-pins g c = λ slot what is.
    let far = c.loop-piece.invariant.slots c.args.pool.now (as_before_self c.args.pool.now) in
    omega (arith, few_pins c.args.pool.now c.loop-piece.pool c.loop-piece.placed.items c.requires.pins.0 far.pinned c.requires.pins.1 slot what is, c.loop-piece.invariant.count, few_pieces c.args.cut.now.size c.args.cut.now.bytes c.requires.some, c.loop-piece.invariant.within, c.requires.pins.2)

pub returns-in_err-slot-clause-slots : goal.returns-in_err-slot-clause-slots
returns-in_err-slot-clause-slots g c = λ start before. placed_before start c.loop-piece.pool c.find_or_place.new.self c.loop-piece.placed.items (c.loop-piece.invariant.slots start before) c.in_err-slot.ensures.refused

pub returns-in_err-slot-clause-cause : goal.returns-in_err-slot-clause-cause
returns-in_err-slot-clause-cause g c = λ start before.
    err_is c.from_residual.result c.in_err-slot.field-0.0 (λ e. (IsDamage e → ⊥) → PlacingFails start (g.V.Vault.disk c.args.vault.now).faults (g.V.Vault.disk c.find_or_place.new.vault).faults e) (search rules)
    (fails_cause start c.loop-piece.pool c.loop-piece.placed.items c.in-Some.piece.1 _ (g.V.Vault.disk c.loop-piece.vault).faults _ c.in_err-slot.field-0.0 (c.loop-piece.invariant.slots start before) c.loop-piece.invariant.same.faults c.in_err-slot.ensures.cause)

pub returns-in_err-slot-clause-damaged : goal.returns-in_err-slot-clause-damaged
returns-in_err-slot-clause-damaged g c =
    err_is c.from_residual.result c.in_err-slot.field-0.0 (IsDamageOf g.F.Fingerprint.digest_of (pieces c.args.cut.now.size c.args.cut.now.bytes)) (search rules)
    (damage_of g.F.Fingerprint.digest_of c.loop-piece.pool (pieces c.args.cut.now.size c.args.cut.now.bytes) c.loop-piece.index c.in-Some.piece.0.now c.in-Some.piece.1 _ _ c.in_err-slot.field-0.0 c.in-Some.ensures.0 c.in-Some.ensures.1 c.in_err-slot.ensures.cause)

pub returns-in_err-slot-clause-memory : goal.returns-in_err-slot-clause-memory
returns-in_err-slot-clause-memory g c =
    err_is c.from_residual.result c.in_err-slot.field-0.0 (λ e. e ≢ fault.NoMemory) (search rules)
    (no_want c.loop-piece.pool c.in-Some.piece.1 _ _ c.in_err-slot.field-0.0 (omega (arith, c.loop-piece.invariant.spare, slice_get_within (pieces c.args.cut.now.size c.args.cut.now.bytes) c.loop-piece.index c.in-Some.piece.0.now c.in-Some.ensures.0)) c.in_err-slot.ensures.cause)

pub unreachable-requires : goal.unreachable-requires
unreachable-requires g c = omega (arith, c.loop-piece.invariant.room, c.loop-piece.invariant.count, c.in_default-push.ensures.full, slice_get_within (pieces c.args.cut.now.size c.args.cut.now.bytes) c.loop-piece.index c.in-Some.piece.0.now c.in-Some.ensures.0)

pub loop-piece-smaller : goal.loop-piece-smaller
loop-piece-smaller g c = omega (arith, slice_get_within (pieces c.args.cut.now.size c.args.cut.now.bytes) c.loop-piece.index c.in-Some.piece.0.now c.in-Some.ensures.0)

pub returns-clause-touches : goal.returns-clause-touches
returns-clause-touches g c = λ told start before.
    touches_all g.F.Fingerprint.digest_of start c.loop-piece.pool (g.V.Vault.disk c.args.vault.now) (g.V.Vault.disk c.loop-piece.vault) (pieces c.args.cut.now.size c.args.cut.now.bytes) c.loop-piece.placed.items
    (c.loop-piece.invariant.slots start before) (c.loop-piece.invariant.has told start before) (omega (arith, c.loop-piece.invariant.count, c.loop-piece.invariant.within)) _ (omega (arith, c.loop-piece.invariant.count, c.loop-piece.invariant.within))

pub returns-in_err-slot-clause-cause_told : goal.returns-in_err-slot-clause-cause_told
returns-in_err-slot-clause-cause_told g c = λ told start before.
    let i = c.loop-piece.invariant in
    let far = i.slots start before in
    err_is c.from_residual.result c.in_err-slot.field-0.0 (PlacingFails start (g.V.Vault.disk c.args.vault.now).faults (g.V.Vault.disk c.find_or_place.new.vault).faults) (search rules)
    (fails_told g.F.Fingerprint.digest_of start c.loop-piece.pool (g.V.Vault.disk c.args.vault.now) (g.V.Vault.disk c.loop-piece.vault) (pieces c.args.cut.now.size c.args.cut.now.bytes) c.loop-piece.placed.items far (i.has told start before) (omega (arith, i.count, i.within))
    _ _ c.in-Some.piece.0.now c.in_err-slot.field-0.0
    (fails_cause start c.loop-piece.pool c.loop-piece.placed.items c.in-Some.piece.1 _ (g.V.Vault.disk c.loop-piece.vault).faults _ c.in_err-slot.field-0.0 far i.same.faults c.in_err-slot.ensures.cause)
    (c.in_err-slot.ensures.told (i.same.tells told)))

pub returns-in_err-slot-clause-told : goal.returns-in_err-slot-clause-told
returns-in_err-slot-clause-told g c =
    let is : IfErr c.from_residual.result (λ e. e ≡ c.in_err-slot.field-0.0) = search rules in
    λ told start before true_pool.
    let i = c.loop-piece.invariant in
    let stays = i.stays_true told start before true_pool in
    let here : slice_get (pieces c.args.cut.now.size c.args.cut.now.bytes) (length c.loop-piece.placed.items) ≡ Some c.in-Some.piece.0.now = ap (λ (k : ℕ). slice_get (pieces c.args.cut.now.size c.args.cut.now.bytes) k) i.count ∙ c.in-Some.ensures.0 in
    err_is c.from_residual.result c.in_err-slot.field-0.0 (PlacingTold g.F.Fingerprint.digest_of start (g.V.Vault.disk c.args.vault.now).seen c.args.cut.now.bytes) is
    (told_full g.F.Fingerprint.digest_of start c.loop-piece.pool (g.V.Vault.disk c.args.vault.now) (g.V.Vault.disk c.loop-piece.vault) (pieces c.args.cut.now.size c.args.cut.now.bytes) c.loop-piece.placed.items (i.slots start before) (i.has told start before) (omega (arith, i.count, i.within))
    _ _ c.in-Some.piece.1 c.in-Some.piece.0.now c.args.cut.now.bytes c.in_err-slot.field-0.0 true_pool stays here
    (c.in_err-slot.ensures.undamaged (i.same.tells told) stays.true_pool) c.in_err-slot.ensures.cause (c.in_err-slot.ensures.told (i.same.tells told))
    (ap (λ (k : ℕ). length (lacking (held_pieces start (g.V.Vault.disk c.args.vault.now).seen) (pieces k c.args.cut.now.bytes))) (c.requires.size ∙ before.size)))

pub returns-in_err-slot-clause-touches : goal.returns-in_err-slot-clause-touches
returns-in_err-slot-clause-touches g c = λ told start before.
    let i = c.loop-piece.invariant in
    let far = i.slots c.args.pool.now (as_before_self c.args.pool.now) in
    let within = slice_get_within (pieces c.args.cut.now.size c.args.cut.now.bytes) c.loop-piece.index c.in-Some.piece.0.now c.in-Some.ensures.0 in
    touches_refused g.F.Fingerprint.digest_of start c.loop-piece.pool (g.V.Vault.disk c.args.vault.now) (g.V.Vault.disk c.loop-piece.vault) (pieces c.args.cut.now.size c.args.cut.now.bytes) c.loop-piece.placed.items (i.slots start before) (i.has told start before) (omega (arith, i.count, i.within))
    _ c.in-Some.piece.0.now _ (omega (arith, i.count, within))
    (omega (arith, (piece_bounds c.args.cut.now.size c.loop-piece.index c.args.cut.now.bytes c.in-Some.piece.0.now c.requires.some c.in-Some.ensures.0).1, c.requires.size, far.pinned.size))
    i.same (c.in_err-slot.ensures.touches (i.same.tells told))

pub returns-in_err-slot-clause-seen_refused : goal.returns-in_err-slot-clause-seen_refused
returns-in_err-slot-clause-seen_refused g c = λ told start before.
    let i = c.loop-piece.invariant in
    err_is c.from_residual.result c.in_err-slot.field-0.0 (λ e. (IsDiskFault e → ⊥) → KeepsPieces start ((number_held start + length (pieces c.args.cut.now.size c.args.cut.now.bytes)) * start.size) (g.V.Vault.disk c.args.vault.now).seen (g.V.Vault.disk c.find_or_place.new.vault).seen) (search rules)
    (λ other. seen_refused g.F.Fingerprint.digest_of start c.loop-piece.pool (g.V.Vault.disk c.args.vault.now) (g.V.Vault.disk c.loop-piece.vault) (pieces c.args.cut.now.size c.args.cut.now.bytes) c.loop-piece.placed.items (i.slots start before) (i.has told start before) (omega (arith, i.count, i.within))
    _ _ (omega (arith, i.count, i.within)) (λ f. (c.in_err-slot.ensures.looked (i.same.tells told) other).rests.seen f))

pub loop-piece-preserved : goal.loop-piece-preserved
loop-piece-preserved g c =
    let i = c.loop-piece.invariant in
    let within = slice_get_within (pieces c.args.cut.now.size c.args.cut.now.bytes) c.loop-piece.index c.in-Some.piece.0.now c.in-Some.ensures.0 in
    let here : slice_get (pieces c.args.cut.now.size c.args.cut.now.bytes) (length c.loop-piece.placed.items) ≡ Some c.in-Some.piece.0.now = ap (λ (k : ℕ). slice_get (pieces c.args.cut.now.size c.args.cut.now.bytes) k) i.count ∙ c.in-Some.ensures.0 in
    let items : c.push.new.self.items ≡ c.loop-piece.placed.items ++ c.in_ok-slot.slot ∷ [] = c.in-Ok.ensures.items in
    let short : length c.in-Some.piece.0.now ≤ c.loop-piece.pool.size =
    omega (arith, (piece_bounds c.args.cut.now.size c.loop-piece.index c.args.cut.now.bytes c.in-Some.piece.0.now c.requires.some c.in-Some.ensures.0).1, c.requires.size, (i.slots c.args.pool.now (as_before_self c.args.pool.now)).pinned.size) in
    let taken = λ (told : (g.V.Vault.disk c.args.vault.now).tells).
    taken_by g.F.Fingerprint.digest_of c.loop-piece.pool c.find_or_place.new.self (g.V.Vault.disk c.loop-piece.vault) (g.V.Vault.disk c.find_or_place.new.vault) c.in_ok-slot.slot c.in-Some.piece.0.now c.in-Some.piece.1 short c.in_ok-slot.ensures.pinned
    (c.in_ok-slot.ensures.ways (i.same.tells told)) (c.in_ok-slot.ensures.piece (i.same.tells told)) (c.in_ok-slot.ensures.found (i.same.tells told)) (c.in_ok-slot.ensures.touches (i.same.tells told)) (c.in_ok-slot.ensures.seen (i.same.tells told)) in
    record {
      count = search rules;
      within = omega (arith, within);
      room = search rules;
      spare = omega (arith, i.spare, spare_on c.loop-piece.pool c.find_or_place.new.self c.in_ok-slot.slot (length c.in-Some.piece.0.now) c.in-Some.piece.1 c.in_ok-slot.ensures.pinned);
      same = same_on i.same c.find_or_place.ensures.same;
      slots = λ start before. subst (λ (l : List ℕ). PlacedSoFar start c.find_or_place.new.self l) (sym items)
          (placed_on start c.loop-piece.pool c.find_or_place.new.self c.in_ok-slot.slot (length c.in-Some.piece.0.now) c.in-Some.piece.1 c.loop-piece.placed.items (i.slots start before) c.in_ok-slot.ensures.pinned);
      fit = λ start before. subst (λ (l : List ℕ). FitPieces start c.find_or_place.new.self (pieces c.args.cut.now.size c.args.cut.now.bytes) l) (sym items)
          (fit_on start c.loop-piece.pool c.find_or_place.new.self c.in_ok-slot.slot c.in-Some.piece.0.now c.in-Some.piece.1 (pieces c.args.cut.now.size c.args.cut.now.bytes) c.loop-piece.placed.items (i.slots start before) (i.fit start before) here c.in_ok-slot.ensures.pinned);
      has = λ told start before. subst (λ (l : List ℕ). HasPieces g.F.Fingerprint.digest_of start c.find_or_place.new.self (g.V.Vault.disk c.args.vault.now) (g.V.Vault.disk c.find_or_place.new.vault) (pieces c.args.cut.now.size c.args.cut.now.bytes) l) (sym items)
          (has_on g.F.Fingerprint.digest_of c.loop-piece.pool c.find_or_place.new.self (g.V.Vault.disk c.loop-piece.vault) (g.V.Vault.disk c.find_or_place.new.vault) c.in_ok-slot.slot c.in-Some.piece.0.now c.in-Some.piece.1 (taken told) start (g.V.Vault.disk c.args.vault.now) _ c.loop-piece.placed.items (i.slots start before) (i.has told start before) i.same here);
      stays_true = λ told start before true_pool. let stays = i.stays_true told start before true_pool in
          subst (λ (l : List ℕ). StaysTrue g.F.Fingerprint.digest_of start c.find_or_place.new.self (g.V.Vault.disk c.args.vault.now) (g.V.Vault.disk c.find_or_place.new.vault) (pieces c.args.cut.now.size c.args.cut.now.bytes) l) (sym items)
          (true_on g.F.Fingerprint.digest_of start c.loop-piece.pool (g.V.Vault.disk c.args.vault.now) (g.V.Vault.disk c.loop-piece.vault) (pieces c.args.cut.now.size c.args.cut.now.bytes) c.loop-piece.placed.items (i.slots start before) (i.has told start before) (omega (arith, i.count, i.within)) true_pool
          c.find_or_place.new.self (g.V.Vault.disk c.find_or_place.new.vault) c.in_ok-slot.slot c.in-Some.piece.0.now c.in-Some.piece.1 (taken told) here stays (c.in_ok-slot.ensures.stays_true (i.same.tells told) stays.true_pool));
    }

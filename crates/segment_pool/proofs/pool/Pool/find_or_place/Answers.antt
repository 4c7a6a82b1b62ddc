use Rattle.std.proofs.Common.{◌≡◌, inl, ℕ, ◌*◌, length, sym, ◌∙◌, ap, subst, rules}
use Rattle.std.specs.Prelude.{Option, IfErr, IfOk, IfSome, MatchOption, OnErr, is_some}
use Rattle.vault_disk.specs.Steps.{Changes, written}
use Rattle.segment_pool.specs.Slots.{PoolState, IsAsBefore, IsLowestFree, Matches, PinnedAgain, Placed, held}
use Rattle.segment_pool.specs.Placing.{HasPiece, LacksPiece, TornIn}
use Rattle.segment_pool.specs.Faults.{FaultHolds}
use Rattle.segment_pool.proofs.Answered.{always_err, cause_since, looked_err, looked_later, pinned_again, place_piece, place_pinned, place_seen, place_told, place_true, place_ways, same_holder}
use Rattle.segment_pool.proofs.Changes.{as_before_self}
use Rattle.segment_pool.proofs.Placings.{again_has, again_true, keeps_same, touches_looked, touches_torn}
use Rattle.segment_pool.proofs.Troubles.{cause_of, told_of, undamaged_of}
use Rattle.segment_pool.proofs.pool.Pool.find_or_place.Goals as goal

pub returns-in_err-slot-clause-refused : goal.returns-in_err-slot-clause-refused
returns-in_err-slot-clause-refused g c = always_err c.from_residual.result (subst (λ (p : PoolState). IsAsBefore c.args.self.now p) (sym c.find.ensures.pool) (as_before_self c.args.self.now))

pub returns-in_err-slot-clause-cause : goal.returns-in_err-slot-clause-cause
returns-in_err-slot-clause-cause g c = cause_of c.args.self.now c.args.digest (g.V.Vault.disk c.args.vault.now).faults (g.V.Vault.disk c.find.new.vault).faults c.from_residual.result c.in_err-slot.field-0.0 (search rules) c.in_err-slot.ensures.cause

pub returns-in_err-slot-clause-told : goal.returns-in_err-slot-clause-told
returns-in_err-slot-clause-told g c = λ told. told_of g.F.Fingerprint.digest_of c.args.self.now (g.V.Vault.disk c.args.vault.now).seen c.args.piece.now c.from_residual.result c.in_err-slot.field-0.0 (search rules) (c.in_err-slot.ensures.told told)

pub returns-in_err-slot-clause-undamaged : goal.returns-in_err-slot-clause-undamaged
returns-in_err-slot-clause-undamaged g c = λ told true_pool. undamaged_of g.F.Fingerprint.digest_of c.args.self.now (g.V.Vault.disk c.args.vault.now).seen c.from_residual.result c.in_err-slot.field-0.0 (search rules) true_pool (c.in_err-slot.ensures.told told)

pub returns-in_err-slot-clause-touches : goal.returns-in_err-slot-clause-touches
returns-in_err-slot-clause-touches g c = λ told slot lowest. touches_looked c.args.self.now _ _ _ (c.find.ensures.looked told)

pub returns-in_err-slot-clause-looked : goal.returns-in_err-slot-clause-looked
returns-in_err-slot-clause-looked g c = λ told. looked_err _ _ c.from_residual.result (c.find.ensures.looked told)

pub pin-requires-clause-held : goal.pin-requires-clause-held
pin-requires-clause-held g c = let m : Matches c.args.self.now c.in-Some.slot (length c.args.piece.now) c.args.digest = (subst (λ (o : Option ℕ). IfSome o (λ s. Matches c.args.self.now s (length c.args.piece.now) c.args.digest)) c.in-Some.is c.in_ok-slot.ensures.matches) in ap (λ (p : PoolState). is_some (held p c.in-Some.slot)) c.find.ensures.pool ∙ ap is_some m.is_held

pub pin-requires-clause-few : goal.pin-requires-clause-few
pin-requires-clause-few g c = λ what is. c.requires.pins c.in-Some.slot what (ap (λ (p : PoolState). held p c.in-Some.slot) (sym c.find.ensures.pool) ∙ is)

pub returns-in-Some-clause-pinned : goal.returns-in-Some-clause-pinned
returns-in-Some-clause-pinned g c = let m : Matches c.args.self.now c.in-Some.slot (length c.args.piece.now) c.args.digest = (subst (λ (o : Option ℕ). IfSome o (λ s. Matches c.args.self.now s (length c.args.piece.now) c.args.digest)) c.in-Some.is c.in_ok-slot.ensures.matches) in let again : PinnedAgain c.args.self.now c.pin.new.self c.in-Some.slot (length c.args.piece.now) c.args.digest = pinned_again c.args.self.now c.find.new.self c.pin.new.self c.in-Some.slot (length c.args.piece.now) c.args.digest m c.find.ensures.pool c.pin.ensures in inl again

pub returns-in-Some-clause-piece : goal.returns-in-Some-clause-piece
returns-in-Some-clause-piece g c = λ told. let m : Matches c.args.self.now c.in-Some.slot (length c.args.piece.now) c.args.digest = (subst (λ (o : Option ℕ). IfSome o (λ s. Matches c.args.self.now s (length c.args.piece.now) c.args.digest)) c.in-Some.is c.in_ok-slot.ensures.matches) in let again : PinnedAgain c.args.self.now c.pin.new.self c.in-Some.slot (length c.args.piece.now) c.args.digest = pinned_again c.args.self.now c.find.new.self c.pin.new.self c.in-Some.slot (length c.args.piece.now) c.args.digest m c.find.ensures.pool c.pin.ensures in let has : HasPiece g.F.Fingerprint.digest_of c.args.self.now (g.V.Vault.disk c.args.vault.now).seen c.in-Some.slot c.args.piece.now = (subst (λ (o : Option ℕ). MatchOption o (LacksPiece g.F.Fingerprint.digest_of c.args.self.now (g.V.Vault.disk c.args.vault.now).seen c.args.piece.now) (λ s. HasPiece g.F.Fingerprint.digest_of c.args.self.now (g.V.Vault.disk c.args.vault.now).seen s c.args.piece.now)) c.in-Some.is (c.in_ok-slot.ensures.found told)) in again_has g.F.Fingerprint.digest_of c.args.self.now c.pin.new.self c.in-Some.slot c.args.piece.now c.args.digest c.requires.digest (g.V.Vault.disk c.args.vault.now).seen (g.V.Vault.disk c.find.new.vault).seen (λ f. (c.find.ensures.looked told).rests.seen f) again has

pub returns-in-Some-clause-found : goal.returns-in-Some-clause-found
returns-in-Some-clause-found g c = λ told slot there. ((subst (λ (o : Option ℕ). MatchOption o (LacksPiece g.F.Fingerprint.digest_of c.args.self.now (g.V.Vault.disk c.args.vault.now).seen c.args.piece.now) (λ s. HasPiece g.F.Fingerprint.digest_of c.args.self.now (g.V.Vault.disk c.args.vault.now).seen s c.args.piece.now)) c.in-Some.is (c.in_ok-slot.ensures.found told)), c.find.ensures.looked told)

pub returns-in-Some-clause-stays_true : goal.returns-in-Some-clause-stays_true
returns-in-Some-clause-stays_true g c = λ told true_pool. let m : Matches c.args.self.now c.in-Some.slot (length c.args.piece.now) c.args.digest = (subst (λ (o : Option ℕ). IfSome o (λ s. Matches c.args.self.now s (length c.args.piece.now) c.args.digest)) c.in-Some.is c.in_ok-slot.ensures.matches) in let again : PinnedAgain c.args.self.now c.pin.new.self c.in-Some.slot (length c.args.piece.now) c.args.digest = pinned_again c.args.self.now c.find.new.self c.pin.new.self c.in-Some.slot (length c.args.piece.now) c.args.digest m c.find.ensures.pool c.pin.ensures in again_true g.F.Fingerprint.digest_of c.args.self.now c.pin.new.self c.in-Some.slot c.args.piece.now c.args.digest c.requires.digest (g.V.Vault.disk c.args.vault.now).seen (g.V.Vault.disk c.find.new.vault).seen (λ f. (c.find.ensures.looked told).rests.seen f) again true_pool

pub returns-in-Some-clause-same_slot : goal.returns-in-Some-clause-same_slot
returns-in-Some-clause-same_slot g c = λ told true_pool slot there. let has : HasPiece g.F.Fingerprint.digest_of c.args.self.now (g.V.Vault.disk c.args.vault.now).seen c.in-Some.slot c.args.piece.now = (subst (λ (o : Option ℕ). MatchOption o (LacksPiece g.F.Fingerprint.digest_of c.args.self.now (g.V.Vault.disk c.args.vault.now).seen c.args.piece.now) (λ s. HasPiece g.F.Fingerprint.digest_of c.args.self.now (g.V.Vault.disk c.args.vault.now).seen s c.args.piece.now)) c.in-Some.is (c.in_ok-slot.ensures.found told)) in same_holder g.F.Fingerprint.digest_of c.args.self.now (g.V.Vault.disk c.args.vault.now).seen c.in-Some.slot slot c.args.piece.now true_pool has there

pub returns-in-Some-clause-touches : goal.returns-in-Some-clause-touches
returns-in-Some-clause-touches g c = λ told slot lowest. touches_looked c.args.self.now _ _ _ (c.find.ensures.looked told)

pub returns-in-Some-clause-seen : goal.returns-in-Some-clause-seen
returns-in-Some-clause-seen g c = λ told slot lowest. keeps_same c.args.self.now _ (g.V.Vault.disk c.args.vault.now).seen (g.V.Vault.disk c.find.new.vault).seen (λ f. (c.find.ensures.looked told).rests.seen f)

pub returns-clause-pinned : goal.returns-clause-pinned
returns-clause-pinned g c = let placed : IfOk c.place.result (λ s. Placed c.args.self.now c.place.new.self s (length c.args.piece.now) c.args.digest) = subst (λ (p : PoolState). IfOk c.place.result (λ s. Placed p c.place.new.self s (length c.args.piece.now) c.args.digest)) c.find.ensures.pool c.place.ensures.placed in place_pinned c.args.self.now c.place.new.self (length c.args.piece.now) c.args.digest c.place.result placed

pub returns-clause-refused : goal.returns-clause-refused
returns-clause-refused g c = subst (λ (p : PoolState). OnErr c.place.result (IsAsBefore p c.place.new.self)) c.find.ensures.pool c.place.ensures.refused

pub returns-clause-cause : goal.returns-clause-cause
returns-clause-cause g c = cause_since c.args.self.now c.args.digest (g.V.Vault.disk c.args.vault.now).faults (g.V.Vault.disk c.find.new.vault).faults (g.V.Vault.disk c.place.new.vault).faults c.place.result c.find.ensures.same.faults (subst (λ (p : PoolState). IfErr c.place.result (FaultHolds p c.args.digest (g.V.Vault.disk c.find.new.vault).faults (g.V.Vault.disk c.place.new.vault).faults)) c.find.ensures.pool c.place.ensures.cause)

pub returns-clause-told : goal.returns-clause-told
returns-clause-told g c = λ told. let lacks : LacksPiece g.F.Fingerprint.digest_of c.args.self.now (g.V.Vault.disk c.args.vault.now).seen c.args.piece.now = (subst (λ (o : Option ℕ). MatchOption o (LacksPiece g.F.Fingerprint.digest_of c.args.self.now (g.V.Vault.disk c.args.vault.now).seen c.args.piece.now) (λ s. HasPiece g.F.Fingerprint.digest_of c.args.self.now (g.V.Vault.disk c.args.vault.now).seen s c.args.piece.now)) c.in_default.is (c.in_ok-slot.ensures.found told)) in place_told g.F.Fingerprint.digest_of c.args.self.now (g.V.Vault.disk c.args.vault.now).seen c.args.piece.now c.place.result lacks c.place.ensures.no_damage

pub returns-clause-piece : goal.returns-clause-piece
returns-clause-piece g c = λ told. let placed : IfOk c.place.result (λ s. Placed c.args.self.now c.place.new.self s (length c.args.piece.now) c.args.digest) = subst (λ (p : PoolState). IfOk c.place.result (λ s. Placed p c.place.new.self s (length c.args.piece.now) c.args.digest)) c.find.ensures.pool c.place.ensures.placed in let wrote : IfOk c.place.result (λ s. Changes c.args.self.now.file (λ o n. n ≡ written o (s * c.args.self.now.size) c.args.piece.now) (g.V.Vault.disk c.find.new.vault).seen (g.V.Vault.disk c.place.new.vault).seen) = subst (λ (p : PoolState). IfOk c.place.result (λ s. Changes p.file (λ o n. n ≡ written o (s * p.size) c.args.piece.now) (g.V.Vault.disk c.find.new.vault).seen (g.V.Vault.disk c.place.new.vault).seen)) c.find.ensures.pool (c.place.ensures.written (c.find.ensures.same.tells told)) in place_piece g.F.Fingerprint.digest_of c.args.self.now c.place.new.self c.args.piece.now c.args.digest c.requires.digest (g.V.Vault.disk c.args.vault.now).seen (g.V.Vault.disk c.find.new.vault).seen (g.V.Vault.disk c.place.new.vault).seen (λ f. (c.find.ensures.looked told).rests.seen f) c.place.result placed wrote

pub returns-clause-found : goal.returns-clause-found
returns-clause-found g c = λ told slot there. let lacks : LacksPiece g.F.Fingerprint.digest_of c.args.self.now (g.V.Vault.disk c.args.vault.now).seen c.args.piece.now = (subst (λ (o : Option ℕ). MatchOption o (LacksPiece g.F.Fingerprint.digest_of c.args.self.now (g.V.Vault.disk c.args.vault.now).seen c.args.piece.now) (λ s. HasPiece g.F.Fingerprint.digest_of c.args.self.now (g.V.Vault.disk c.args.vault.now).seen s c.args.piece.now)) c.in_default.is (c.in_ok-slot.ensures.found told)) in absurd (lacks slot there)

pub returns-clause-stays_true : goal.returns-clause-stays_true
returns-clause-stays_true g c = λ told true_pool. let lacks : LacksPiece g.F.Fingerprint.digest_of c.args.self.now (g.V.Vault.disk c.args.vault.now).seen c.args.piece.now = (subst (λ (o : Option ℕ). MatchOption o (LacksPiece g.F.Fingerprint.digest_of c.args.self.now (g.V.Vault.disk c.args.vault.now).seen c.args.piece.now) (λ s. HasPiece g.F.Fingerprint.digest_of c.args.self.now (g.V.Vault.disk c.args.vault.now).seen s c.args.piece.now)) c.in_default.is (c.in_ok-slot.ensures.found told)) in let placed : IfOk c.place.result (λ s. Placed c.args.self.now c.place.new.self s (length c.args.piece.now) c.args.digest) = subst (λ (p : PoolState). IfOk c.place.result (λ s. Placed p c.place.new.self s (length c.args.piece.now) c.args.digest)) c.find.ensures.pool c.place.ensures.placed in let wrote : IfOk c.place.result (λ s. Changes c.args.self.now.file (λ o n. n ≡ written o (s * c.args.self.now.size) c.args.piece.now) (g.V.Vault.disk c.find.new.vault).seen (g.V.Vault.disk c.place.new.vault).seen) = subst (λ (p : PoolState). IfOk c.place.result (λ s. Changes p.file (λ o n. n ≡ written o (s * p.size) c.args.piece.now) (g.V.Vault.disk c.find.new.vault).seen (g.V.Vault.disk c.place.new.vault).seen)) c.find.ensures.pool (c.place.ensures.written (c.find.ensures.same.tells told)) in place_true g.F.Fingerprint.digest_of c.args.self.now c.place.new.self c.args.piece.now c.args.digest c.requires.digest (g.V.Vault.disk c.args.vault.now).seen (g.V.Vault.disk c.find.new.vault).seen (g.V.Vault.disk c.place.new.vault).seen (λ f. (c.find.ensures.looked told).rests.seen f) c.place.result c.find.ensures.sound c.requires.some c.requires.short lacks true_pool placed wrote

pub returns-clause-same_slot : goal.returns-clause-same_slot
returns-clause-same_slot g c = λ told true_pool slot there. let lacks : LacksPiece g.F.Fingerprint.digest_of c.args.self.now (g.V.Vault.disk c.args.vault.now).seen c.args.piece.now = (subst (λ (o : Option ℕ). MatchOption o (LacksPiece g.F.Fingerprint.digest_of c.args.self.now (g.V.Vault.disk c.args.vault.now).seen c.args.piece.now) (λ s. HasPiece g.F.Fingerprint.digest_of c.args.self.now (g.V.Vault.disk c.args.vault.now).seen s c.args.piece.now)) c.in_default.is (c.in_ok-slot.ensures.found told)) in absurd (lacks slot there)

pub returns-clause-undamaged : goal.returns-clause-undamaged
returns-clause-undamaged g c = λ told true_pool. c.place.ensures.no_damage

pub returns-clause-touches : goal.returns-clause-touches
returns-clause-touches g c = λ told slot lowest. touches_torn c.args.self.now slot (length c.args.piece.now) _ _ _ c.find.ensures.sound lowest.free c.requires.some c.requires.short (c.find.ensures.looked told) c.find.ensures.same (subst (λ (p : PoolState). TornIn p.file (slot * p.size) (length c.args.piece.now) (g.V.Vault.disk c.find.new.vault) (g.V.Vault.disk c.place.new.vault)) c.find.ensures.pool (c.place.ensures.left (c.find.ensures.same.tells told) slot (subst (λ (p : PoolState). IsLowestFree p slot) (sym c.find.ensures.pool) lowest)))

pub returns-clause-seen : goal.returns-clause-seen
returns-clause-seen g c = λ told slot lowest. let placed : IfOk c.place.result (λ s. Placed c.args.self.now c.place.new.self s (length c.args.piece.now) c.args.digest) = subst (λ (p : PoolState). IfOk c.place.result (λ s. Placed p c.place.new.self s (length c.args.piece.now) c.args.digest)) c.find.ensures.pool c.place.ensures.placed in let wrote : IfOk c.place.result (λ s. Changes c.args.self.now.file (λ o n. n ≡ written o (s * c.args.self.now.size) c.args.piece.now) (g.V.Vault.disk c.find.new.vault).seen (g.V.Vault.disk c.place.new.vault).seen) = subst (λ (p : PoolState). IfOk c.place.result (λ s. Changes p.file (λ o n. n ≡ written o (s * p.size) c.args.piece.now) (g.V.Vault.disk c.find.new.vault).seen (g.V.Vault.disk c.place.new.vault).seen)) c.find.ensures.pool (c.place.ensures.written (c.find.ensures.same.tells told)) in place_seen g.F.Fingerprint.digest_of c.args.self.now c.place.new.self c.args.piece.now c.args.digest c.requires.digest (g.V.Vault.disk c.args.vault.now).seen (g.V.Vault.disk c.find.new.vault).seen (g.V.Vault.disk c.place.new.vault).seen (λ f. (c.find.ensures.looked told).rests.seen f) c.place.result slot c.find.ensures.sound c.requires.some c.requires.short lowest placed wrote

pub returns-clause-looked : goal.returns-clause-looked
returns-clause-looked g c = λ told. looked_later _ _ _ c.place.result (c.find.ensures.looked told) c.find.ensures.same (c.place.ensures.looked (c.find.ensures.same.tells told))

pub returns-in-Some-clause-ways : goal.returns-in-Some-clause-ways
returns-in-Some-clause-ways g c = λ told. inl (subst (λ (o : Option ℕ). MatchOption o (LacksPiece g.F.Fingerprint.digest_of c.args.self.now (g.V.Vault.disk c.args.vault.now).seen c.args.piece.now) (λ s. HasPiece g.F.Fingerprint.digest_of c.args.self.now (g.V.Vault.disk c.args.vault.now).seen s c.args.piece.now)) c.in-Some.is (c.in_ok-slot.ensures.found told))

pub returns-clause-ways : goal.returns-clause-ways
returns-clause-ways g c = λ told. let placed : IfOk c.place.result (λ s. Placed c.args.self.now c.place.new.self s (length c.args.piece.now) c.args.digest) = subst (λ (p : PoolState). IfOk c.place.result (λ s. Placed p c.place.new.self s (length c.args.piece.now) c.args.digest)) c.find.ensures.pool c.place.ensures.placed in place_ways c.args.self.now c.place.new.self (length c.args.piece.now) c.args.digest (λ s. HasPiece g.F.Fingerprint.digest_of c.args.self.now (g.V.Vault.disk c.args.vault.now).seen s c.args.piece.now) c.place.result placed

use Rattle.std.proofs.Common.{◌≡◌, ◌<◌, ℕ, Some, sym, ◌∙◌, ap, subst}
use Rattle.std.specs.Prelude.{Option, Bool, MatchBool, MatchOption}
use Rattle.vault_disk.proofs.Moments.{same_on}
use Rattle.segment_pool.specs.Index.{IsNextBelow, bits_of, leading_bits}
use Rattle.segment_pool.specs.Placing.{HasPiece}
use Rattle.segment_pool.specs.Slots.{PoolState}
use Rattle.segment_pool.proofs.Finding.{Passed, next_bits, next_rank, passed_end, passed_next, rank, same_piece}
use Rattle.segment_pool.proofs.Placings.{looked_after}
use Rattle.segment_pool.proofs.pool.Pool.find.Goals as goal

pub loop-candidate-preserved : goal.loop-candidate-preserved
loop-candidate-preserved g c =
    let i = c.loop-candidate.invariant in
    let old = c.args.self.now in
    let image = (g.V.Vault.disk c.args.vault.now).seen in
    let slot = c.in-Some.slot in
    let b = leading_bits c.args.digest.now in
    let now_self : c.has_piece.new.self ≡ c.args.self.now = c.has_piece.ensures.pool ∙ i.pool in
    let bits : bits_of c.args.self.now.table c.in-Some.slot ≡ Some (leading_bits c.args.digest.now) =
    subst (λ (o : Option ℕ). MatchOption o (Unit {0}) (λ s. bits_of c.args.self.now.table s ≡ Some (leading_bits c.args.digest.now))) c.in-Some.is i.bits in
    let next : IsNextBelow c.args.self.now.table (leading_bits c.args.digest.now) c.in-Some.slot c.next_like-candidate.result =
    subst (λ (p : PoolState). IsNextBelow p.table (leading_bits c.args.digest.now) c.in-Some.slot c.next_like-candidate.result) now_self
    (c.next_like-candidate.ensures b (ap (λ (p : PoolState). bits_of p.table c.in-Some.slot) now_self ∙ bits)) in
    record {
      pool = now_self;
      bits = next_bits old.table b slot c.next_like-candidate.result next;
      same = same_on i.same c.has_piece.ensures.same;
      looked = λ told. looked_after _ _ _ (i.looked told) (c.has_piece.ensures.looked (i.same.tells told)) i.same;
      passed = λ told.
          let here : HasPiece g.F.Fingerprint.digest_of c.loop-candidate.self (g.V.Vault.disk c.loop-candidate.vault).seen c.in-Some.slot c.args.piece.now → ⊥ =
          subst (λ (yes : Bool). MatchBool yes (HasPiece g.F.Fingerprint.digest_of c.loop-candidate.self (g.V.Vault.disk c.loop-candidate.vault).seen c.in-Some.slot c.args.piece.now) (HasPiece g.F.Fingerprint.digest_of c.loop-candidate.self (g.V.Vault.disk c.loop-candidate.vault).seen c.in-Some.slot c.args.piece.now → ⊥)) c.if-branch.false
          (c.in_ok-has_piece.ensures.found (i.same.tells told)) in
          passed_next g.F.Fingerprint.digest_of old image c.args.piece.now c.args.digest.now slot c.next_like-candidate.result c.requires.digest
          (subst (λ (o : Option ℕ). Passed g.F.Fingerprint.digest_of c.args.self.now (g.V.Vault.disk c.args.vault.now).seen c.args.piece.now o) c.in-Some.is (i.passed told))
          (λ has. here (subst (λ (p : PoolState). HasPiece g.F.Fingerprint.digest_of p (g.V.Vault.disk c.loop-candidate.vault).seen c.in-Some.slot c.args.piece.now) (sym i.pool)
          (same_piece g.F.Fingerprint.digest_of old image _ slot c.args.piece.now (λ f. sym ((i.looked told).rests.seen f)) has)))
          next;
    }

pub loop-candidate-smaller : goal.loop-candidate-smaller
loop-candidate-smaller g c =
    let i = c.loop-candidate.invariant in
    let b = leading_bits c.args.digest.now in
    let now_self : c.has_piece.new.self ≡ c.args.self.now = c.has_piece.ensures.pool ∙ i.pool in
    let bits : bits_of c.args.self.now.table c.in-Some.slot ≡ Some (leading_bits c.args.digest.now) =
    subst (λ (o : Option ℕ). MatchOption o (Unit {0}) (λ s. bits_of c.args.self.now.table s ≡ Some (leading_bits c.args.digest.now))) c.in-Some.is i.bits in
    subst (λ (o : Option ℕ). rank c.next_like-candidate.result < rank o) (sym c.in-Some.is)
    (next_rank _ b c.in-Some.slot c.next_like-candidate.result (c.next_like-candidate.ensures b (ap (λ (p : PoolState). bits_of p.table c.in-Some.slot) now_self ∙ bits)))

pub returns-clause-found : goal.returns-clause-found
returns-clause-found g c = λ told. passed_end g.F.Fingerprint.digest_of c.args.self.now (g.V.Vault.disk c.args.vault.now).seen c.args.piece.now c.loop-candidate.candidate c.in_default.is (c.loop-candidate.invariant.passed told)

pub returns-in_err-has_piece-clause-sound : goal.returns-in_err-has_piece-clause-sound
returns-in_err-has_piece-clause-sound g c = c.first_like-candidate.ensures.sound

pub returns-then-branch-clause-sound : goal.returns-then-branch-clause-sound
returns-then-branch-clause-sound g c = c.first_like-candidate.ensures.sound

pub returns-clause-sound : goal.returns-clause-sound
returns-clause-sound g c = c.first_like-candidate.ensures.sound

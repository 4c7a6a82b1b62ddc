use Rattle.std.proofs.Common.{◌≡◌, ◌*◌, List, ℕ, take, drop, refl, sym, ◌∙◌, ap, arith, rules}
use Rattle.std.proofs.lemmas.Grind.{common_steps}
use Rattle.segment_pool.specs.Slots.{PoolState}
use Rattle.segment_pool.proofs.Troubles.{equal_bytes, has_so, lacks_so, other_bytes}
use Rattle.segment_pool.proofs.pool.Pool.has_piece.Goals as goal

pub invariant_of-self : goal.invariant_of-self
invariant_of-self g c = let inv = c.self.invariant in (inv.0, inv.1, search rules, inv.3)

pub invariant_of-self-then-eq : goal.invariant_of-self-then-eq
invariant_of-self-then-eq g c = let inv = c.self.invariant in (inv.0, inv.1, search rules, inv.3)

pub invariant_of-self-in_err-check : goal.invariant_of-self-in_err-check
invariant_of-self-in_err-check g c = let inv = c.self.invariant in (inv.0, inv.1, search rules, inv.3)

pub invariant_of-self-2 : goal.invariant_of-self-2
invariant_of-self-2 g c = let inv = c.self.invariant in (inv.0, inv.1, search rules, inv.3)

pub returns-then-eq-clause-found : goal.returns-then-eq-clause-found
returns-then-eq-clause-found g c = λ told.
    let image = (g.V.Vault.disk c.args.vault.now).seen in
    let so = c.if-not-is_recorded_so.ensures.0 refl in
    let buffer : c.as_slice-buffer.result.now ≡ c.read_front-read.new.buffer = first_of (grind (arith, common_steps), cc (c.as_slice-buffer.ensures.value), grind (arith, c.as_slice-buffer.ensures.value)) in
    let at : c.start_of-at.result ≡ c.args.slot * c.args.self.now.size = c.start_of-at.ensures ∙ ap (λ (p : PoolState). c.args.slot * p.size) c.self.view_is in
    let read = ap (λ (l : List ℕ). take c.in_ok-bytes.field-0 l) buffer ∙ c.in_ok-bytes.ensures.bytes told ∙ (λ i. take (sym so.0 i) (drop (at i) (image ((c.self.view_is i).file)))) in
    has_so g.F.Fingerprint.digest_of c.args.self.now image c.args.slot c.known-what.result c.args.piece.now c.args.digest.now (take c.in_ok-bytes.field-0 c.as_slice-buffer.result.now) c.known-what.ensures.is so.0 so.1 c.requires.digest (sym read)
    (equal_bytes (take c.in_ok-bytes.field-0 c.as_slice-buffer.result.now) c.args.piece.now c.eq.result c.eq.ensures c.if-eq.true)

pub returns-clause-found : goal.returns-clause-found
returns-clause-found g c = λ told.
    let image = (g.V.Vault.disk c.args.vault.now).seen in
    let so = c.if-not-is_recorded_so.ensures.0 refl in
    let buffer : c.as_slice-buffer.result.now ≡ c.read_front-read.new.buffer = first_of (grind (arith, common_steps), cc (c.as_slice-buffer.ensures.value), grind (arith, c.as_slice-buffer.ensures.value)) in
    let at : c.start_of-at.result ≡ c.args.slot * c.args.self.now.size = c.start_of-at.ensures ∙ ap (λ (p : PoolState). c.args.slot * p.size) c.self.view_is in
    let read = ap (λ (l : List ℕ). take c.in_ok-bytes.field-0 l) buffer ∙ c.in_ok-bytes.ensures.bytes told ∙ (λ i. take (sym so.0 i) (drop (at i) (image ((c.self.view_is i).file)))) in
    lacks_so g.F.Fingerprint.digest_of c.args.self.now image c.args.slot c.known-what.result c.args.piece.now (take c.in_ok-bytes.field-0 c.as_slice-buffer.result.now) c.known-what.ensures.is (sym read)
    (other_bytes (take c.in_ok-bytes.field-0 c.as_slice-buffer.result.now) c.args.piece.now c.eq.result c.eq.ensures c.if-eq.false)

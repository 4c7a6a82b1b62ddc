use Rattle.std.proofs.Common.{◌≡◌, ◌≤◌, ◌++◌, ℕ, length, take, drop, arith, ap, subst, length-append}
use Rattle.std.specs.Prelude.{IfErr}
use Rattle.std.proofs.lemmas.List.{length-take}
use Rattle.segment_pool.specs.Faults.{TroubleHolds}
use Rattle.copy_fragments.specs.Copies.{Copy, SomePiece, part_length}
use Rattle.copy_fragments.proofs.Reading.{front_part, placed_result}
use Rattle.copy_fragments.proofs.copy_map.CopyMap.read_at.Goals as goal

pub returns-clause-told : goal.returns-clause-told
returns-clause-told g c = λ told.
    let count : length (take c.min-count.result c.args.into.now) ≡ part_length c.args.self.now c.args.at (length c.args.into.now) =
    omega (arith, length-take c.min-count.result c.args.into.now, c.min-count.ensures, c.saturating_sub.ensures, ap (λ (x : Copy). x.length) c.self.view_is) in
    subst (λ (k : ℕ). IfErr c.fill.result (λ t. SomePiece c.args.pool.now c.args.self.now c.args.at k (λ slot _. TroubleHolds g.F.Fingerprint.digest_of c.args.pool.now (g.V.Vault.disk c.args.vault.now).seen slot t))) count (c.fill.ensures.told told)

pub returns-clause-placed : goal.returns-clause-placed
returns-clause-placed g c = λ told bytes placed.
    let some : 1 ≤ c.args.self.now.size = omega (arith, ap (λ (x : Copy). x.size) c.self.view_is, c.self.invariant.0) in
    let within : length (take c.min-count.result c.args.into.now) ≤ length (c.fill.new.into ++ drop c.min-count.result c.args.into.now) = omega (arith, length-append c.fill.new.into (drop c.min-count.result c.args.into.now), c.fill.auto.into) in
    placed_result g.F.Fingerprint.digest_of c.args.pool.now (g.V.Vault.disk c.args.vault.now).seen c.args.self.now c.args.at _ (c.fill.new.into ++ drop c.min-count.result c.args.into.now) bytes c.fill.result some placed c.fill.ensures.count within
    (front_part g.F.Fingerprint.digest_of c.args.pool.now (g.V.Vault.disk c.args.vault.now).seen c.args.self.now c.args.at _ c.fill.new.into (drop c.min-count.result c.args.into.now) c.fill.result c.fill.auto.into c.fill.ensures.count (c.fill.ensures.part told))
    (c.fill.ensures.told told)

use Rattle.std.proofs.Common.{◌≡◌, ℕ, arith}
use Rattle.std.proofs.lemmas.Result.{IfOk-from_err, MatchResult-from_both}
use Rattle.segment_pool.specs.Faults.{TroubleHolds}
use Rattle.segment_pool.specs.declared.fault.ReadTrouble.{ReadTrouble}
use Rattle.segment_pool.specs.declared.fault.ReadTrouble.TheVariants as trouble
use Rattle.segment_pool.specs.declared.slot.Slot.{Slot}
use Rattle.copy_fragments.specs.Copies.{SomePiece}
use Rattle.copy_fragments.specs.WholeCopies.{OfTrouble}
use Rattle.copy_fragments.proofs.Reading.{some_later}
use Rattle.copy_fragments.proofs.WholeReading.{as_fault}
use Rattle.copy_fragments.proofs.copy_map.CopyMap.read_all.Goals as goal

pub returns-in_err-read_at-clause-placed : goal.returns-in_err-read_at-clause-placed
returns-in_err-read_at-clause-placed g c = λ told bytes placed.
    let failed = c.from_residual-in_err-read_at in
    MatchResult-from_both failed.result (λ read. read.items ≡ bytes) (OfTrouble (λ (t : ReadTrouble). t ≡ trouble.DiskFault)) (IfOk-from_err failed.result _ failed.ensures.0)
    (as_fault (λ (t : ReadTrouble). t ≡ trouble.DiskFault) c.in_err-read_at.field-0.0 failed.result failed.ensures.1 (c.in_err-read_at.ensures.placed told bytes placed))

pub returns-in_err-read_at-clause-told : goal.returns-in_err-read_at-clause-told
returns-in_err-read_at-clause-told g c = λ told.
    as_fault (λ (t : ReadTrouble). SomePiece c.args.pool.now c.args.self.now 0 c.args.self.now.length (λ (slot : ℕ) (x : Slot). TroubleHolds g.F.Fingerprint.digest_of c.args.pool.now (g.V.Vault.disk c.args.vault.now).seen slot t))
    c.in_err-read_at.field-0.0 c.from_residual-in_err-read_at.result c.from_residual-in_err-read_at.ensures.1
    (some_later c.args.pool.now c.args.self.now 0 0 c.args.self.now.length _ 0 _ (λ (slot : ℕ) (x : Slot). TroubleHolds g.F.Fingerprint.digest_of c.args.pool.now (g.V.Vault.disk c.args.vault.now).seen slot c.in_err-read_at.field-0.0) (omega arith) (omega arith) (λ slot what holds. holds) (c.in_err-read_at.ensures.told told))

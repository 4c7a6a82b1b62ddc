use Rattle.std.proofs.Common.{rules, arith, inl, refl, ap}
use Rattle.vault_disk.specs.Started.{Memory}
use Rattle.vault_disk.proofs.Recorded.{failed_write, kept_write}
use Rattle.vault_disk.proofs.memory.MemoryMachineVault.write_at.Goals as goal

pub returns-then-is_to_fail-clause-wrote : goal.returns-then-is_to_fail-clause-wrote
returns-then-is_to_fail-clause-wrote c = λ told. failed_write _ _ _ _ c.self.inside.recording _ _ _ _ _ _ (ap (λ (m : Memory). m.log) c.self.view_is) c.fail.ensures.log

pub returns-in_default-clause-wrote : goal.returns-in_default-clause-wrote
returns-in_default-clause-wrote c = λ told. failed_write _ _ _ _ c.self.inside.recording _ _ _ _ _ _ (ap (λ (m : Memory). m.log) c.self.view_is) (inl refl)

pub returns-clause-wrote : goal.returns-clause-wrote
returns-clause-wrote c = λ told. kept_write _ _ _ _ c.self.inside.recording _ _ _ _ _ _ (omega arith) (ap (λ (m : Memory). m.log) c.self.view_is) (search rules) c.keep.ensures.err

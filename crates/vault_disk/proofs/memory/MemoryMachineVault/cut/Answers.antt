use Rattle.std.proofs.Common.{arith, ap}
use Rattle.vault_disk.specs.Started.{Memory}
use Rattle.vault_disk.proofs.Recorded.{failed_cut, kept_cut}
use Rattle.vault_disk.proofs.memory.MemoryMachineVault.cut.Goals as goal

pub returns-then-is_to_fail-clause-was_cut : goal.returns-then-is_to_fail-clause-was_cut
returns-then-is_to_fail-clause-was_cut c = λ told. failed_cut _ _ _ c.self.inside.recording _ _ _ _ _ _ (ap (λ (m : Memory). m.log) c.self.view_is) c.fail.ensures.log

pub returns-clause-was_cut : goal.returns-clause-was_cut
returns-clause-was_cut c = λ told. kept_cut _ _ _ c.self.inside.recording _ _ _ _ _ _ (omega arith) (ap (λ (m : Memory). m.log) c.self.view_is) c.keep.ensures.ok c.keep.ensures.err

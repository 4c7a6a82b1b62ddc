use Rattle.std.proofs.Common.{◌≡◌, ◌≤◌, false, vec_capacity}
use Rattle.vault_disk.specs.Disk.{IsLater}
use Rattle.vault_disk.specs.Input.{IsSameInput}
use Rattle.vault_disk.specs.Ticks.{IsSameClock}
use Rattle.bp_cli.proofs.Serving.{Served}
use Rattle.bp_cli.proofs.serve.serve.Given as goal

abbrev pub invariant-loop : goal.invariant-loop
invariant-loop g l = record {
  running : l.desk.stopped ≡ false;
  room : 128 ≤ vec_capacity l.head;
  later : IsLater (g.M.Vault.disk l.fn.desk.vault) (g.M.Vault.disk l.desk.vault);
  input : IsSameInput (g.S.Source.input l.fn.source) (g.S.Source.input l.source);
  clock : IsSameClock (g.C.Clock.ticks l.fn.clock) (g.C.Clock.ticks l.clock);
  served : Served l.fn.desk.state (g.M.Vault.disk l.fn.desk.vault) (g.M.Vault.disk l.desk.vault) (g.S.Source.input l.fn.source) (g.S.Source.input l.source) l.text (g.C.Clock.ticks l.fn.clock) (g.C.Clock.ticks l.clock) l.desk.state;
}

use Rattle.std.proofs.Common.{drop}
use Rattle.vault_ledger.specs.Fitting.{settled}
use Rattle.vault_ledger.specs.Ledger.{Ledger}
use Rattle.desk_index.specs.Index.{IsIndexOf}
use Rattle.desk_index.proofs.LineLemmas.{SettledSoFar}
use Rattle.desk_index.proofs.setting.settle_lines.Given as goal

abbrev pub invariant-loop-line : goal.invariant-loop-line
invariant-loop-line l = (ledger : Ledger) → IsIndexOf ledger l.fn.index → SettledSoFar ledger (settled ledger.outline l.lines) (drop l.line-index l.lines) l.index

use Rattle.session_text.proofs.Common.{◌≡◌, ◌+◌, ◌-◌, ◌++◌, length, line_limit}
use Rattle.vault_disk.specs.Input.{IsSameInput}
use Rattle.session_text.proofs.seek.seek_line.Given as goal

abbrev pub invariant-loop-end : goal.invariant-loop-end
invariant-loop-end g l = record {
  same : IsSameInput (g.S.Source.input l.fn.source) (g.S.Source.input l.source);
  kept : (g.S.Source.input l.fn.source).tells → l.fn.ahead ++ (g.S.Source.input l.fn.source).left ≡ l.ahead ++ (g.S.Source.input l.source).left;
}

abbrev pub decreases-loop-end : goal.decreases-loop-end
decreases-loop-end g l = line_limit + 1 - length l.ahead

use Rattle.std.proofs.Common.{◌≡◌, ◌≤◌, ◌+◌, ◌-◌, ◌++◌, vec_len}
use Rattle.vault_disk.specs.Input.{IsSameInput}
use Rattle.site_types.specs.Limits.{payload_limit}
use Rattle.bp_cli.proofs.payload.take_blocks.Given as goal

abbrev pub invariant-loop-count : goal.invariant-loop-count
invariant-loop-count g l = record {
  same : IsSameInput (g.S.Source.input l.fn.source) (g.S.Source.input l.source);
  left : (g.S.Source.input l.fn.source).tells → (g.S.Source.input l.fn.source).left ≡ l.bytes.items ++ (g.S.Source.input l.source).left;
  short : vec_len l.bytes ≤ payload_limit;
}

abbrev pub decreases-loop-count : goal.decreases-loop-count
decreases-loop-count g l = payload_limit + 1 - vec_len l.bytes

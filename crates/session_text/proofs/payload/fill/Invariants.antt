use Rattle.session_text.proofs.Common.{vec_capacity, ◌≡◌, ◌≤◌, ◌-◌, ◌++◌, length}
use Rattle.vault_disk.specs.Input.{IsSameInput}
use Rattle.session_text.proofs.payload.fill.Given as goal

abbrev pub invariant-loop-payload : goal.invariant-loop-payload
invariant-loop-payload g l = record {
  reserved : l.size ≤ vec_capacity l.payload;
  grown : length l.fn.payload.items ≤ length l.payload.items;
  short : length l.payload.items ≤ l.size;
  same : IsSameInput (g.S.Source.input l.fn.source) (g.S.Source.input l.source);
  kept : (g.S.Source.input l.fn.source).tells → l.fn.payload.items ++ (g.S.Source.input l.fn.source).left ≡ l.payload.items ++ (g.S.Source.input l.source).left;
}

abbrev pub decreases-loop-payload : goal.decreases-loop-payload
decreases-loop-payload g l = l.size - length l.payload.items

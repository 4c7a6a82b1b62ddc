use Rattle.std.proofs.Common.{ℕ, List}
use Rattle.pool_journal.specs.declared.segments.NewSegment.{NewSegment}
use Rattle.vault_ledger.specs.Following.{IsSamePool}
use Rattle.vault_ledger.specs.Pools.{HoldsLive}
use Rattle.vault_ledger.proofs.Adoptions.{AdoptedSoFar}
use Rattle.vault_ledger.proofs.adopting.adopt.Given as goal

abbrev pub invariant-loop-segment : goal.invariant-loop-segment
invariant-loop-segment g l = record {
  same : IsSamePool l.fn.pool l.pool;
  so_far : (known : List NewSegment) (named : List ℕ) → HoldsLive known named l.fn.pool → AdoptedSoFar l.fn.pool.size known named l.added l.segment-index l.pool;
}

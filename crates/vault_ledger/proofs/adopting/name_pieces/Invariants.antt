use Rattle.std.proofs.Common.{◌-◌, ℕ, List, length}
use Rattle.pool_journal.specs.declared.segments.NewSegment.{NewSegment}
use Rattle.vault_ledger.specs.Following.{CountsFit, IsSamePool}
use Rattle.vault_ledger.specs.Pools.{HoldsLive}
use Rattle.vault_ledger.proofs.Adoptions.{NamedSoFar}
use Rattle.vault_ledger.proofs.adopting.name_pieces.Given as goal

abbrev pub invariant-loop-slot : goal.invariant-loop-slot
invariant-loop-slot g l = record {
  same : IsSamePool l.fn.pool l.pool;
  few : CountsFit (length l.slots - l.slot-index) l.pool;
  so_far : (known : List NewSegment) (named : List ℕ) → HoldsLive known named l.fn.pool → NamedSoFar l.fn.pool.size known named l.bytes l.slots l.slot-index l.rest l.pool;
}

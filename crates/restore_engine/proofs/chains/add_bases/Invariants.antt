use Rattle.std.proofs.Common.{◌≡◌, ℕ, List}
use Rattle.restore_engine.specs.Chains.{chain_of}
use Rattle.restore_engine.specs.Walks.{before}
use Rattle.restore_engine.proofs.chains.add_bases.Given as goal

abbrev pub invariant-loop-image : goal.invariant-loop-image
invariant-loop-image l = (client : List ℕ) → before l.ids.items (chain_of client l.image-iterator l.wanted) ≡ before l.fn.ids.items (chain_of client l.fn.images l.fn.base)

use Rattle.std.proofs.Common.{◌≡◌, ℕ, List}
use Rattle.std.specs.Prelude.{is_ok}
use Rattle.restore_engine.specs.Chains.{chain_of}
use Rattle.restore_engine.proofs.references.is_whole.Given as goal

abbrev pub invariant-loop-image : goal.invariant-loop-image
invariant-loop-image l = (client : List ℕ) → is_ok (chain_of client l.image-iterator l.wanted) ≡ is_ok (chain_of client l.fn.images l.fn.base)

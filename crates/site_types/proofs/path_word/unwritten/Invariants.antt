use Rattle.site_types.proofs.Common.{◌≡◌, ◌++◌, length, unwritten}
use Rattle.site_types.proofs.path_word.unwritten.Given as goal

abbrev pub invariant-loop-byte : goal.invariant-loop-byte
invariant-loop-byte l = l.path.items ++ unwritten l.rest ≡ unwritten l.text

abbrev pub decreases-loop-byte : goal.decreases-loop-byte
decreases-loop-byte l = length l.rest

use Rattle.std.proofs.Common.{◌≡◌, ◌++◌, length, map}
use Rattle.segment_pool.specs.Pieces.{pieces}
use Rattle.segment_pool.proofs.cutting.cut.Given as goal

abbrev pub invariant-loop-rest : goal.invariant-loop-rest
invariant-loop-rest g l = l.digests.items ++ map g.F.Fingerprint.digest_of (pieces l.size l.rest) ≡ map g.F.Fingerprint.digest_of (pieces l.size l.fn.bytes)

abbrev pub decreases-loop-rest : goal.decreases-loop-rest
decreases-loop-rest g l = length l.rest

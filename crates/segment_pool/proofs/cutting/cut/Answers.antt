use Rattle.std.proofs.Common.{◌<◌, length, arith}
use Rattle.std.proofs.lemmas.Bool.Decides.{nat_tests}
use Rattle.std.proofs.lemmas.List.{take_rest}
use Rattle.segment_pool.proofs.PieceLemmas.{cut_on}
use Rattle.segment_pool.proofs.cutting.cut.Goals as goal

pub loop-rest-preserved : goal.loop-rest-preserved
loop-rest-preserved g c =
    let rest = c.loop-rest.rest.now in
    let some : 0 < length c.loop-rest.rest.now = grind (arith, nat_tests, c.is_empty.ensures, c.loop-rest-test.true) in
    cut_on g.F.Fingerprint.digest_of c.args.size c.min-length.result rest _ c.loop-rest.digests.items c.push.new.self.items _ c.print.result c.requires some c.min-length.ensures
    (take_rest rest c.min-length.result) c.print.ensures c.in_ok-push.ensures.items c.loop-rest.invariant

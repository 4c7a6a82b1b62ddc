use Rattle.segment_pool.proofs.Changes.{becomes_after}
use Rattle.segment_pool.proofs.Placings.{own_true}
use Rattle.segment_pool.proofs.pool.Pool.adopt.Goals as goal

pub returns-clause-stays_true : goal.returns-clause-stays_true
returns-clause-stays_true g c = λ image true_pool own. own_true g.F.Fingerprint.digest_of c.args.self.now c.hold.new.self image c.args.slot _ (becomes_after _ _ _ c.args.slot _ c.lengthen.ensures.same c.hold.ensures) true_pool own

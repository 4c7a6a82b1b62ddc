use Rattle.image_catalogue.proofs.CountLemmas.{one_more}
use Rattle.image_catalogue.proofs.unit_bytes.counted.Goals as goal

pub loop-copy-preserved : goal.loop-copy-preserved
loop-copy-preserved c = λ unit.
    one_more unit c.args.image.now.length c.args.image.now.copies c.as_slice-copy-items.result.now c.loop-copy.copy-index c.copy-item.result _ _ _ c.as_slice-copy-items.ensures c.loop-copy-test.true c.copy-item.is (c.loop-copy.invariant unit) (c.in_ok-raise.ensures unit)

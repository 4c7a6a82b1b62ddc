use Rattle.image_catalogue.proofs.CountLemmas.{one_less, enough}
use Rattle.image_catalogue.proofs.unit_bytes.uncount.Goals as goal

pub lower-requires : goal.lower-requires
lower-requires c =
    let unit = c.copy-item.result.unit in
    enough c.args.image.now.length c.args.image.now.copies c.as_slice-copy-items.result.now c.loop-copy.copy-index c.copy-item.result _ _ c.as_slice-copy-items.ensures c.loop-copy-test.true c.copy-item.is (c.loop-copy.invariant unit) (c.requires unit)

pub loop-copy-preserved : goal.loop-copy-preserved
loop-copy-preserved c = λ unit.
    one_less unit c.args.image.now.length c.args.image.now.copies c.as_slice-copy-items.result.now c.loop-copy.copy-index c.copy-item.result _ _ _ c.as_slice-copy-items.ensures c.loop-copy-test.true c.copy-item.is (c.loop-copy.invariant unit) (c.lower.ensures unit)

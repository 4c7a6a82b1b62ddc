use Rattle.std.proofs.Common.{◌∙◌, ap, sym, rules}
use Rattle.image_kinds.specs.Reading.{image_in}
use Rattle.desk_steps.proofs.ChainBodies.{broken_on, images_on}
use Rattle.desk_steps.proofs.chain.bodies_of.Goals as goal

pub loop-bytes-preserved : goal.loop-bytes-preserved
loop-bytes-preserved c =
    images_on c.args.images.now c.loop-bytes.bytes-index c.bytes-item.result c.loop-bytes.bodies.items c.add.new.bodies.items c.in_ok-body.body c.loop-bytes-test.true c.bytes-item.is c.loop-bytes.invariant (ap image_in (sym c.bytes.ensures) ∙ c.in_ok-body.ensures.reads) c.in_ok-add.ensures

pub returns-in_err-body-clause-fault : goal.returns-in_err-body-clause-fault
returns-in_err-body-clause-fault c =
    broken_on c.args.images.now c.loop-bytes.bytes-index c.bytes-item.result c.bytes.result.now c.loop-bytes.bodies.items c.in_err-body.field-0.0 c.from_residual.result c.loop-bytes-test.true c.bytes-item.is c.bytes.ensures c.loop-bytes.invariant c.in_err-body.ensures.reads (search rules)

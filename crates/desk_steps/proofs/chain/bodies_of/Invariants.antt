use Rattle.std.proofs.Common.{◌≡◌, take, Ok}
use Rattle.desk_model.specs.Restores.{images_in}
use Rattle.desk_steps.proofs.chain.bodies_of.Given as goal

abbrev pub invariant-loop-bytes : goal.invariant-loop-bytes
invariant-loop-bytes l = images_in (take l.bytes-index l.images) ≡ Ok l.bodies.items

use Rattle.std.proofs.Common.{◌∙◌, ap, sym}
use Rattle.desk_model.specs.Restores.{last_bytes}
use Rattle.desk_steps.proofs.ChainBodies.{last_push}
use Rattle.desk_steps.proofs.chain.last_of.Goals as goal

pub returns-in-Some : goal.returns-in-Some
returns-in-Some c = sym (ap last_bytes c.in-Some.ensures.items ∙ last_push c.pop.new.self.items c.in-Some.bytes)

use Rattle.desk_index.proofs.AdmittedImages.{fresh_in}
use Rattle.desk_steps.proofs.backup.prepare.Goals as goal

pub admit_image-requires-clause-new : goal.admit_image-requires-clause-new
admit_image-requires-clause-new c = let known = c.requires.known in fresh_in known.0 c.args.image.now c.args.index.now known.1 known.2

use Rattle.desk_model.proofs.Restores.{keeps_copies}
use Rattle.desk_model.proofs.soundness.kept_copies_restore.Goals as goal

pub returns : goal.returns
returns c = keeps_copies

use Rattle.desk_model.proofs.Asking.{formed_asks}
use Rattle.desk_model.proofs.SoundSteps.{sound_step}
use Rattle.desk_model.proofs.soundness.states_are_sound.Goals as goal

pub returns-clause-steps : goal.returns-clause-steps
returns-clause-steps c s request payload moment sound formed early = sound_step s request payload moment sound (formed_asks request formed) early

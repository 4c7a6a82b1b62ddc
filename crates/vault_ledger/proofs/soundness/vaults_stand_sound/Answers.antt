use Rattle.vault_ledger.proofs.SoundLedgers.{vault_sound}
use Rattle.vault_ledger.proofs.soundness.vaults_stand_sound.Goals as goal

pub returns : goal.returns
returns c = vault_sound

-- What a backup is asked for, as the rules see it.
use Rattle.std.specs.Prelude.{option_map}
use Rattle.desk_model.specs.Backups.{Asked}
use Rattle.desk_rules.specs.declared.asked.BackupAsked.{BackupAsked}

abbrev pub asked_by : BackupAsked → Asked
asked_by a = record { client = a.client.now; policy = a.policy; schedule = option_map (λ s. s.now) a.schedule; start = a.start }

-- What a request takes out of the site, as the code has it.
use Rattle.desk_model.specs.Settings.{Removal as Removed, gone_client, gone_policy}
use Rattle.desk_rules.specs.declared.settings.Removal.{Removal}
use Rattle.desk_rules.specs.declared.settings.Removal.TheVariants.{Client, Policy}

abbrev pub removal_seen : Removal → Removed
removal_seen (Client name) = gone_client name.now
removal_seen (Policy name) = gone_policy name.now

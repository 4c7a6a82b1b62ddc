-- Which kinds of policy take files.
use Rattle.std.specs.Prelude.{Bool, true, false}
use Rattle.site_types.specs.declared.schedule.PolicyType.{PolicyType}
use Rattle.site_types.specs.declared.schedule.PolicyType.TheVariants.{Files, Raw}

abbrev pub takes_files : PolicyType → Bool
takes_files Files = true
takes_files Raw = false

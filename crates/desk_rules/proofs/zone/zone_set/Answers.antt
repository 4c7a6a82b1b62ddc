use Rattle.desk_rules.proofs.Common.{sym}
use Rattle.desk_rules.proofs.ZoneLemmas.{zoned}
use Rattle.desk_rules.proofs.zone.zone_set.Goals as goal

pub zone_given-requires : goal.zone_given-requires
zone_given-requires c = zoned c.args.request.now _ _ c.requires (sym c.in-Some.ensures)

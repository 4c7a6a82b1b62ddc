use Rattle.desk_model.proofs.Common.{◌≡◌, true, false, ap, is_none, None, false≢true}
use Rattle.std.specs.Prelude.{codes}
use Rattle.std.proofs.lemmas.Option.{MatchOption-at_none}
use Rattle.jiff_tz.specs.PosixReader.{read_whole, read_tz, read_abbreviation, read_unquoted, read_offset, read_up_to_two, read_digit, read_sign, read_minutes}
use Rattle.desk_model.proofs.site.first_zone.Goals as goal

-- jiff reads the rule
is_read : read_whole (codes "UTC0") ≡ None → false ≡ true
unfolding read_whole read_tz read_abbreviation read_unquoted read_offset read_up_to_two read_digit read_sign read_minutes
is_read none = ap is_none none

pub unreachable-requires : goal.unreachable-requires
unreachable-requires c = false≢true (is_read (MatchOption-at_none _ _ c.in-None.is c.in_ok-zone.ensures))

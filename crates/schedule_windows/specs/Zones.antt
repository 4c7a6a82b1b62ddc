-- Zones: how far a clock is ahead of UTC at a moment, and what it shows. Moments are seconds since 1970-01-01T00:00:00Z.
use Rattle.std.specs.Prelude.{◌<◌, ℕ, ℤ, pos, neg_ℤ, ◌+ℤ◌, ◌*ℤ◌, List, Option, Some, None, unsigned_abs}
use Rattle.std.specs.Int.{int_div_euclid, int_rem_euclid}
use Rattle.jiff_core.specs.Calendar.{IsBetween}
use Rattle.jiff_core.specs.Timestamp.{nanos_of_seconds}
use Rattle.jiff_tz.specs.PosixReader.{read_whole}
use Rattle.jiff_tz.specs.PosixRule as Posix
use Rattle.jiff_tz.specs.PosixText.{TzText}
use Rattle.jiff_tz.specs.declared.posix.TimeZone.{TimeZone}
use Rattle.schedule_windows.specs.declared.civil.Civil.{Civil}
use Rattle.schedule_windows.specs.Rules.{rule_of}

-- what a zone is made of: so many seconds east of UTC, or the text of a POSIX rule
pub data ZoneOf : Type 0 where
  FixedOffset : ℤ → ZoneOf
  PosixRule : List ℕ → ZoneOf

-- the seconds that a zone of one offset is ahead
abbrev pub fixed_seconds : ZoneOf → Option ℤ
fixed_seconds (FixedOffset seconds) = Some seconds
fixed_seconds (PosixRule text) = None

-- the text of a zone's rule
abbrev pub rule_text : ZoneOf → Option (List ℕ)
rule_text (FixedOffset seconds) = None
rule_text (PosixRule text) = Some text

-- how many seconds the clock of a rule is ahead of UTC at a moment
abbrev pub rule_offset_at : TimeZone → ℕ → ℤ
rule_offset_at rule moment = (Posix.offset_at rule (nanos_of_seconds (pos moment))).seconds

-- the same of the rule that was read, and none where the text is no rule
abbrev pub read_offset_at : Option TzText → ℕ → ℤ
read_offset_at None moment = pos 0
read_offset_at (Some rule) moment = rule_offset_at (rule_of rule) moment

-- how many seconds the zone's clock is ahead of UTC at a moment
unfoldable pub offset_at : ZoneOf → ℕ → ℤ
offset_at (FixedOffset seconds) moment = seconds
offset_at (PosixRule text) moment = read_offset_at (read_whole text) moment

-- the civil time that lies so many seconds after 1970-01-01T00:00:00 on a clock whose days have 86,400 seconds
abbrev pub civil_of : ℤ → Civil
civil_of count = record { day = int_div_euclid count (pos 86_400); second = unsigned_abs (int_rem_euclid count (pos 86_400)) }

-- those seconds of a civil time
abbrev pub civil_count : Civil → ℤ
civil_count c = c.day *ℤ pos 86_400 +ℤ pos c.second

-- what the zone's clock shows at a moment
abbrev pub civil_at : ZoneOf → ℕ → Civil
civil_at zone moment = civil_of (pos moment +ℤ offset_at zone moment)

-- a civil time that some moment can have in some zone
pub record IsCivil (c : Civil) : Type 0 where
  pub day : IsBetween (neg_ℤ (pos 30)) (pos 2_900_000) c.day
  pub second : c.second < 86_400

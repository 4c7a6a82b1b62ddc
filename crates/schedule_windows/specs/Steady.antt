-- When the offset of a rule is sure not to change.
use Rattle.std.specs.Prelude.{◌≡◌, ℕ, ℤ, pos, ◌<ℤ◌, Some}
use Rattle.jiff_core.specs.Timestamp.{nanos_of_seconds}
use Rattle.jiff_tz.specs.PosixRule.{next_at}
use Rattle.jiff_tz.specs.Year.{year_of_nanos}
use Rattle.jiff_tz.specs.declared.info.OffsetInfo.{OffsetInfo}
use Rattle.jiff_tz.specs.declared.posix.TimeZone.{TimeZone}

-- a later moment lies in the same year, on a clock at UTC, and before the first transition after the earlier one
pub record IsSteady (rule : TimeZone) (first last : ℕ) : Type 0 where
  pub year : year_of_nanos (nanos_of_seconds (pos first)) ≡ year_of_nanos (nanos_of_seconds (pos last))
  pub next : ℤ × OffsetInfo
  pub is_next : next_at rule (nanos_of_seconds (pos first)) ≡ Some next
  pub before : nanos_of_seconds (pos last) <ℤ next.0

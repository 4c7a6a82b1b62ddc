-- The zone that the text of a POSIX rule stands for (POSIX, section 8.3, the variable TZ). Which texts are rules, and which
-- offset a rule has at an instant, is what `jiff` states; here its reading of a text becomes the rule that it speaks of.
use Rattle.std.specs.Prelude.{ℤ, pos, neg_ℤ, option_map, if◌then◌else◌}
use Rattle.jiff_core.specs.declared.offset.Offset.{Offset}
use Rattle.jiff_tz.specs.PosixDay.{is_rule_day}
use Rattle.jiff_tz.specs.PosixRule.{clamp_to}
use Rattle.jiff_tz.specs.PosixText.{DstText, TzText}
use Rattle.jiff_tz.specs.declared.posix.Day.{Day}
use Rattle.jiff_tz.specs.declared.posix.Day.TheVariants.{JulianZero}
use Rattle.jiff_tz.specs.declared.posix.DayTime.{DayTime}
use Rattle.jiff_tz.specs.declared.posix.Dst.{Dst}
use Rattle.jiff_tz.specs.declared.posix.TimeZone.{TimeZone}
use Rattle.schedule_windows.specs.Ranges.{offset_in_range, time_in_range, day_in_range, no_name}

-- the offset of so many seconds; every offset that a rule can write lies in the range
abbrev pub offset_of : ℤ → Offset
offset_of s = record { seconds = clamp_to (neg_ℤ (pos 93_599)) (pos 93_599) s; in_range = offset_in_range s }

-- a day of the year, and seconds after its midnight; every one that a rule can write lies in the range
abbrev pub day_time_of : Day × ℤ → DayTime
day_time_of p = record {
  date = if is_rule_day p.0 then p.0 else JulianZero 0;
  time = clamp_to (neg_ℤ (pos 604_799)) (pos 604_799) p.1;
  date_in = day_in_range p.0;
  time_in = time_in_range p.1;
}

-- daylight saving time, without its name, which no offset depends on
abbrev pub dst_of : DstText → Dst
dst_of d = record {
  «abbrev» = no_name;
  offset = offset_of d.seconds;
  rule = record { start = day_time_of d.start; end = day_time_of d.finish };
}

-- the rule that was read, without its names
abbrev pub rule_of : TzText → TimeZone
rule_of t = record {
  std_abbrev = no_name;
  std_offset = offset_of t.std_seconds;
  dst = option_map dst_of t.dst;
}

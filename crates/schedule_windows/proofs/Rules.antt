-- A rule that was read has the offsets of its text.
use Rattle.schedule_windows.proofs.Common.{◌≡◌, ℕ, ℤ, pos, neg_ℤ, Bool, true, false, IsTrue, List, Option, Some, None, option_map, refl, ap, ◌∙◌, rules, if◌then◌else◌, cond-true, year_of_nanos, read_offset_at, rule_offset_at, FixedOffset, PosixRule, nanos_of_seconds, in_window, dst_at_by, match_some}
use Rattle.jiff_core.specs.declared.offset.Offset.{Offset}
use Rattle.jiff_tz.specs.PosixDay.{is_rule_day}
use Rattle.jiff_tz.specs.PosixReader.{read_whole}
use Rattle.jiff_tz.specs.PosixRule.{rule_nanos, utc_window}
use Rattle.jiff_tz.specs.PosixText.{day_time_view, dst_view, tz_view}
use Rattle.jiff_tz.specs.declared.posix.Day.{Day}
use Rattle.jiff_tz.specs.declared.posix.Day.TheVariants.{JulianZero}
use Rattle.jiff_tz.specs.declared.posix.DayTime.{DayTime}
use Rattle.jiff_tz.specs.declared.posix.Dst.{Dst}
use Rattle.jiff_tz.specs.declared.posix.TimeZone.{TimeZone}
use Rattle.schedule_windows.specs.Ranges.{clamp_to-within}
use Rattle.schedule_windows.specs.Rules.{offset_of, day_time_of, dst_of, rule_of}
use Rattle.schedule_windows.specs.Zones.{offset_at}

offset_of-seconds : (o : Offset) → (offset_of o.seconds).seconds ≡ o.seconds
offset_of-seconds o = clamp_to-within _ _ o.seconds o.in_range.0 o.in_range.1

day_stays : (d : Day) → IsTrue (is_rule_day d) → (if is_rule_day d then d else JulianZero 0) ≡ d
day_stays d h = cond-true (is_rule_day d) d (JulianZero 0) (search rules)

day_time_stays : (y : ℤ) (d : DayTime) (seconds : ℤ) → rule_nanos y (day_time_of (day_time_view d)) seconds ≡ rule_nanos y d seconds
unfolding rule_nanos
day_time_stays y d seconds =
    let date = day_stays d.date d.date_in in
    let time = clamp_to-within (neg_ℤ (pos 604_799)) (pos 604_799) d.time d.time_in.0 d.time_in.1 in
    rw (date, time) refl

window_stays : (d : Dst) (y : ℤ) (std : Offset) → utc_window (dst_of (dst_view d)) y (offset_of std.seconds) ≡ utc_window d y std
unfolding utc_window
window_stays d y std = rw (offset_of-seconds std, offset_of-seconds d.offset, day_time_stays y d.rule.start std.seconds, day_time_stays y d.rule.end d.offset.seconds) refl

seconds_by : Offset → Option Dst → ℤ → ℤ
seconds_by std dst n = (match_some (dst_at_by std dst n) std (λ d. d.offset)).seconds

chosen_seconds : (std : Offset) (d : Dst) (n : ℤ) (a b : Bool) → a ≡ b → (match_some (if a then Some (dst_of (dst_view d)) else None) (offset_of std.seconds) (λ e. e.offset)).seconds ≡ (match_some (if b then Some d else None) std (λ e. e.offset)).seconds
chosen_seconds std d n a true e = rw e (offset_of-seconds d.offset)
chosen_seconds std d n a false e = rw e (offset_of-seconds std)

seconds_stay : (std : Offset) (dst : Option Dst) (n : ℤ) → seconds_by (offset_of std.seconds) (option_map dst_of (option_map dst_view dst)) n ≡ seconds_by std dst n
unfolding seconds_by
seconds_stay std None n = offset_of-seconds std
seconds_stay std (Some d) n = chosen_seconds std d n _ _ (ap (λ w. in_window w n) (window_stays d (year_of_nanos n) std))

rule_of-view : (rule : TimeZone) (moment : ℕ) → rule_offset_at (rule_of (tz_view rule)) moment ≡ rule_offset_at rule moment
unfolding seconds_by
rule_of-view rule moment = seconds_stay rule.std_offset rule.dst (nanos_of_seconds (pos moment))

-- the offset of a text that reads as a rule is the rule's
pub offset_at-rule : (text : List ℕ) (rule : TimeZone) (moment : ℕ) → read_whole text ≡ Some (tz_view rule) → offset_at (PosixRule text) moment ≡ rule_offset_at rule moment
unfolding offset_at
offset_at-rule text rule moment e = ap (λ r. read_offset_at r moment) e ∙ rule_of-view rule moment

-- the offset of a fixed zone is its own
pub offset_at-fixed : (seconds : ℤ) (moment : ℕ) → offset_at (FixedOffset seconds) moment ≡ seconds
unfolding offset_at
offset_at-fixed seconds moment = refl

-- What a zone keeps, and what it is made of.
use Rattle.std.specs.Prelude.{◌≡◌, Some}
use Rattle.jiff_core.specs.Calendar.{IsWithin}
use Rattle.jiff_tz.specs.PosixReader.{read_whole}
use Rattle.jiff_tz.specs.PosixText.{tz_view}
use Rattle.schedule_windows.specs.declared.zone.Source.{Source}
use Rattle.schedule_windows.specs.declared.zone.Source.TheVariants.{Fixed, Rule}
use Rattle.schedule_windows.specs.Zones.{ZoneOf, FixedOffset, PosixRule}

abbrev pub zone_of : Source → ZoneOf
zone_of (Fixed seconds) = FixedOffset seconds
zone_of (Rule text rule) = PosixRule text

-- the offset is below a day, and the rule is what its text reads as
abbrev pub IsRead : Source → Type 0
IsRead (Fixed seconds) = IsWithin 86_399 seconds
IsRead (Rule text rule) = read_whole text ≡ Some (tz_view rule)

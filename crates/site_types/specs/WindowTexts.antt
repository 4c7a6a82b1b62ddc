-- How windows are written.
use Rattle.std.specs.Prelude.{ℕ, ◌/◌, ◌%◌, List, [], ◌∷◌, ◌++◌, map, codes}
use Rattle.std.specs.Fmt.{decimal}
use Rattle.std.specs.List.{join_with_byte}
use Rattle.site_types.specs.Weekdays.{weekday_name}
use Rattle.site_types.specs.ZoneWords.{two_digits}
use Rattle.site_types.specs.declared.window.Window.{Window}
use Rattle.site_types.specs.declared.window.Windows.{Windows}
use Rattle.site_types.specs.declared.window.Windows.TheVariants.{Always, Listed}

-- a second of the day as its hour, minute and second
abbrev pub clock_text : ℕ → List ℕ
clock_text second = two_digits (second / 3600) ++ codes ":" ++ two_digits (second % 3600 / 60) ++ codes ":" ++ two_digits (second % 60)

abbrev pub window_text : Window → List ℕ
window_text w = weekday_name w.weekday ++ codes "/" ++ clock_text w.start ++ codes "/" ++ decimal w.length

abbrev pub windows_text : Windows → List ℕ
windows_text Always = codes "always"
windows_text (Listed []) = codes "none"
windows_text (Listed (w ∷ ws)) = join_with_byte 43 (map window_text (w ∷ ws))

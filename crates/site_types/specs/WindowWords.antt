-- Windows, as they are written.
use Rattle.std.specs.Prelude.{◌≡◌, refl, ℕ, ◌+◌, ◌*◌, Bool, true, false, ◌&&◌, ◌==◌, nat_le, nat_lt, if◌then◌else◌, List, [], length, take, drop, codes, Option, Some, None, option_map}
use Rattle.std.specs.List.{slice_index, slice_range}
use Rattle.std.specs.Option.{option_and_then}
use Rattle.std.specs.Str.{bytes_eq}
use Rattle.std.proofs.lemmas.Bool.{and_parts, leb-true, ltb-true}
use Rattle.site_types.specs.Digits.{digits_of}
use Rattle.site_types.specs.Joined.{joined_of}
use Rattle.site_types.specs.Numbers.{number_up_to}
use Rattle.site_types.specs.Weekdays.{weekday_named}
use Rattle.site_types.specs.declared.window.Window.{Window}
use Rattle.site_types.specs.declared.window.Windows.{Windows}
use Rattle.site_types.specs.declared.window.Windows.TheVariants.{Always, Listed}

-- the second of the day with this hour, minute and second, where there is one
abbrev pub second_at : ℕ → ℕ → ℕ → Option ℕ
second_at hour minute second = if nat_lt hour 24 && nat_lt minute 60 && nat_lt second 60 then Some (hour * 3600 + minute * 60 + second) else None

-- the second of the day that a text spells: two digits each of the hour, the minute and the second, joined by colons
abbrev pub second_of : List ℕ → Option ℕ
second_of text = if length text == 8 && slice_index text 2 == 58 && slice_index text 5 == 58 then option_and_then (λ hour. option_and_then (λ minute. option_and_then (λ second. second_at hour minute second) (digits_of 2 (drop 6 text))) (digits_of 2 (slice_range text 3 5))) (digits_of 2 (take 2 text)) else None

-- a weekday, the second of a day, and a length of a second to a week
abbrev pub is_window : (weekday start length : ℕ) → Bool
is_window weekday start length = nat_lt weekday 7 && nat_lt start 86_400 && nat_le 1 length && nat_le length 604_800

-- the window of this weekday, start and length, by the answer to whether it is one
abbrev pub window_if : (weekday start length : ℕ) → (b : Bool) → is_window weekday start length ≡ b → Option Window
window_if weekday start length false is = None
window_if weekday start length true is =
    let within = (and_parts _ _ is).0 in
    let times = (and_parts _ _ within).0 in
    Some (record { weekday = weekday; start = start; length = length; weekday_is = ltb-true weekday 7 (and_parts _ _ times).0; start_is = ltb-true start 86_400 (and_parts _ _ times).1; length_is = leb-true 1 length (and_parts _ _ within).1; at_most_a_week = leb-true length 604_800 (and_parts _ _ is).1 })

-- the window of this weekday, start and length, where there is one
abbrev pub window_at : ℕ → ℕ → ℕ → Option Window
window_at weekday start length = window_if weekday start length (is_window weekday start length) refl

-- the window that a text spells: the weekday, the time at which it opens and the seconds of its length, joined by slashes
abbrev pub window_of : List ℕ → Option Window
window_of text = if nat_lt 12 (length text) && slice_index text 3 == 47 && slice_index text 12 == 47 then option_and_then (λ weekday. option_and_then (λ start. option_and_then (λ seconds. window_at weekday start seconds) (number_up_to 604_800 (drop 13 text))) (second_of (slice_range text 4 12))) (weekday_named (take 3 text)) else None

-- the windows that a text spells: always, none, or 1 to 28 windows joined by plus signs
abbrev pub windows_of : List ℕ → Option Windows
windows_of text = if bytes_eq text (codes "always") then Some Always else (if bytes_eq text (codes "none") then Some (Listed []) else option_map Listed (joined_of window_of 28 text))

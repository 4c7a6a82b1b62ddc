-- Windows are written as they are read.
use Rattle.site_types.proofs.Common.{◌≡◌, ℕ, List, [], ◌∷◌, length, take, drop, map, Bool, true, false, refl, sym, ◌∙◌, ap, arith, ◌==◌, decimal, slice_index, slice_range, slice_split, and_parts, ltb-true, eqb-true, is_plus, joined_of, number_up_to, weekday_named, weekday_name, clock_text, window_text, windows_text, second_of, is_window, window_if, window_at, window_of, windows_of}
use Rattle.std.specs.Prelude.{Some, nat_lt, codes, ◌&&◌}
use Rattle.site_types.specs.declared.window.Window.{Window}
use Rattle.site_types.specs.declared.window.Windows.{Windows}
use Rattle.site_types.specs.declared.window.Windows.TheVariants.{Always, Listed}
use Rattle.site_types.proofs.JoinedSpelling.{parts_spelled, parts_joined, has_part}
use Rattle.site_types.proofs.OffsetSpelling.{clock_spelled}
use Rattle.site_types.proofs.PieceSpelling.{three_parts}
use Rattle.site_types.proofs.OptionLemmas.{guarded, chained, same_value, mapped}
use Rattle.site_types.proofs.WordSpelling.{number_up_to_spelled, weekday_spelled, word_or}

window_parts : (weekday start seconds : ℕ) (w : Window) → window_at weekday start seconds ≡ Some w → (w.weekday ≡ weekday) × (w.start ≡ start) × (w.length ≡ seconds)
window_parts weekday start seconds w = at (is_window weekday start seconds) refl
  where
    at : (b : Bool) (is : is_window weekday start seconds ≡ b) → window_if weekday start seconds b is ≡ Some w → (w.weekday ≡ weekday) × (w.start ≡ start) × (w.length ≡ seconds)
    at false is made = absurd (cc made)
    at true is made = let same = sym (same_value _ w made) in (ap (λ (x : Window). x.weekday) same, ap (λ (x : Window). x.start) same, ap (λ (x : Window). x.length) same)

pub window_spelled : (t : List ℕ) (w : Window) → window_of t ≡ Some w → window_text w ≡ t
window_spelled t w is =
    let whole = guarded (nat_lt 12 (length t) && slice_index t 3 == 47 && slice_index t 12 == 47) _ w is in
    let tests = and_parts (nat_lt 12 (length t) && slice_index t 3 == 47) (slice_index t 12 == 47) whole.0 in
    let firsts = and_parts (nat_lt 12 (length t)) (slice_index t 3 == 47) tests.0 in
    let weekday = chained _ (weekday_named (take 3 t)) w whole.1 in
    let start = chained _ (second_of (slice_range t 4 12)) w weekday.2 in
    let seconds = chained _ (number_up_to 604_800 (drop 13 t)) w start.2 in
    let parts = window_parts weekday.0 start.0 seconds.0 w seconds.2 in
    three_parts t 3 12 47 _ _ _ (omega arith) (ltb-true 12 (length t) firsts.0) (eqb-true (slice_index t 3) 47 firsts.1) (eqb-true (slice_index t 12) 47 tests.1)
    (ap weekday_name parts.0 ∙ weekday_spelled (take 3 t) weekday.0 weekday.1)
    (ap clock_text parts.1 ∙ clock_spelled (slice_range t 4 12) start.0 start.1)
    (ap decimal parts.2 ∙ number_up_to_spelled 604_800 (drop 13 t) seconds.0 seconds.1)

listed_spelled : (t : List ℕ) (ws : List Window) → map window_text ws ≡ slice_split is_plus t → windows_text (Listed ws) ≡ t
listed_spelled t [] is = let none = ap length is in absurd (omega (arith, has_part t))
listed_spelled t (w ∷ ws) is = parts_joined t (map window_text (w ∷ ws)) is

pub windows_spelled : (t : List ℕ) (w : Windows) → windows_of t ≡ Some w → windows_text w ≡ t
windows_spelled t w =
    word_or windows_text (codes "always") Always _ t w refl (
    word_or windows_text (codes "none") (Listed []) _ t w refl (λ is.
    let listed = mapped Listed (joined_of window_of 28 t) w is in
    ap windows_text (sym listed.2) ∙ listed_spelled t listed.0 (parts_spelled window_of window_text window_spelled 28 t listed.0 listed.1)))

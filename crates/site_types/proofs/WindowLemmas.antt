-- Windows of a weekday, a start and a length.
use Rattle.site_types.proofs.Common.{◌≡◌, ◌<◌, ◌≤◌, ℕ, Bool, true, false, refl, ap, arith, MatchOption, and_parts, leb-true, ltb-true, nat_tests, is_window, window_if, window_at}
use Rattle.std.specs.Prelude.{Some, None, Option}
use Rattle.std.proofs.Math.Bridge.{le_prop}
use Rattle.site_types.specs.declared.window.Window.{Window}
use mathlib.Core.HLevel.{is_prop→PathP}

abbrev IsMade : ℕ → ℕ → ℕ → Option Window → Type 0
IsMade weekday start length o = MatchOption o (¬ ((weekday < 7) × (start < 86_400) × (1 ≤ length) × (length ≤ 604_800))) (λ w. (w.weekday ≡ weekday) × (w.start ≡ start) × (w.length ≡ length))

same_window : (x y : Window) → (x.weekday ≡ y.weekday) × (x.start ≡ y.start) × (x.length ≡ y.length) → x ≡ y
same_window x y (p, q, r) = λ i. record {
  weekday = p i;
  start = q i;
  length = r i;
  weekday_is = is_prop→PathP (λ j. p j < 7) (λ j. le_prop) x.weekday_is y.weekday_is i;
  start_is = is_prop→PathP (λ j. q j < 86_400) (λ j. le_prop) x.start_is y.start_is i;
  length_is = is_prop→PathP (λ j. 1 ≤ r j) (λ j. le_prop) x.length_is y.length_is i;
  at_most_a_week = is_prop→PathP (λ j. r j ≤ 604_800) (λ j. le_prop) x.at_most_a_week y.at_most_a_week i;
}

-- a window with these fields is the one of this weekday, start and length, and none is where there is none
pub window_at-made : (weekday start length : ℕ) (o : Option Window) → IsMade weekday start length o → o ≡ window_at weekday start length
window_at-made weekday start length o = at (is_window weekday start length) refl o
  where
    at : (b : Bool) (is : is_window weekday start length ≡ b) (o : Option Window) → IsMade weekday start length o → o ≡ window_if weekday start length b is
    at false is None made = refl
    at false is (Some w) made =
        let weekday_in = w.weekday_is in
        let start_in = w.start_is in
        let some = w.length_is in
        let at_most = w.at_most_a_week in
        absurd (grind (arith, nat_tests))
    at true is None made =
        let within = (and_parts _ _ is).0 in
        let times = (and_parts _ _ within).0 in
        absurd (made (ltb-true weekday 7 (and_parts _ _ times).0, ltb-true start 86_400 (and_parts _ _ times).1, leb-true 1 length (and_parts _ _ within).1, leb-true length 604_800 (and_parts _ _ is).1))
    at true is (Some w) made = ap (λ (x : Window). Some x) (same_window w _ made)

-- The offset of a rule stays the same within a year up to the next transition.
use Rattle.schedule_windows.proofs.Common.{◌≡◌, ◌+◌, ◌≤◌, ◌/◌, ◌*◌, ℕ, zero, suc, ℤ, pos, ◌-ℤ◌, ◌≤ℤ◌, ◌<ℤ◌, Bool, true, false, cond, not, Option, Some, None, refl, sym, ap, ◌∙◌, arith, int_le, int_lt, if◌then◌else◌, false_from_ne_true, true_from_ne_false, nat_tests, signed_arith, year_of_nanos, rule_offset_at, by_lt_z, nanos_of_seconds, in_window, ordered, transition_of, next_by, next_year, dst_at_by, match_some}
use Rattle.std.specs.Prelude.{◌&&◌}
use borrow.Author.Differences.{lt-true, lt-false}
use Rattle.jiff_core.specs.declared.offset.Offset.{Offset}
use Rattle.jiff_tz.proofs.TzifLemmas.{le_yes, le_no}
use Rattle.jiff_tz.specs.PosixRule.{utc_window}
use Rattle.jiff_tz.specs.Year.{years_within}
use Rattle.jiff_tz.specs.declared.info.OffsetInfo.{OffsetInfo}
use Rattle.jiff_tz.specs.declared.posix.Dst.{Dst}
use Rattle.jiff_tz.specs.declared.posix.TimeZone.{TimeZone}
use Rattle.schedule_windows.specs.Steady.{IsSteady}

lt_yes : (a b : ℤ) → a <ℤ b → int_lt a b ≡ true
lt_yes a b h = true_from_ne_false (int_lt a b) (λ e. let over = lt-false a b e in omega (arith, signed_arith))

lt_no : (a b : ℤ) → b ≤ℤ a → int_lt a b ≡ false
lt_no a b h = false_from_ne_true (int_lt a b) (λ e. let under = lt-true a b e in omega (arith, signed_arith))

-- whether a number lies in a span changes at the span's ends alone
span_stays : (a b n k : ℤ) → n ≤ℤ k → (n <ℤ a → k <ℤ a) → (a ≤ℤ n → n <ℤ b → k <ℤ b) → (int_le a k && int_lt k b) ≡ (int_le a n && int_lt n b)
span_stays a b n k le first second = by_lt_z n a
    (λ under. let under_k = first under in rw (le_no a n under, le_no a k under_k) refl)
    (λ over.
    let over_k : a ≤ℤ k = omega (arith, signed_arith) in
    rw (le_yes a n over, le_yes a k over_k) (by_lt_z n b
    (λ inside. let inside_k = second over inside in rw (lt_yes n b inside, lt_yes k b inside_k) refl)
    (λ past.
    let past_k : b ≤ℤ k = omega (arith, signed_arith) in
    rw (lt_no n b past, lt_no k b past_k) refl)))

-- a window's state changes at its two ends alone
window_stays : (a b n k : ℤ) → n ≤ℤ k → (n <ℤ (ordered (a, b)).0 → k <ℤ (ordered (a, b)).0) → ((ordered (a, b)).0 ≤ℤ n → n <ℤ (ordered (a, b)).1 → k <ℤ (ordered (a, b)).1) → in_window (a, b) k ≡ in_window (a, b) n
window_stays a b n k le first second = elim (int_le a b) as (λ t. (n <ℤ (cond {A = ℤ × ℤ} t (a, b) (b, a)).0 → k <ℤ (cond {A = ℤ × ℤ} t (a, b) (b, a)).0) → ((cond {A = ℤ × ℤ} t (a, b) (b, a)).0 ≤ℤ n → n <ℤ (cond {A = ℤ × ℤ} t (a, b) (b, a)).1 → k <ℤ (cond {A = ℤ × ℤ} t (a, b) (b, a)).1) → cond t (int_le a k && int_lt k b) (not (int_le b k && int_lt k a)) ≡ cond t (int_le a n && int_lt n b) (not (int_le b n && int_lt n a))) [
  | true ↦ λ f s. span_stays a b n k le f s
  | false ↦ λ f s. ap not (span_stays b a n k le f s)
] first second

years_within-le : (n days : ℕ) → years_within n days ≤ n
unfolding years_within
years_within-le zero days = omega arith
years_within-le (suc n) days = grind (arith, nat_tests, years_within-le n days)

years_within_mono : (n a b : ℕ) → a ≤ b → years_within n a ≤ years_within n b
unfolding years_within
years_within_mono zero a b h = omega arith
years_within_mono (suc n) a b h = grind (arith, nat_tests, years_within-le n a, years_within_mono n a b h)

same_years : (a b : ℕ) → (pos a -ℤ pos 10000) ≡ (pos b -ℤ pos 10000) → a ≡ b
same_years a b e = omega (arith, signed_arith)

-- the year between two moments of one year
year_stays : (first last k : ℕ) → year_of_nanos (nanos_of_seconds (pos first)) ≡ year_of_nanos (nanos_of_seconds (pos last)) → first ≤ k → k ≤ last → year_of_nanos (nanos_of_seconds (pos k)) ≡ year_of_nanos (nanos_of_seconds (pos first))
year_stays first last k e low high =
    let up = years_within_mono 20000 (first * 1000000000 / 86400000000000 + 4371953) (k * 1000000000 / 86400000000000 + 4371953) (omega arith) in
    let down = years_within_mono 20000 (k * 1000000000 / 86400000000000 + 4371953) (last * 1000000000 / 86400000000000 + 4371953) (omega arith) in
    let ends = same_years _ _ e in
    let same : years_within 20000 (k * 1000000000 / 86400000000000 + 4371953) ≡ years_within 20000 (first * 1000000000 / 86400000000000 + 4371953) = omega arith in
    ap (λ y. pos y -ℤ pos 10000) same

some_is : (b : Bool) (found next : ℤ × OffsetInfo) → (if b then Some found else None) ≡ Some next → found.0 ≡ next.0
some_is true found next e = let same : found ≡ next = cc in ap (λ p. p.0) same
some_is false found next e = cc

-- a transition that was found is where it was looked for
found_at : (rule : TimeZone) (d : Dst) (w : ℤ × ℤ) (n : ℤ) (next : ℤ × OffsetInfo) → transition_of rule d w n ≡ Some next → n ≡ next.0
found_at rule d w n next e = some_is _ _ next e

-- the next transition is the window's end that lies ahead in the year
ends_ahead : (rule : TimeZone) (d : Dst) (y n : ℤ) (next : ℤ × OffsetInfo) → next_by rule d y n ≡ Some next → (n <ℤ (ordered (utc_window d y rule.std_offset)).0 → (ordered (utc_window d y rule.std_offset)).0 ≡ next.0) × ((ordered (utc_window d y rule.std_offset)).0 ≤ℤ n → n <ℤ (ordered (utc_window d y rule.std_offset)).1 → (ordered (utc_window d y rule.std_offset)).1 ≡ next.0)
ends_ahead rule d y n next e =
    let w = utc_window d y rule.std_offset in
    let low = (ordered (utc_window d y rule.std_offset)).0 in
    let high = (ordered (utc_window d y rule.std_offset)).1 in
    let by : Bool → Bool → Option (ℤ × OffsetInfo) = λ s t. if s then transition_of rule d w low else (if t then transition_of rule d w high else next_year rule d y) in (
      λ under. found_at rule d w low next (ap (λ s. by s (int_lt n high)) (sym (lt_yes n low under)) ∙ e),
      λ over inside. found_at rule d w high next ((λ i. by (sym (lt_no n low over) i) (sym (lt_yes n high inside) i)) ∙ e),
    )

seconds_stay : (std : Offset) (dst : Option Dst) (n k : ℤ) → ((d : Dst) → dst ≡ Some d → in_window (utc_window d (year_of_nanos k) std) k ≡ in_window (utc_window d (year_of_nanos n) std) n) → (match_some (dst_at_by std dst k) std (λ d. d.offset)).seconds ≡ (match_some (dst_at_by std dst n) std (λ d. d.offset)).seconds
seconds_stay std None n k same = refl
seconds_stay std (Some d) n k same = ap (λ b. (match_some (if b then Some d else None) std (λ d. d.offset)).seconds) (same d refl)

pub steady_offset : (rule : TimeZone) (first last k : ℕ) → IsSteady rule first last → first ≤ k → k ≤ last → rule_offset_at rule k ≡ rule_offset_at rule first
steady_offset rule first last k steady low high = seconds_stay rule.std_offset rule.dst (nanos_of_seconds (pos first)) (nanos_of_seconds (pos k)) (λ d e.
    let n : ℤ = nanos_of_seconds (pos first) in
    let m : ℤ = nanos_of_seconds (pos k) in
    let y : ℤ = year_of_nanos n in
    let w : ℤ × ℤ = utc_window d y rule.std_offset in
    let next_is = ap (λ o. match_some o None (λ d. next_by rule d y n)) (sym e) ∙ steady.is_next in
    let ends = ends_ahead rule d y n steady.next next_is in
    let before = steady.before in
    let order : n ≤ℤ m = omega (arith, signed_arith) in
    let below : m <ℤ steady.next.0 = omega (arith, signed_arith) in
    ap (λ (z : ℤ). in_window (utc_window d z rule.std_offset) m) (year_stays first last k steady.year low high)
    ∙ window_stays w.0 w.1 n m order
    (λ under. rw (ends.0 under) below) (λ over inside. rw (ends.1 over inside) below))

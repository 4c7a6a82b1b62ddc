-- A window is open at a moment as it is so many seconds after the beginning of a week.
use Rattle.schedule_windows.proofs.Common.{◌≡◌, ◌+◌, ◌-◌, ◌*◌, ◌%◌, ◌/◌, ◌<◌, ◌≤◌, ℕ, ℤ, pos, negsuc, ◌+ℤ◌, false, ap, ◌∙◌, subst, arith, inl, inr, unsigned_abs, nat_lt, list_any, leb_tells, signed_arith, IsClosedBetween, second_of_week, since, spans, ZoneOf, civil_of, int_rem_euclid}
use Rattle.site_types.specs.declared.window.Windows.{Windows}
use Rattle.schedule_windows.specs.Opens.{is_open_at, is_open_after}
use Rattle.schedule_windows.specs.Zones.{offset_at}

before_thursday : (q : ℕ) → q ≤ 3 → (negsuc q +ℤ pos 4) ≡ pos (3 - q)
before_thursday q h = omega (arith, signed_arith)

week_second : (z : ℤ) (n : ℕ) → pos n ≡ (z +ℤ pos 345_600) → second_of_week (civil_of z) ≡ n % 604_800
week_second (pos a) n e = let same : n ≡ a + 345_600 = omega (arith, signed_arith) in omega arith
week_second (negsuc a) n e =
    let same : n + (a + 1) ≡ 345_600 = omega (arith, signed_arith) in
    let early : (negsuc (a / 86_400) +ℤ pos 4) ≡ pos (3 - a / 86_400) = before_thursday (a / 86_400) (omega arith) in
    ap (λ (d : ℤ). unsigned_abs (int_rem_euclid d (pos 7)) * 86_400 + (86_399 - a % 86_400)) early ∙ (omega arith)

pub is_open_at-after : (windows : Windows) (zone : ZoneOf) (moment count : ℕ) → pos count ≡ (pos moment +ℤ offset_at zone moment +ℤ pos 345_600) → is_open_at windows zone moment ≡ is_open_after (spans windows) count
unfolding is_open_at is_open_after
is_open_at-after windows zone moment count e =
    ap (λ s. list_any (λ w. nat_lt (since w s) w.length) (spans windows)) (week_second (pos moment +ℤ offset_at zone moment) count e)

-- the same some seconds later, as long as the offset is still the same
pub is_open_later : (windows : Windows) (zone : ZoneOf) (at until count : ℕ) (offset : ℤ) → offset ≡ offset_at zone at → ((m : ℕ) → at ≤ m → m < until → offset_at zone m ≡ offset_at zone at) → pos count ≡ (pos at +ℤ offset +ℤ pos 345_600)
    → (k : ℕ) → k < until - at → is_open_at windows zone (at + k) ≡ is_open_after (spans windows) (count + k)
is_open_later windows zone at until count offset same stays e k lt =
    let still = stays (at + k) (omega arith) (omega arith) in
    is_open_at-after windows zone (at + k) (count + k) (omega (arith, signed_arith))

-- what is closed up to a moment and from it on is closed throughout
pub closed_on : (windows : Windows) (zone : ZoneOf) (from at n : ℕ) → IsClosedBetween windows zone from at → ((k : ℕ) → k < n → is_open_at windows zone (at + k) ≡ false) → IsClosedBetween windows zone from (at + n)
closed_on windows zone from at n earlier next = record {
  closed = λ m low high. elim (leb_tells at m) [
    | inl past ↦
        let reached = past.1 in
        let same : at + (m - at) ≡ m = omega arith in
        subst (λ (x : ℕ). is_open_at windows zone x ≡ false) same (next (m - at) (omega arith))
    | inr before ↦ earlier.closed m low before.1
  ];
}

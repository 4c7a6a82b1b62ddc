-- An offset, and a time of the day, are written as they are read.
use Rattle.site_types.proofs.Common.{◌≡◌, ◌+◌, ◌*◌, ◌/◌, ◌%◌, ℕ, zero, suc, ℤ, pos, negsuc, neg_ℤ, unsigned_abs, List, ◌∷◌, ◌++◌, length, take, drop, Bool, true, false, refl, sym, ◌∙◌, ap, arith, ◌==◌, nat_le, slice_index, slice_range, and_parts, ltb-true, eqb-true, drop_more, digits_of, clock_text, second_at, second_of, seconds_of, signed, offset_of, two_digits, sign_of, offset_text}
use Rattle.std.specs.Prelude.{Some, None, nat_lt, if◌then◌else◌, ◌&&◌}
use Rattle.site_types.proofs.PieceSpelling.{cut_between, three_parts, two_spelled}
use Rattle.site_types.proofs.OptionLemmas.{guarded, chained, same_value}

-- the hours and the minutes are found again in their seconds
clock_parts : (hours minutes seconds : ℕ) → seconds_of hours minutes ≡ Some seconds → (seconds / 3600 ≡ hours) × (seconds % 3600 / 60 ≡ minutes)
clock_parts hours minutes seconds is =
    let parts = guarded (nat_lt hours 24 && nat_lt minutes 60) (Some (hours * 3600 + minutes * 60)) seconds is in
    let tests = and_parts (nat_lt hours 24) (nat_lt minutes 60) parts.0 in
    let h = ltb-true hours 24 tests.0 in
    let m = ltb-true minutes 60 tests.1 in
    let sum = same_value (hours * 3600 + minutes * 60) seconds parts.1 in
    (omega arith, omega arith)

sign_parts : (sign seconds : ℕ) (z : ℤ) → signed sign seconds ≡ Some z → (sign_of z ≡ sign) × (unsigned_abs z ≡ seconds)
sign_parts sign seconds z = at (sign == 43) refl
  where
    west : (seconds : ℕ) → (if sign == 45 && nat_le 1 seconds then Some (neg_ℤ (pos seconds)) else None) ≡ Some z → (sign_of z ≡ sign) × (unsigned_abs z ≡ seconds)
    west zero is = let none : false ≡ true = (and_parts (sign == 45) false (guarded (sign == 45 && nat_le 1 0) (Some (pos 0)) z is).0).1 in absurd (cc none)
    west (suc n) is =
        let parts = guarded (sign == 45 && nat_le 1 (suc n)) (Some (negsuc n)) z is in
        let same = sym (same_value (negsuc n) z parts.1) in
        (ap sign_of same ∙ sym (eqb-true sign 45 (and_parts (sign == 45) (nat_le 1 (suc n)) parts.0).0), ap unsigned_abs same)

    at : (b : Bool) → (sign == 43) ≡ b → (if b then Some (pos seconds) else (if sign == 45 && nat_le 1 seconds then Some (neg_ℤ (pos seconds)) else None)) ≡ Some z → (sign_of z ≡ sign) × (unsigned_abs z ≡ seconds)
    at true plus is = let same = sym (same_value (pos seconds) z is) in (ap sign_of same ∙ sym (eqb-true sign 43 plus), ap unsigned_abs same)
    at false other is = west seconds is

offset_parts : (t hours minutes : List ℕ) (sign : ℕ) → length t ≡ 6 → slice_index t 3 ≡ 58 → sign ≡ slice_index t 0 → hours ≡ slice_range t 1 3 → minutes ≡ drop 4 t → sign ∷ (hours ++ (58 ∷ minutes)) ≡ t
offset_parts t hours minutes sign len colon s h m = (λ i. s i ∷ (h i ++ (58 ∷ m i))) ∙ ap (λ (l : List ℕ). slice_index t 0 ∷ l) (cut_between t 1 3 58 (omega arith) (omega arith) colon) ∙ sym (drop_more t 0 0 (omega arith))

pub offset_spelled : (t : List ℕ) (z : ℤ) → offset_of t ≡ Some z → offset_text z ≡ t
offset_spelled t z is =
    let whole = guarded (length t == 6 && slice_index t 3 == 58) _ z is in
    let tests = and_parts (length t == 6) (slice_index t 3 == 58) whole.0 in
    let hours = chained _ (digits_of 2 (slice_range t 1 3)) z whole.1 in
    let minutes = chained _ (digits_of 2 (drop 4 t)) z hours.2 in
    let seconds = chained (signed (slice_index t 0)) (seconds_of hours.0 minutes.0) z minutes.2 in
    let sign = sign_parts (slice_index t 0) seconds.0 z seconds.2 in
    let clock = clock_parts hours.0 minutes.0 seconds.0 seconds.1 in
    offset_parts t _ _ _ (eqb-true (length t) 6 tests.0) (eqb-true (slice_index t 3) 58 tests.1) sign.0
    (ap (λ (s : ℕ). two_digits (s / 3600)) sign.1 ∙ ap two_digits clock.0 ∙ two_spelled (slice_range t 1 3) hours.0 hours.1)
    (ap (λ (s : ℕ). two_digits (s % 3600 / 60)) sign.1 ∙ ap two_digits clock.1 ∙ two_spelled (drop 4 t) minutes.0 minutes.1)

time_parts : (hour minute second at : ℕ) → second_at hour minute second ≡ Some at → (at / 3600 ≡ hour) × (at % 3600 / 60 ≡ minute) × (at % 60 ≡ second)
time_parts hour minute second at is =
    let parts = guarded (nat_lt hour 24 && nat_lt minute 60 && nat_lt second 60) (Some (hour * 3600 + minute * 60 + second)) at is in
    let tests = and_parts (nat_lt hour 24 && nat_lt minute 60) (nat_lt second 60) parts.0 in
    let firsts = and_parts (nat_lt hour 24) (nat_lt minute 60) tests.0 in
    let h = ltb-true hour 24 firsts.0 in
    let m = ltb-true minute 60 firsts.1 in
    let s = ltb-true second 60 tests.1 in
    let sum = same_value (hour * 3600 + minute * 60 + second) at parts.1 in
    (omega arith, omega arith, omega arith)

pub clock_spelled : (t : List ℕ) (at : ℕ) → second_of t ≡ Some at → clock_text at ≡ t
clock_spelled t at is =
    let whole = guarded (length t == 8 && slice_index t 2 == 58 && slice_index t 5 == 58) _ at is in
    let tests = and_parts (length t == 8 && slice_index t 2 == 58) (slice_index t 5 == 58) whole.0 in
    let firsts = and_parts (length t == 8) (slice_index t 2 == 58) tests.0 in
    let hour = chained _ (digits_of 2 (take 2 t)) at whole.1 in
    let minute = chained _ (digits_of 2 (slice_range t 3 5)) at hour.2 in
    let second = chained _ (digits_of 2 (drop 6 t)) at minute.2 in
    let parts = time_parts hour.0 minute.0 second.0 at second.2 in
    let len = eqb-true (length t) 8 firsts.0 in
    three_parts t 2 5 58 _ _ _ (omega arith) (omega arith) (eqb-true (slice_index t 2) 58 firsts.1) (eqb-true (slice_index t 5) 58 tests.1)
    (ap two_digits parts.0 ∙ two_spelled (take 2 t) hour.0 hour.1)
    (ap two_digits parts.1 ∙ two_spelled (slice_range t 3 5) minute.0 minute.1)
    (ap two_digits parts.2 ∙ two_spelled (drop 6 t) second.0 second.1)

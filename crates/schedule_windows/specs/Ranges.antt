-- Numbers that are kept within their ranges.
use Rattle.std.proofs.Common.{◌≡◌, ℤ, pos, neg_ℤ, ◌≤ℤ◌, int_lt, Bool, true, false, cond, IsTrue, [], refl, arith, rules}
use Rattle.std.specs.Prelude.{if◌then◌else◌}
use Rattle.std.proofs.lemmas.Grind.{merely}
use Rattle.std.proofs.lemmas.Str.{IsUtf8-nil}
use borrow.Author.Differences.{lt-true, lt-false}
use Rattle.jiff_core.specs.Calendar.{IsWithin}
use Rattle.jiff_core.proofs.SignedLemmas.{signed_arith}
use Rattle.jiff_tz.specs.PosixDay.{is_rule_day}
use Rattle.jiff_tz.specs.PosixRule.{clamp_to}
use Rattle.jiff_tz.specs.declared.abbreviation.Abbreviation.{Abbreviation}
use Rattle.jiff_tz.specs.declared.posix.Day.{Day}
use Rattle.jiff_tz.specs.declared.posix.Day.TheVariants.{JulianZero}

clamped : (low high z : ℤ) → low ≤ℤ high → (low ≤ℤ clamp_to low high z) × (clamp_to low high z ≤ℤ high)
clamped low high z h = elim (int_lt z low) as (λ b. int_lt z low ≡ b → (low ≤ℤ cond b low (cond (int_lt high z) high z)) × (cond b low (cond (int_lt high z) high z) ≤ℤ high)) [
  | true ↦ λ e. (omega (arith, signed_arith), h)
  | false ↦ λ e. let above = lt-false z low e in
      elim (int_lt high z) as (λ b. int_lt high z ≡ b → (low ≤ℤ cond b high z) × (cond b high z ≤ℤ high)) [
        | true ↦ λ f. (h, omega (arith, signed_arith))
        | false ↦ λ f. let below = lt-false high z f in (omega (arith, signed_arith), omega (arith, signed_arith))
      ] refl
] refl

-- a number that lies in the range stays as it is
pub clamp_to-within : (low high z : ℤ) → low ≤ℤ z → z ≤ℤ high → clamp_to low high z ≡ z
clamp_to-within low high z h k = elim (int_lt z low) as (λ b. int_lt z low ≡ b → cond b low (cond (int_lt high z) high z) ≡ z) [
  | true ↦ λ e. let below = lt-true z low e in absurd (omega (arith, signed_arith))
  | false ↦ λ e. elim (int_lt high z) as (λ b. int_lt high z ≡ b → cond b high z ≡ z) [
    | true ↦ λ f. let above = lt-true high z f in absurd (omega (arith, signed_arith))
    | false ↦ λ f. refl
  ] refl
] refl

pub offset_in_range : (s : ℤ) → IsWithin 93_599 (clamp_to (neg_ℤ (pos 93_599)) (pos 93_599) s)
offset_in_range s = clamped _ _ s (omega (arith, signed_arith))

pub time_in_range : (s : ℤ) → IsWithin 604_799 (clamp_to (neg_ℤ (pos 604_799)) (pos 604_799) s)
time_in_range s = clamped _ _ s (omega (arith, signed_arith))

chosen_day : (d : Day) (b : Bool) → is_rule_day d ≡ b → IsTrue (is_rule_day (cond b d (JulianZero 0)))
chosen_day d true e = search rules
chosen_day d false e = search rules

pub day_in_range : (d : Day) → IsTrue (is_rule_day (if is_rule_day d then d else JulianZero 0))
day_in_range d = chosen_day d (is_rule_day d) refl

-- an abbreviation with no letters
pub no_name : Abbreviation
no_name = record { bytes = []; len = 0; fits = omega arith; text = merely IsUtf8-nil }

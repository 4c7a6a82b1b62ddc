-- A text spells a number exactly where it is what is written of it.
use Rattle.site_types.proofs.Common.{◌≡◌, ◌<◌, ◌≤◌, ◌^◌, ℕ, List, Bool, true, false, refl, sym, ◌∙◌, ap, subst, arith, nat_le, decimal, bytes_eq, IsUtf8, digits_value, IsUtf8-from_ascii, bytes_eq-Decides, nat_tests, number_up_to}
use Rattle.std.specs.Prelude.{Some, None, if◌then◌else◌, ◌&&◌}
use Rattle.std.proofs.lemmas.Fmt.{decimal_is_IsNumeral, IsAscii-decimal}

chosen : (a b : Bool) (n : ℕ) → a ≡ true → b ≡ true → (if a && b then Some n else None) ≡ Some n
chosen a b n p q = (λ i. if p i && q i then Some n else None)

le_is : (m n : ℕ) → m ≤ n → nat_le m n ≡ true
le_is m n le = grind (arith, nat_tests)

pub number_up_to-decimal : (limit n : ℕ) (text : List ℕ) → n < 2 ^ 64 → n ≤ limit → text ≡ decimal n → number_up_to limit text ≡ Some n
number_up_to-decimal limit n text small le is =
    let value : digits_value 10 text ≡ n = ap (λ (t : List ℕ). digits_value 10 t) is ∙ (decimal_is_IsNumeral n small).1 in
    let within : nat_le (digits_value 10 text) limit ≡ true = le_is _ _ (subst (λ (k : ℕ). k ≤ limit) (sym value) le) in
    let same : bytes_eq text (decimal (digits_value 10 text)) ≡ true = (bytes_eq-Decides text (decimal (digits_value 10 text))).1 (is ∙ ap decimal (sym value)) in
    chosen _ _ _ within same ∙ ap (λ (k : ℕ). Some k) value

-- where no number of at most the limit is written so, the text spells none
pub number_up_to-none : (limit : ℕ) (text : List ℕ) → limit < 2 ^ 64 → ((n : ℕ) → n < 2 ^ 64 → n ≤ limit → text ≡ decimal n → ⊥) → None ≡ number_up_to limit text
number_up_to-none limit text small unspelled = at (nat_le (digits_value 10 text) limit) (bytes_eq text (decimal (digits_value 10 text))) refl refl
  where
    at : (a b : Bool) → nat_le (digits_value 10 text) limit ≡ a → bytes_eq text (decimal (digits_value 10 text)) ≡ b → None ≡ (if a && b then Some (digits_value 10 text) else None)
    at false b p q = refl
    at true false p q = refl
    at true true p q =
        let le : digits_value 10 text ≤ limit = grind (arith, nat_tests) in
        absurd (unspelled (digits_value 10 text) (omega arith) le ((bytes_eq-Decides text (decimal (digits_value 10 text))).0 q))

pub IsUtf8-decimal : (n : ℕ) (text : List ℕ) → n < 2 ^ 64 → text ≡ decimal n → IsUtf8 text
IsUtf8-decimal n text small is = subst IsUtf8 (sym is) (IsUtf8-from_ascii (decimal n) (IsAscii-decimal n small))

-- Parts of a text: digits, and what stands between separators.
use Rattle.site_types.proofs.Common.{◌≡◌, ◌<◌, ◌≤◌, ◌+◌, ◌*◌, ◌/◌, ◌%◌, ℕ, List, [], ◌∷◌, ◌++◌, length, take, drop, true, sym, ◌∙◌, ap, ap₂, append_assoc, arith, take-append-drop, ◌==◌, nat_le, slice_index, slice_range, list_all, digits_value, and_parts, leb-true, eqb-true, drop_more, drop_split, digit_value_digit, four_digits, digits_of, two_digits}
use Rattle.std.specs.Prelude.{Some, ◌&&◌}
use Rattle.std.specs.Char.{is_ascii_digit, digit_value}
use Rattle.site_types.proofs.OptionLemmas.{guarded, same_value}

-- what stands from one place on is what stands before a separator, the separator, and what stands behind it
pub cut_between : (t : List ℕ) (a b c : ℕ) → a ≤ b → b < length t → slice_index t b ≡ c → slice_range t a b ++ c ∷ drop (b + 1) t ≡ drop a t
cut_between t a b c le inside is = ap (λ (l : List ℕ). slice_range t a b ++ l) (sym (drop_more t b 0 inside ∙ ap (λ (d : ℕ). d ∷ drop (b + 1) t) is)) ∙ sym (drop_split t a b le)

left_nested : (c : ℕ) (xs ys zs : List ℕ) → xs ++ (c ∷ []) ++ ys ++ (c ∷ []) ++ zs ≡ xs ++ (c ∷ (ys ++ (c ∷ zs)))
left_nested c xs ys zs = append_assoc (xs ++ (c ∷ []) ++ ys) (c ∷ []) zs ∙ append_assoc (xs ++ (c ∷ [])) ys (c ∷ zs) ∙ append_assoc xs (c ∷ []) (ys ++ (c ∷ zs))

whole_from : (t : List ℕ) (a b c : ℕ) → a < b → b < length t → slice_index t a ≡ c → slice_index t b ≡ c → take a t ++ (c ∷ (slice_range t (a + 1) b ++ (c ∷ drop (b + 1) t))) ≡ t
whole_from t a b c lt inside first second =
    let rest : drop a t ≡ c ∷ drop (a + 1) t = drop_more t a 0 (omega arith) ∙ ap (λ (d : ℕ). d ∷ drop (a + 1) t) first in
    let whole : c ∷ (slice_range t (a + 1) b ++ (c ∷ drop (b + 1) t)) ≡ drop a t = ap (λ (l : List ℕ). c ∷ l) (cut_between t (a + 1) b c (omega arith) inside second) ∙ sym rest in
    ap (λ (l : List ℕ). take a t ++ l) whole ∙ take-append-drop a t

-- a text in which a separator stands at two places, from how the three parts are written
pub three_parts : (t : List ℕ) (a b c : ℕ) (x y z : List ℕ) → a < b → b < length t → slice_index t a ≡ c → slice_index t b ≡ c → x ≡ take a t → y ≡ slice_range t (a + 1) b → z ≡ drop (b + 1) t → x ++ (c ∷ []) ++ y ++ (c ∷ []) ++ z ≡ t
three_parts t a b c x y z lt inside first second p q r = left_nested c x y z ∙ (λ i. p i ++ (c ∷ (q i ++ (c ∷ r i)))) ∙ whole_from t a b c lt inside first second

digit : (c : ℕ) → is_ascii_digit c ≡ true → digit_value c + 48 ≡ c
digit c is = let parts = and_parts (nat_le 48 c) (nat_le c 57) is in digit_value_digit c (leb-true 48 c parts.0, leb-true c 57 parts.1)

digit_below : (c : ℕ) → is_ascii_digit c ≡ true → digit_value c < 10
digit_below c is = let le = leb-true c 57 (and_parts (nat_le 48 c) (nat_le c 57) is).1 in omega (arith, digit c is)

two : (a b x y : ℕ) → x + 48 ≡ a → y + 48 ≡ b → x < 10 → y < 10 → two_digits ((0 * 10 + x) * 10 + y) ≡ a ∷ b ∷ []
two a b x y p q r s =
    let n = (0 * 10 + x) * 10 + y in
    let tens : 48 + n / 10 % 10 ≡ a = omega arith in
    let ones : 48 + n % 10 ≡ b = omega arith in
    ap₂ (λ (c : ℕ) (d : ℕ). c ∷ d ∷ []) tens ones

pub two_spelled : (t : List ℕ) (n : ℕ) → digits_of 2 t ≡ Some n → two_digits n ≡ t
two_spelled t n is = let parts = guarded (length t == 2 && list_all is_ascii_digit t) (Some (digits_value 10 t)) n is in ap two_digits (sym (same_value (digits_value 10 t) n parts.1)) ∙ at t (and_parts (length t == 2) (list_all is_ascii_digit t) parts.0)
  where
    at : (t : List ℕ) → ((length t == 2) ≡ true) × (list_all is_ascii_digit t ≡ true) → two_digits (digits_value 10 t) ≡ t
    at [] h = absurd (cc h.0)
    at (a ∷ []) h = absurd (cc h.0)
    at (a ∷ b ∷ []) h =
        let first = and_parts (is_ascii_digit a) (list_all is_ascii_digit (b ∷ [])) h.1 in
        let second = and_parts (is_ascii_digit b) (list_all is_ascii_digit []) first.1 in
        two a b _ _ (digit a first.0) (digit b second.0) (digit_below a first.0) (digit_below b second.0)
    at (a ∷ b ∷ c ∷ t) h = let len = eqb-true (length (a ∷ b ∷ c ∷ t)) 2 h.0 in absurd (omega arith)

four : (a b c d x y z w : ℕ) → x + 48 ≡ a → y + 48 ≡ b → z + 48 ≡ c → w + 48 ≡ d → x < 10 → y < 10 → z < 10 → w < 10 → four_digits ((((0 * 10 + x) * 10 + y) * 10 + z) * 10 + w) ≡ a ∷ b ∷ c ∷ d ∷ []
four a b c d x y z w p q r s xs ys zs ws =
    let n = (((0 * 10 + x) * 10 + y) * 10 + z) * 10 + w in
    let high : n / 100 ≡ (0 * 10 + x) * 10 + y = omega arith in
    let low : n % 100 ≡ (0 * 10 + z) * 10 + w = omega arith in
    ap₂ (λ (h : ℕ) (l : ℕ). two_digits h ++ two_digits l) high low ∙ ap₂ (λ (h : List ℕ) (l : List ℕ). h ++ l) (two a b x y p q xs ys) (two c d z w r s zs ws)

pub four_spelled : (t : List ℕ) (n : ℕ) → digits_of 4 t ≡ Some n → four_digits n ≡ t
four_spelled t n is = let parts = guarded (length t == 4 && list_all is_ascii_digit t) (Some (digits_value 10 t)) n is in ap four_digits (sym (same_value (digits_value 10 t) n parts.1)) ∙ at t (and_parts (length t == 4) (list_all is_ascii_digit t) parts.0)
  where
    at : (t : List ℕ) → ((length t == 4) ≡ true) × (list_all is_ascii_digit t ≡ true) → four_digits (digits_value 10 t) ≡ t
    at [] h = absurd (cc h.0)
    at (a ∷ []) h = absurd (cc h.0)
    at (a ∷ b ∷ []) h = absurd (cc h.0)
    at (a ∷ b ∷ c ∷ []) h = absurd (cc h.0)
    at (a ∷ b ∷ c ∷ d ∷ []) h =
        let first = and_parts (is_ascii_digit a) (list_all is_ascii_digit (b ∷ c ∷ d ∷ [])) h.1 in
        let second = and_parts (is_ascii_digit b) (list_all is_ascii_digit (c ∷ d ∷ [])) first.1 in
        let third = and_parts (is_ascii_digit c) (list_all is_ascii_digit (d ∷ [])) second.1 in
        let fourth = and_parts (is_ascii_digit d) (list_all is_ascii_digit []) third.1 in
        four a b c d _ _ _ _ (digit a first.0) (digit b second.0) (digit c third.0) (digit d fourth.0) (digit_below a first.0) (digit_below b second.0) (digit_below c third.0) (digit_below d fourth.0)
    at (a ∷ b ∷ c ∷ d ∷ e ∷ t) h = let len = eqb-true (length (a ∷ b ∷ c ∷ d ∷ e ∷ t)) 4 h.0 in absurd (omega arith)

-- The last underscore of a text.
use Rattle.site_types.proofs.Common.{arith, ◌≡◌, ◌≢◌, ◌≤◌, ◌<◌, ◌-◌, ◌+◌, ℕ, List, length, get_or, ap, ◌∙◌, eq-eqb, ne_eqb, suffix_len, is_underscore}
use Rattle.std.specs.Prelude.{not}
use Rattle.std.proofs.lemmas.List.Sums.{suffix_len_is}

pub behind_last : (bytes : List ℕ) (at : ℕ) → at < length bytes → get_or bytes at 0 ≡ 95 → ((k : ℕ) → at + 1 ≤ k → k < length bytes → get_or bytes k 0 ≢ 95)
    → suffix_len (λ b. not (is_underscore b)) bytes ≡ length bytes - (at + 1)
behind_last bytes at inside here later = suffix_len_is (λ b. not (is_underscore b)) bytes (at + 1) 0 (omega arith)
    (λ k from below. ap not (ne_eqb (get_or bytes k 0) 95 (later k from below)))
    (λ _. let same : at + 1 - 1 ≡ at = omega arith in ap (λ (i : ℕ). not (is_underscore (get_or bytes i 0))) same ∙ ap not (eq-eqb (get_or bytes at 0) 95 here))

pub without_one : (bytes : List ℕ) → ((k : ℕ) → 0 ≤ k → k < length bytes → get_or bytes k 0 ≢ 95) → suffix_len (λ b. not (is_underscore b)) bytes ≡ length bytes
without_one bytes none = suffix_len_is (λ b. not (is_underscore b)) bytes 0 0 (omega arith) (λ k from below. ap not (ne_eqb (get_or bytes k 0) 95 (none k from below))) (λ positive. absurd (omega (arith, positive))) ∙ (let all : length bytes - 0 ≡ length bytes = omega arith in all)

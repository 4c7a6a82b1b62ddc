-- The moments that a clock in memory gave.
use Rattle.std.proofs.Common.{◌≡◌, ℕ, zero, suc, ◌+◌, List, [], ◌∷◌, ◌++◌, length, refl, ◌∙◌, ap, length-append, add-one}
use Rattle.vault_disk.specs.Ticks.{moment_at, given}

pub given_next : (moments : List ℕ) (n : ℕ) → given moments (n + 1) ≡ given moments n ++ moment_at moments n ∷ []
given_next moments n = ap (λ k. given moments k) (add-one n)

pub length_given : (moments : List ℕ) (n : ℕ) → length (given moments n) ≡ n
length_given moments zero = refl
length_given moments (suc n) = length-append (given moments n) (moment_at moments n ∷ []) ∙ ap (λ k. k + 1) (length_given moments n) ∙ add-one n

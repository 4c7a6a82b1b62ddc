-- Bytes that pieces in slots spell, and the pieces of them.
use Rattle.std.proofs.Common.{◌≡◌, ◌∙◌, ◌≤◌, ◌-◌, ◌*◌, ℕ, zero, suc, Bool, true, false, List, [], ◌∷◌, ◌++◌, length, take, drop, min, refl, sym, ap, subst, arith, inl, inr, ◌⊎◌}
use Rattle.std.specs.Prelude.{nat_lt}
use Rattle.std.proofs.lemmas.Bool.Decides.{nat_tests}
use Rattle.std.proofs.lemmas.List.{take_all, drop_all, length-append}
use Rattle.std.proofs.Math.Seq.{take-append_seam, drop-append_seam}
use Rattle.desk_model.specs.Pieces.{blocks, pieces}
use Rattle.vault_ledger.specs.Ledger.{spelled}

-- the parts of a file of which bytes are spelled
abbrev pub cuts : List ℕ → ℕ → ℕ → List ℕ → List (List ℕ)
cuts file size n [] = []
cuts file size n (slot ∷ slots) = take (min size n) (drop (slot * size) file) ∷ cuts file size (n - size) slots

-- they are n bytes together, and each is as long as it has to be
abbrev pub AreFull : List ℕ → ℕ → ℕ → List ℕ → Type 0
AreFull file size n [] = n ≡ 0
AreFull file size n (slot ∷ slots) = (1 ≤ n) × (length (take (min size n) (drop (slot * size) file)) ≡ min size n) × AreFull file size (n - size) slots

pub spelled_length : (file : List ℕ) (size n : ℕ) (slots : List ℕ) → AreFull file size n slots → length (spelled file size n slots) ≡ n
spelled_length file size n [] full = sym full
spelled_length file size n (slot ∷ slots) full =
    let here = full.1 in
    let later = spelled_length file size (n - size) slots full.2 in
    length-append (take (min size n) (drop (slot * size) file)) (spelled file size (n - size) slots) ∙ omega (arith, here, later)

-- a block and what comes behind it
block_first : (m size : ℕ) (p rest : List ℕ) → 1 ≤ length p → take size (p ++ rest) ≡ p → drop size (p ++ rest) ≡ rest → blocks (suc m) size (p ++ rest) ≡ p ∷ blocks m size rest
block_first m size [] rest some front back = absurd (omega (arith, some))
block_first m size (b ∷ p) rest some front back = λ i. front i ∷ blocks m size (back i)

-- bytes are cut behind a full part, and behind the last one
cut_behind : (size : ℕ) (p rest : List ℕ) → (length p ≡ size) ⊎ ((length p ≤ size) × (rest ≡ [])) → (take size (p ++ rest) ≡ p) × (drop size (p ++ rest) ≡ rest)
cut_behind size p rest (inl full) =
    (subst (λ (n : ℕ). take n (p ++ rest) ≡ p) full (take-append_seam p rest), subst (λ (n : ℕ). drop n (p ++ rest) ≡ rest) full (drop-append_seam p rest))
cut_behind size p rest (inr last) =
    let few : length (p ++ []) ≤ size = let long = length-append p [] in let short = last.0 in omega (arith, long, short) in
    let whole : p ++ [] ≡ p = append_nil p in
    (subst (λ (r : List ℕ). take size (p ++ r) ≡ p) (sym last.1) (take_all size (p ++ []) few ∙ whole), subst (λ (r : List ℕ). drop size (p ++ r) ≡ r) (sym last.1) (drop_all size (p ++ []) few))
  where
    append_nil : (xs : List ℕ) → xs ++ [] ≡ xs
    append_nil [] = refl
    append_nil (x ∷ xs) = ap (λ (l : List ℕ). x ∷ l) (append_nil xs)

none_left : (file : List ℕ) (size : ℕ) (slots : List ℕ) → AreFull file size 0 slots → slots ≡ []
none_left file size [] full = refl
none_left file size (slot ∷ slots) full = let some = full.0 in absurd (omega (arith, some))

spelled_blocks : (m : ℕ) (file : List ℕ) (size n : ℕ) (slots : List ℕ) → 1 ≤ size → n ≤ m → AreFull file size n slots → blocks m size (spelled file size n slots) ≡ cuts file size n slots
spelled_blocks zero file size n [] some fuel full = refl
spelled_blocks (suc m) file size n [] some fuel full = refl
spelled_blocks zero file size n (slot ∷ slots) some fuel full = let more = full.0 in absurd (omega (arith, more, fuel))
spelled_blocks (suc m) file size n (slot ∷ slots) some fuel full =
    block_first m size part rest long cut.0 cut.1 ∙ ap (λ (l : List (List ℕ)). part ∷ l) (spelled_blocks m file size (n - size) slots some fewer full.2)
  where
    part : List ℕ
    part = take (min size n) (drop (slot * size) file)

    rest : List ℕ
    rest = spelled file size (n - size) slots

    fewer : n - size ≤ m
    fewer = omega (arith, some, fuel)

    long : 1 ≤ length part
    long = let here = full.1 in let more = full.0 in omega (arith, here, more, some)

    cut : (take size (part ++ rest) ≡ part) × (drop size (part ++ rest) ≡ rest)
    cut = cut_behind size part rest (at (nat_lt n size) refl)
      where
        at : (b : Bool) → nat_lt n size ≡ b → (length part ≡ size) ⊎ ((length part ≤ size) × (rest ≡ []))
        at true less =
            let short : n - size ≡ 0 = grind (arith, nat_tests, less) in
            let none : slots ≡ [] = none_left file size slots (subst (λ (k : ℕ). AreFull file size k slots) short full.2) in
            let here = full.1 in
            inr (omega (arith, here), ap (λ (l : List ℕ). spelled file size (n - size) l) none)
        at false more =
            let enough : min size n ≡ size = grind (arith, nat_tests, more) in
            inl (full.1 ∙ enough)

-- the pieces of spelled bytes are the parts of which they are spelled
pub spelled_pieces : (file : List ℕ) (size n : ℕ) (slots : List ℕ) → 1 ≤ size → AreFull file size n slots → pieces size (spelled file size n slots) ≡ cuts file size n slots
spelled_pieces file size n slots some full =
    spelled_blocks (length (spelled file size n slots)) file size n slots some (let long = spelled_length file size n slots full in omega (arith, long)) full

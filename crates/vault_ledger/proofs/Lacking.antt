-- The pieces that a set lacks, and the slots in which they stand.
use Rattle.std.proofs.Common.{◌≡◌, ◌∙◌, ℕ, Bool, true, false, List, [], ◌∷◌, ◌++◌, refl, sym, ap, arith}
use Rattle.std.specs.Prelude.{map, if◌then◌else◌, ◌==◌, ◌||◌}
use Rattle.std.specs.List.{All, list_any}
use Rattle.std.specs.Str.{bytes_eq}
use Rattle.std.proofs.lemmas.List.{append_assoc, map-append}
use Rattle.std.proofs.lemmas.List.Elements.{All-head, All-push, All-tail}
use Rattle.std.proofs.lemmas.Bool.{false≢true}
use Rattle.std.proofs.lemmas.Bool.Decides.{nat_tests}
use Rattle.std.proofs.lemmas.Slice.Eq.{bytes_eq-Decides}
use Rattle.desk_model.specs.Pieces.{with_pieces}
use Rattle.copy_fragments.specs.Placings.{lacking}
use Rattle.vault_ledger.specs.Pools.{unrecorded}

-- a set with pieces is the set with those that it lacks behind it
pub with_lacking : (set more : List (List ℕ)) → with_pieces set more ≡ set ++ lacking set more
with_lacking set [] = sym (append-nil set)
  where
    append-nil : (xs : List (List ℕ)) → xs ++ [] ≡ xs
    append-nil [] = refl
    append-nil (x ∷ xs) = ap (λ (l : List (List ℕ)). x ∷ l) (append-nil xs)
with_lacking set (piece ∷ more) = at (λ s. with_lacking s more) (list_any (λ p. bytes_eq p piece) set)
  where
    at : ((s : List (List ℕ)) → with_pieces s more ≡ s ++ lacking s more) → (b : Bool) → with_pieces (if b then set else set ++ piece ∷ []) more ≡ set ++ (if b then lacking set more else piece ∷ lacking (set ++ piece ∷ []) more)
    at later true = later set
    at later false = later (set ++ piece ∷ []) ∙ append_assoc set (piece ∷ []) (lacking (set ++ piece ∷ []) more)

-- slots whose pieces are distinct
module _ (piece_of : ℕ → List ℕ) (Known : ℕ → Type 0) (apart : (s t : ℕ) → Known s → Known t → piece_of s ≡ piece_of t → s ≡ t) where
  same_piece : (s t : ℕ) → Known s → Known t → bytes_eq (piece_of s) (piece_of t) ≡ (s == t)
  same_piece s t known knows = at (bytes_eq (piece_of s) (piece_of t)) refl (s == t) refl
    where
      at : (b : Bool) → bytes_eq (piece_of s) (piece_of t) ≡ b → (c : Bool) → (s == t) ≡ c → b ≡ c
      at true same true is = refl
      at false differs false is = refl
      at true same false differs =
          let equal : s ≡ t = apart s t known knows ((bytes_eq-Decides (piece_of s) (piece_of t)).0 same) in
          absurd (grind (arith, nat_tests, equal, differs))
      at false differs true is =
          let equal : s ≡ t = grind (arith, nat_tests, is) in
          absurd (false≢true (sym differs ∙ (bytes_eq-Decides (piece_of s) (piece_of t)).1 (ap piece_of equal)))

  -- a piece is among those of slots where its slot is among them
  among_pieces : (seen : List ℕ) (slot : ℕ) → All Known seen → Known slot → list_any (λ p. bytes_eq p (piece_of slot)) (map piece_of seen) ≡ list_any (λ s. s == slot) seen
  among_pieces [] slot knows known = refl
  among_pieces (s ∷ seen) slot knows known =
      let here = same_piece s slot (All-head Known s seen knows) known in
      let later = among_pieces seen slot (All-tail Known s seen knows) known in
      λ i. here i || later i

  pub lacking_slots : (seen slots : List ℕ) → All Known seen → All Known slots → lacking (map piece_of seen) (map piece_of slots) ≡ map piece_of (unrecorded seen slots)
  lacking_slots seen [] knows known = refl
  lacking_slots seen (slot ∷ slots) knows known =
      ap (λ (b : Bool). if b then lacking (map piece_of seen) (map piece_of slots) else piece_of slot ∷ lacking (map piece_of seen ++ piece_of slot ∷ []) (map piece_of slots)) (among_pieces seen slot knows here)
      ∙ at (λ s k. lacking_slots s slots k rest) (list_any (λ s. s == slot) seen)
    where
      here : Known slot
      here = All-head Known slot slots known

      rest : All Known slots
      rest = All-tail Known slot slots known

      at : ((s : List ℕ) → All Known s → lacking (map piece_of s) (map piece_of slots) ≡ map piece_of (unrecorded s slots)) → (b : Bool) → (if b then lacking (map piece_of seen) (map piece_of slots) else piece_of slot ∷ lacking (map piece_of seen ++ piece_of slot ∷ []) (map piece_of slots)) ≡ map piece_of (if b then unrecorded seen slots else slot ∷ unrecorded (seen ++ slot ∷ []) slots)
      at later true = later seen knows
      at later false = ap (λ (l : List (List ℕ)). piece_of slot ∷ l)
          (ap (λ (l : List (List ℕ)). lacking l (map piece_of slots)) (sym (map-append piece_of seen (slot ∷ [])))
          ∙ later (seen ++ slot ∷ []) (All-push Known seen slot knows here))

-- Pieces of byte strings, and sets of them.
use Rattle.desk_model.proofs.Common.{◌≡◌, ◌≢◌, ◌≤◌, ◌-◌, ◌∙◌, ℕ, zero, suc, Bool, true, false, List, [], ◌∷◌, ◌++◌, length, get_or, take, drop, min, refl, sym, ap, subst, arith, if◌then◌else◌, ◌==◌, Contains, AllPairs, list_any, bytes_eq, false≢true, length-take, bytes_eq-Decides, nat_tests, ⊎_elim, blocks, piece_count, pieces, with_piece, with_pieces}
use Rattle.std.specs.Int.{div_ceil}
use Rattle.std.proofs.Math.Nat.{div-eq-sub-div, div-eq_of_lt, mod-eq-sub-mod, mod-eq_of_lt, zero-div, zero-mod}
use Rattle.std.proofs.lemmas.Bool.{cases_lt}
use Rattle.std.proofs.lemmas.List.{length-drop}
use Rattle.std.proofs.lemmas.List.Elements.{Contains-append_left, Contains-push, Contains-push_cases}
use Rattle.std.proofs.lemmas.List.Folds.{Any-from_list_any, list_any_at}
use Rattle.std.proofs.lemmas.List.Quantifiers.{all_pairs_push}

-- each block has from one byte to a segment's
blocks_sized : (n size : ℕ) (bytes : List ℕ) → 1 ≤ size → (piece : List ℕ) → Contains (blocks n size bytes) piece → (1 ≤ length piece) × (length piece ≤ size)
blocks_sized zero size bytes some piece (k, lt, is) = absurd (omega arith)
blocks_sized (suc n) size [] some piece (k, lt, is) = absurd (omega arith)
blocks_sized (suc n) size (b ∷ bytes) some piece (zero, lt, is) =
    let long : length (take size (b ∷ bytes)) ≡ min size (length (b ∷ bytes)) = length-take size (b ∷ bytes) in
    subst (λ (p : List ℕ). (1 ≤ length p) × (length p ≤ size)) is (omega (arith, long), omega (arith, long))
blocks_sized (suc n) size (b ∷ bytes) some piece (suc k, lt, is) = blocks_sized n size (drop size (b ∷ bytes)) some piece (k, omega arith, is)

pub pieces_sized : (size : ℕ) (bytes : List ℕ) → 1 ≤ size → (piece : List ℕ) → Contains (pieces size bytes) piece → (1 ≤ length piece) × (length piece ≤ size)
pieces_sized size bytes some piece among = blocks_sized (length bytes) size bytes some piece among

-- How many pieces there are.

none_counted : (size : ℕ) → div_ceil 0 size ≡ 0
none_counted size = let q = zero-div size in let r = zero-mod size in omega (arith, q, r)

-- one more than without the first
first_counted : (size total : ℕ) → 1 ≤ size → 1 ≤ total → div_ceil total size ≡ suc (div_ceil (total - size) size)
first_counted size total some full = ⊎_elim
    (λ short.
    let q = div-eq_of_lt short in
    let r = mod-eq_of_lt short in
    let left : total - size ≡ 0 = omega (arith, short) in
    let none = ap (λ k. div_ceil k size) left ∙ none_counted size in
    omega (arith, some, full, q, r, none))
    (λ long. let q = div-eq-sub-div some long in let r = mod-eq-sub-mod long in omega (arith, q, r))
    (cases_lt total size)

blocks_counted : (n size : ℕ) (bytes : List ℕ) → 1 ≤ size → length bytes ≤ n → length (blocks n size bytes) ≡ div_ceil (length bytes) size
blocks_counted zero size [] some room = sym (none_counted size)
blocks_counted zero size (b ∷ bytes) some room = absurd (omega (arith, room))
blocks_counted (suc n) size [] some room = sym (none_counted size)
blocks_counted (suc n) size (b ∷ bytes) some room =
    let left = length-drop size (b ∷ bytes) in
    ap suc (blocks_counted n size (drop size (b ∷ bytes)) some (omega (arith, some, room, left)) ∙ ap (λ k. div_ceil k size) left)
    ∙ sym (first_counted size (length (b ∷ bytes)) some (omega arith))

pub pieces_counted : (size : ℕ) (bytes : List ℕ) → 1 ≤ size → length (pieces size bytes) ≡ piece_count size (length bytes)
pieces_counted size bytes some =
    let full : (size == 0) ≡ false = grind (arith, nat_tests, some) in
    blocks_counted (length bytes) size bytes some (omega arith) ∙ (λ i. if sym full i then 0 else div_ceil (length bytes) size)

-- Pieces that are added to a set.

among_one : (set : List (List ℕ)) (new piece : List ℕ) → Contains set piece → Contains (with_piece set new) piece
among_one set new piece among = at (list_any (λ p. bytes_eq p new) set)
  where
    at : (b : Bool) → Contains (if b then set else set ++ new ∷ []) piece
    at true = among
    at false = Contains-append_left set (new ∷ []) piece among

among_new : (set : List (List ℕ)) (new : List ℕ) → Contains (with_piece set new) new
among_new set new = at (list_any (λ p. bytes_eq p new) set) refl
  where
    at : (b : Bool) → list_any (λ p. bytes_eq p new) set ≡ b → Contains (if b then set else set ++ new ∷ []) new
    at true there =
        let one = Any-from_list_any (λ (p : List ℕ). bytes_eq p new) set there in
        subst (λ (p : List ℕ). Contains set p) ((bytes_eq-Decides one.1 new).0 one.4) (one.0, one.2, one.3)
    at false there = Contains-push set new

pub among_all : (set more : List (List ℕ)) (piece : List ℕ) → Contains set piece → Contains (with_pieces set more) piece
among_all set [] piece among = among
among_all set (new ∷ more) piece among = among_all (with_piece set new) more piece (among_one set new piece among)

pub among_more : (set more : List (List ℕ)) (piece : List ℕ) → Contains more piece → Contains (with_pieces set more) piece
among_more set [] piece (k, lt, is) = absurd (omega arith)
among_more set (new ∷ more) piece (zero, lt, is) = among_all (with_piece set new) more piece (subst (λ (p : List ℕ). Contains (with_piece set new) p) is (among_new set new))
among_more set (new ∷ more) piece (suc k, lt, is) = among_more (with_piece set new) more piece (k, omega arith, is)

-- what holds of the pieces of a set and of those that are added
pub each_piece : (P : List ℕ → Type 0) (set more : List (List ℕ)) → ((p : List ℕ) → Contains set p → P p) → ((p : List ℕ) → Contains more p → P p) → (p : List ℕ) → Contains (with_pieces set more) p → P p
each_piece P set [] old new p among = old p among
each_piece P set (q ∷ more) old new p among = each_piece P (with_piece set q) more (one (list_any (λ r. bytes_eq r q) set)) (λ r there. new r (suc there.0, omega (arith, there.1), there.2)) p among
  where
    one : (b : Bool) → (r : List ℕ) → Contains (if b then set else set ++ q ∷ []) r → P r
    one true r there = old r there
    one false r there = ⊎_elim (λ before. old r before) (λ is. subst P is (new q (zero, omega arith, refl))) (Contains-push_cases set q r there)

-- they stay distinct
distinct_one : (set : List (List ℕ)) (new : List ℕ) → AllPairs (λ (a b : List ℕ). a ≢ b) set → AllPairs (λ (a b : List ℕ). a ≢ b) (with_piece set new)
distinct_one set new apart = at (list_any (λ p. bytes_eq p new) set) refl
  where
    at : (b : Bool) → list_any (λ p. bytes_eq p new) set ≡ b → AllPairs (λ (a c : List ℕ). a ≢ c) (if b then set else set ++ new ∷ [])
    at true there = apart
    at false there = all_pairs_push (λ (a c : List ℕ). a ≢ c) set new apart (λ k d lt same. false≢true (sym there ∙ list_any_at (λ p. bytes_eq p new) set k d lt ((bytes_eq-Decides (get_or set k d) new).1 same)))

pub distinct_all : (set more : List (List ℕ)) → AllPairs (λ (a b : List ℕ). a ≢ b) set → AllPairs (λ (a b : List ℕ). a ≢ b) (with_pieces set more)
distinct_all set [] apart = apart
distinct_all set (new ∷ more) apart = distinct_all (with_piece set new) more (distinct_one set new apart)

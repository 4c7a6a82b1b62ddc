-- Pieces one by one.
use Rattle.std.proofs.Common.{◌≡◌, ℕ, zero, suc, ◌+◌, ◌-◌, ◌*◌, ◌<◌, ◌≤◌, min, ⊎_elim, List, [], ◌∷◌, ◌++◌, length, take, drop, map, Some, refl, sym, ◌∙◌, ap, arith, length-drop, append_assoc}
use Rattle.std.specs.Prelude.{option_map, slice_get}
use Rattle.std.proofs.Math.Nat.{mul_comm}
use Rattle.std.proofs.lemmas.Bool.{cases_lt}
use Rattle.std.proofs.lemmas.List.{drop-drop, take_all, drop_all, length-map}
use Rattle.std.proofs.lemmas.Option.{slice_get-map}
use Rattle.segment_pool.specs.Pieces.{blocks, pieces}

no_blocks : (n size : ℕ) → blocks n size [] ≡ []
no_blocks zero size = refl
no_blocks (suc n) size = refl

-- once there are enough blocks, more change nothing
enough : (n m size : ℕ) (bytes : List ℕ) → 1 ≤ size → length bytes ≤ n → length bytes ≤ m → blocks n size bytes ≡ blocks m size bytes
enough n m size [] some within within' = no_blocks n size ∙ sym (no_blocks m size)
enough zero m size (b ∷ bytes) some within within' = absurd (omega (arith, within))
enough (suc n) zero size (b ∷ bytes) some within within' = absurd (omega (arith, within'))
enough (suc n) (suc m) size (b ∷ bytes) some within within' =
    ap (λ (l : List (List ℕ)). take size (b ∷ bytes) ∷ l)
    (enough n m size (drop size (b ∷ bytes)) some (omega (arith, within, some, length-drop size (b ∷ bytes))) (omega (arith, within', some, length-drop size (b ∷ bytes))))

-- the first piece, and those of the rest
pub first_piece : (size : ℕ) (bytes : List ℕ) → 1 ≤ size → 0 < length bytes → pieces size bytes ≡ take size bytes ∷ pieces size (drop size bytes)
first_piece size [] some long = absurd (omega (arith, long))
first_piece size (b ∷ bytes) some long =
    ap (λ (l : List (List ℕ)). take size (b ∷ bytes) ∷ l)
    (enough (length bytes) (length (drop size (b ∷ bytes))) size (drop size (b ∷ bytes)) some (omega (arith, some, length-drop size (b ∷ bytes))) (omega arith))

pub none_pieces : (size : ℕ) (bytes : List ℕ) → length bytes ≤ 0 → pieces size bytes ≡ []
none_pieces size [] none = refl
none_pieces size (b ∷ bytes) none = absurd (omega (arith, none))

next_start : (i size : ℕ) → suc i * size ≡ size + i * size
next_start i size = omega (arith, mul_comm (suc i) size, mul_comm i size)

-- a piece begins within the bytes
pub begins_within : (size i : ℕ) (bytes : List ℕ) → 1 ≤ size → i < length (pieces size bytes) → i * size < length bytes
begins_within size zero bytes some within = ⊎_elim (λ long. omega (arith, long)) (λ none. absurd (omega (arith, within, ap length (none_pieces size bytes none)))) (cases_lt 0 (length bytes))
begins_within size (suc i) bytes some within = ⊎_elim
    (λ long.
    let count : length (pieces size bytes) ≡ 1 + length (pieces size (drop size bytes)) = ap length (first_piece size bytes some long) ∙ omega arith in
    omega (arith, begins_within size i (drop size bytes) some (omega (arith, within, count)), length-drop size bytes, next_start i size))
    (λ none. absurd (omega (arith, within, ap length (none_pieces size bytes none)))) (cases_lt 0 (length bytes))

-- the piece at a place
pub piece_at : (size i : ℕ) (bytes : List ℕ) → 1 ≤ size → i * size < length bytes → slice_get (pieces size bytes) i ≡ Some (take size (drop (i * size) bytes))
piece_at size zero bytes some within =
    ap (λ (l : List (List ℕ)). slice_get l 0) (first_piece size bytes some (omega (arith, within)))
    ∙ ap (λ (k : ℕ). Some (take size (drop k bytes))) (let z : 0 ≡ 0 * size = omega arith in z)
piece_at size (suc i) bytes some within =
    ap (λ (l : List (List ℕ)). slice_get l (suc i)) (first_piece size bytes some (omega (arith, within)))
    ∙ piece_at size i (drop size bytes) some (omega (arith, within, next_start i size, length-drop size bytes))
    ∙ ap (λ (l : List ℕ). Some (take size l)) (drop-drop (i * size) size bytes ∙ ap (λ (k : ℕ). drop k bytes) (sym (next_start i size)))

-- the first piece of so many bytes, and what is left
front_is : (size n : ℕ) (rest : List ℕ) → n ≡ min (length rest) size → take n rest ≡ take size rest
front_is size n rest is = ⊎_elim
    (λ lt. ap (λ (k : ℕ). take k rest) (let z : n ≡ size = omega (arith, is, lt) in z))
    (λ le. take_all n rest (omega (arith, is, le)) ∙ sym (take_all size rest le)) (cases_lt size (length rest))

left_is : (size n : ℕ) (rest : List ℕ) → n ≡ min (length rest) size → drop n rest ≡ drop size rest
left_is size n rest is = ⊎_elim
    (λ lt. ap (λ (k : ℕ). drop k rest) (let z : n ≡ size = omega (arith, is, lt) in z))
    (λ le. drop_all n rest (omega (arith, is, le)) ∙ sym (drop_all size rest le)) (cases_lt size (length rest))

-- the digests of the pieces so far, and one more
pub cut_on : (f : List ℕ → List ℕ) (size n : ℕ) (rest more : List ℕ) (done now all : List (List ℕ)) (digest : List ℕ) → 1 ≤ size → 0 < length rest → n ≡ min (length rest) size → more ≡ drop n rest → digest ≡ f (take n rest) → now ≡ done ++ digest ∷ []
    → done ++ map f (pieces size rest) ≡ all → now ++ map f (pieces size more) ≡ all
cut_on f size n rest more done now all digest some long n_is more_is digest_is now_is so_far =
    let next : map f (pieces size rest) ≡ f (take size rest) ∷ map f (pieces size (drop size rest)) = ap (λ (l : List (List ℕ)). map f l) (first_piece size rest some long) in
    (λ i. now_is i ++ map f (pieces size ((more_is ∙ left_is size n rest n_is) i)))
    ∙ append_assoc done (digest ∷ []) (map f (pieces size (drop size rest)))
    ∙ ap (λ (d : List ℕ). done ++ d ∷ map f (pieces size (drop size rest))) (digest_is ∙ ap f (front_is size n rest n_is))
    ∙ ap (λ (l : List (List ℕ)). done ++ l) (sym next) ∙ so_far

-- the piece at a place with its digest, where the digests are those of the pieces
pub piece_told : (f : List ℕ → List ℕ) (size i end : ℕ) (bytes part digest : List ℕ) (digests : List (List ℕ)) → 1 ≤ size → digests ≡ map f (pieces size bytes) → i < length digests → end ≡ min (length bytes) (i * size + size) → part ≡ take (end - i * size) (drop (i * size) bytes)
    → slice_get digests i ≡ Some digest → (slice_get (pieces size bytes) i ≡ Some part) × (digest ≡ f part)
piece_told f size i end bytes part digest digests some are within end_is part_is digest_is =
    let start : i * size < length bytes = begins_within size i bytes some (omega (arith, within, ap length are, length-map (pieces size bytes) f)) in
    let rest : List ℕ = drop (i * size) bytes in
    let part_now : part ≡ take size rest = part_is ∙ front_is size (end - i * size) rest (omega (arith, end_is, start, length-drop (i * size) bytes)) in
    let here : slice_get (pieces size bytes) i ≡ Some part = piece_at size i bytes some start ∙ ap (λ (l : List ℕ). Some l) (sym part_now) in
    let told : slice_get digests i ≡ Some (f part) = ap (λ (l : List (List ℕ)). slice_get l i) are ∙ slice_get-map f (pieces size bytes) i ∙ ap (option_map f) here in
    (here, cc (digest_is, told))

pub starts_within : (f : List ℕ → List ℕ) (size i n : ℕ) (bytes : List ℕ) (digests : List (List ℕ)) → 1 ≤ size → digests ≡ map f (pieces size bytes) → n ≡ length digests → i < n → i * size < length bytes
starts_within f size i n bytes digests some are n_is within = begins_within size i bytes some (omega (arith, within, n_is, ap length are, length-map (pieces size bytes) f))

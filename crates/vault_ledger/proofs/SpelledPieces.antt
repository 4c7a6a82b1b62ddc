-- The bytes that slots spell, and their pieces.
use Rattle.std.proofs.Common.{◌≡◌, ◌+◌, ◌-◌, ◌*◌, ◌∙◌, ◌⊎◌, ⊎_elim, inl, inr, ℕ, zero, suc, true, List, [], ◌∷◌, ◌++◌, length, get_or, take, drop, map, min, refl, sym, ap, subst, arith}
use Rattle.std.specs.Prelude.{◌&&◌, ◌||◌, ◌==◌, nat_lt, Contains}
use Rattle.std.specs.List.{list_any}
use Rattle.std.specs.Str.{bytes_eq}
use Rattle.std.proofs.Math.Seq.{take-append-add, drop-append-add}
use Rattle.std.proofs.lemmas.Bool.{and_parts}
use Rattle.std.proofs.lemmas.Bool.Decides.{nat_tests}
use Rattle.std.proofs.lemmas.List.{append-nil, get_or-map, length-append}
use Rattle.std.proofs.lemmas.List.Folds.{Any-from_list_any, list_any-append}
use Rattle.sha2.specs.Sha256.{sha256}
use Rattle.pool_journal.specs.declared.segments.NewSegment.{NewSegment}
use Rattle.desk_model.specs.Pieces.{blocks}
use Rattle.desk_model.proofs.Passing.{mapped_in}
use Rattle.vault_ledger.specs.Ledger.{are_whole, has_piece, is_whole, piece_in, pieces_fit, spelled}

-- Pieces that fit live slots fit them where there are more.

has_more : (slot n : ℕ) (known more : List NewSegment) → has_piece slot n known ≡ true → has_piece slot n (known ++ more) ≡ true
has_more slot n known more has =
    let test : NewSegment → _ = λ s. s.slot == slot && s.length == n in
    list_any-append test known more ∙ (λ i. has i || list_any test more)

pub fit_more : (size : ℕ) (known more : List NewSegment) (n : ℕ) (slots : List ℕ) → pieces_fit size known n slots ≡ true → pieces_fit size (known ++ more) n slots ≡ true
fit_more size known more n [] fits = fits
fit_more size known more n (slot ∷ slots) fits =
    let parts = and_parts (nat_lt 0 n && has_piece slot (min size n) known) (pieces_fit size known (n - size) slots) fits in
    let first = and_parts (nat_lt 0 n) (has_piece slot (min size n) known) parts.0 in
    let has = has_more slot (min size n) known more first.1 in
    let rest = fit_more size known more (n - size) slots parts.1 in
    λ i. first.0 i && has i && rest i

-- The first block of bytes, and those behind it.

take_none : (k : ℕ) (bytes : List ℕ) → min k (length bytes) ≡ 0 → take k bytes ≡ []
take_none zero bytes none = refl
take_none (suc k) [] none = refl
take_none (suc k) (b ∷ bytes) none = absurd (omega (arith, none))

drop_none : (k : ℕ) (bytes : List ℕ) → min k (length bytes) ≡ 0 → drop k bytes ≡ bytes
drop_none zero bytes none = refl
drop_none (suc k) [] none = refl
drop_none (suc k) (b ∷ bytes) none = absurd (omega (arith, none))

module _ (size n : ℕ) (first rest : List ℕ) (first_long : length first ≡ min size n) (rest_long : length rest ≡ n - size) where
  whole_first : size ≡ length first + (size - length first)
  whole_first = omega (arith, first_long)

  short_first : min (size - length first) (length rest) ≡ 0
  short_first = omega (arith, first_long, rest_long)

  take_first : take size (first ++ rest) ≡ first
  take_first = ap (λ (k : ℕ). take k (first ++ rest)) whole_first ∙ take-append-add first rest (size - length first) ∙ ap (λ (l : List ℕ). first ++ l) (take_none (size - length first) rest short_first) ∙ append-nil first

  drop_first : drop size (first ++ rest) ≡ rest
  drop_first = ap (λ (k : ℕ). drop k (first ++ rest)) whole_first ∙ drop-append-add first rest (size - length first) ∙ drop_none (size - length first) rest short_first

block_cases : (k size : ℕ) (bytes piece : List ℕ) → Contains (blocks (suc k) size bytes) piece → (take size bytes ≡ piece) ⊎ Contains (blocks k size (drop size bytes)) piece
block_cases k size [] piece (j, lt, is) = absurd (omega arith)
block_cases k size (b ∷ bytes) piece (zero, lt, is) = inl is
block_cases k size (b ∷ bytes) piece (suc j, lt, is) = inr (j, omega arith, is)

-- What slots spell of a file whose live slots are whole.

pub whole_at : (file : List ℕ) (size : ℕ) (known : List NewSegment) → are_whole file size known ≡ true → (s : NewSegment) → Contains known s → length (piece_in file size s) ≡ s.length
whole_at file size [] whole s (k, lt, is) = absurd (omega arith)
whole_at file size (t ∷ known) whole s (zero, lt, is) =
    let parts = and_parts (is_whole file size t) (are_whole file size known) whole in
    let long = (and_parts (length (piece_in file size t) == t.length) (bytes_eq (sha256 (piece_in file size t)) t.digest) parts.0).0 in
    let long_is : length (piece_in file size t) ≡ t.length = grind (arith, nat_tests, long) in
    subst (λ (u : NewSegment). length (piece_in file size u) ≡ u.length) is long_is
whole_at file size (t ∷ known) whole s (suc k, lt, is) = whole_at file size known (and_parts (is_whole file size t) (are_whole file size known) whole).1 s (k, omega arith, is)

abbrev block : List ℕ → ℕ → ℕ → ℕ → List ℕ
block file size slot n = take n (drop (slot * size) file)

-- a slot that has a piece of a length is a live slot's of this length, and has its bytes
piece_at : (slot n : ℕ) (known : List NewSegment) → has_piece slot n known ≡ true → (s : NewSegment) × Contains known s × (s.length ≡ n) × ((file : List ℕ) (size : ℕ) → piece_in file size s ≡ block file size slot n)
piece_at slot n known has =
    let one = Any-from_list_any (λ (s : NewSegment). s.slot == slot && s.length == n) known has in
    let s : NewSegment = one.1 in
    let both = and_parts (s.slot == slot) (s.length == n) one.4 in
    let slot_is : s.slot ≡ slot = let same = both.0 in grind (arith, nat_tests, same) in
    let length_is : s.length ≡ n = let same = both.1 in grind (arith, nat_tests, same) in
    (s, (one.0, one.2, one.3), length_is, λ file size i. take (length_is i) (drop (slot_is i * size) file))

module _ (file : List ℕ) (size : ℕ) (known : List NewSegment) (whole : are_whole file size known ≡ true) where
  abbrev there : List (List ℕ)
  there = map (piece_in file size) known

  in_slot : (slot n : ℕ) → has_piece slot n known ≡ true → (length (block file size slot n) ≡ n) × Contains there (block file size slot n)
  in_slot slot n has =
      let one = piece_at slot n known has in
      let bytes_are = one.3 file size in
      (ap length (sym bytes_are) ∙ whole_at file size known whole one.0 one.1 ∙ one.2, subst (λ (p : List ℕ). Contains there p) bytes_are (mapped_in (piece_in file size) known one.0 one.1))

  -- so many bytes are spelled
  pub spelled_long : (n : ℕ) (slots : List ℕ) → pieces_fit size known n slots ≡ true → length (spelled file size n slots) ≡ n
  spelled_long n [] fits = grind (arith, nat_tests, fits)
  spelled_long n (slot ∷ slots) fits =
      let parts = and_parts (nat_lt 0 n && has_piece slot (min size n) known) (pieces_fit size known (n - size) slots) fits in
      let first = (in_slot slot (min size n) (and_parts (nat_lt 0 n) (has_piece slot (min size n) known) parts.0).1).0 in
      let rest = spelled_long (n - size) slots parts.1 in
      let both = length-append (block file size slot (min size n)) (spelled file size (n - size) slots) in
      both ∙ (λ i. first i + rest i) ∙ omega arith

  -- and each piece of them is a live slot's
  pub spelled_there : (n : ℕ) (slots : List ℕ) → pieces_fit size known n slots ≡ true → (k : ℕ) (piece : List ℕ) → Contains (blocks k size (spelled file size n slots)) piece → Contains there piece
  spelled_there n slots fits zero piece (j, lt, is) = absurd (omega arith)
  spelled_there n [] fits (suc k) piece (j, lt, is) = absurd (omega arith)
  spelled_there n (slot ∷ slots) fits (suc k) piece among =
      let parts = and_parts (nat_lt 0 n && has_piece slot (min size n) known) (pieces_fit size known (n - size) slots) fits in
      let first = in_slot slot (min size n) (and_parts (nat_lt 0 n) (has_piece slot (min size n) known) parts.0).1 in
      let rest = spelled_long (n - size) slots parts.1 in
      ⊎_elim
      (λ is. subst (λ (p : List ℕ). Contains there p) (sym (take_first size n (block file size slot (min size n)) (spelled file size (n - size) slots) first.0 rest) ∙ is) first.1)
      (λ later. spelled_there (n - size) slots parts.1 k piece (subst (λ (bytes : List ℕ). Contains (blocks k size bytes) piece) (drop_first size n (block file size slot (min size n)) (spelled file size (n - size) slots) first.0 rest) later))
      (block_cases k size (block file size slot (min size n) ++ spelled file size (n - size) slots) piece among)

-- Files with the same bytes in live slots.

module _ (file file' : List ℕ) (size : ℕ) where
  -- they are whole alike
  pub whole_alike : (known : List NewSegment) → map (piece_in file size) known ≡ map (piece_in file' size) known → are_whole file size known ≡ are_whole file' size known
  whole_alike [] same = refl
  whole_alike (s ∷ known) same =
      let first : piece_in file size s ≡ piece_in file' size s = ap (λ (l : List (List ℕ)). get_or l 0 []) same in
      let rest = whole_alike known (ap (λ (l : List (List ℕ)). drop 1 l) same) in
      λ i. (length (first i) == s.length) && bytes_eq (sha256 (first i)) s.digest && rest i

  module _ (known : List NewSegment) (same : map (piece_in file size) known ≡ map (piece_in file' size) known) where
    block_alike : (slot n : ℕ) → has_piece slot n known ≡ true → block file size slot n ≡ block file' size slot n
    block_alike slot n has =
        let one = piece_at slot n known has in
        let s : NewSegment = one.0 in
        let at : (f : List ℕ) → get_or (map (piece_in f size) known) one.1.0 [] ≡ piece_in f size s = λ f. get_or-map (piece_in f size) known one.1.0 s [] one.1.1 ∙ ap (piece_in f size) one.1.2 in
        sym (one.3 file size) ∙ sym (at file) ∙ ap (λ (l : List (List ℕ)). get_or l one.1.0 []) same ∙ at file' ∙ one.3 file' size

    -- and spell alike
    pub spelled_alike : (n : ℕ) (slots : List ℕ) → pieces_fit size known n slots ≡ true → spelled file size n slots ≡ spelled file' size n slots
    spelled_alike n [] fits = refl
    spelled_alike n (slot ∷ slots) fits =
        let parts = and_parts (nat_lt 0 n && has_piece slot (min size n) known) (pieces_fit size known (n - size) slots) fits in
        let first = block_alike slot (min size n) (and_parts (nat_lt 0 n) (has_piece slot (min size n) known) parts.0).1 in
        let rest = spelled_alike (n - size) slots parts.1 in
        λ i. first i ++ rest i

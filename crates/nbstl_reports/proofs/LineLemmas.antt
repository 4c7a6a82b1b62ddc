-- Texts that grow line by line.
use Rattle.std.proofs.Common.{◌≡◌, ◌<◌, ◌≤◌, ◌+◌, ℕ, suc, zero, List, [], ◌∷◌, ◌++◌, length, take, get_or, map, Option, Some, None, Result, Ok, Err, OnOk, refl, ap, sym, subst, ◌∙◌, append_assoc, length-append, zero-add, add-one, arith}
use Rattle.std.specs.Prelude.{slice_get}
use Rattle.std.specs.Iterator.Runs.{WholeRun}
use Rattle.std.specs.List.{enumerate_from, flat_map, range_with_len, zip}
use Rattle.std.proofs.lemmas.List.{flat_map_more, map_push, take-take, take_at, take_more}
use Rattle.std.proofs.lemmas.List.Concat.{flat_map-append}
use Rattle.std.proofs.lemmas.List.FromFn.{map-range_with_len_more}
use Rattle.nbstl_reports.specs.Lines.{line, lines}
use Rattle.nbstl_reports.specs.Fields.{StartsWith}

-- what starts with a grown text starts with the text that grew
pub starts_before : (old more grown new : List ℕ) → grown ≡ old ++ more → StartsWith grown new → StartsWith old new
starts_before old more grown new is starts =
    sym (take-take (length old) (length grown) new (omega (arith, ap length is, length-append old more)))
    ∙ ap (take (length old)) (starts ∙ is)
    ∙ take_at old more (length old) refl

-- Behind a text with the lines so far, the lines of one value more make it one with the lines of them all.

module _ (old text new : List ℕ) where
  pub line_more : {A : Type 0} (fields : A → List (List ℕ)) (xs : List A) (x : A) → text ≡ old ++ lines (map fields xs) → new ≡ text ++ line (fields x) → new ≡ old ++ lines (map fields (xs ++ x ∷ []))
  line_more fields xs x so_far added =
      added
      ∙ ap (λ (t : List ℕ). t ++ line (fields x)) so_far
      ∙ flat_map_more line old (map fields xs) (fields x)
      ∙ ap (λ (rows : List (List (List ℕ))). old ++ lines rows) (sym (map_push fields xs x))

  pub line_taken : {A : Type 0} (fields : A → List (List ℕ)) (all : List A) (i : ℕ) (x : A) → i < length all → x ≡ get_or all i x → text ≡ old ++ lines (map fields (take i all)) → new ≡ text ++ line (fields x) → new ≡ old ++ lines (map fields (take (i + 1) all))
  line_taken {A} fields all i x lt is so_far added =
      line_more fields (take i all) x so_far added
      ∙ ap (λ (xs : List A). old ++ lines (map fields xs)) (ap (λ (y : A). take i all ++ y ∷ []) is ∙ sym (take_more all i x lt))

  pub line_counted : (fields : ℕ → List (List ℕ)) (n : ℕ) → text ≡ old ++ lines (map fields (range_with_len 0 n)) → new ≡ text ++ line (fields n) → new ≡ old ++ lines (map fields (range_with_len 0 (n + 1)))
  line_counted fields n so_far added =
      added
      ∙ ap (λ (t : List ℕ). t ++ line (fields n)) so_far
      ∙ flat_map_more line old (map fields (range_with_len 0 n)) (fields n)
      ∙ ap (λ (rows : List (List (List ℕ))). old ++ lines rows) (sym (map-range_with_len_more fields 0 n n (zero-add n)))

  pub rows_more : {A : Type 0} (rows : A → List (List (List ℕ))) (xs : List A) (x : A) → text ≡ old ++ lines (flat_map rows xs) → new ≡ text ++ lines (rows x) → new ≡ old ++ lines (flat_map rows (xs ++ x ∷ []))
  rows_more rows xs x so_far added =
      added
      ∙ ap (λ (t : List ℕ). t ++ lines (rows x)) so_far
      ∙ append_assoc old (lines (flat_map rows xs)) (lines (rows x))
      ∙ ap (λ (t : List ℕ). old ++ t) (sym (flat_map-append line (flat_map rows xs) (rows x)) ∙ ap lines (flat_map_more rows [] xs x))

  pub rows_taken : {A : Type 0} (rows : A → List (List (List ℕ))) (all : List A) (i : ℕ) (x : A) → i < length all → x ≡ get_or all i x → text ≡ old ++ lines (flat_map rows (take i all)) → new ≡ text ++ lines (rows x) → new ≡ old ++ lines (flat_map rows (take (i + 1) all))
  rows_taken {A} rows all i x lt is so_far added =
      rows_more rows (take i all) x so_far added
      ∙ ap (λ (xs : List A). old ++ lines (flat_map rows xs)) (ap (λ (y : A). take i all ++ y ∷ []) is ∙ sym (take_more all i x lt))

-- Pairs of two lists with their indices.

abbrev pub paired : {A B : Type 0} → ℕ → List A → List B → List (ℕ × (A × B))
paired n xs ys = enumerate_from n (zip xs ys)

module _ {A B : Type 0} where
  one_more : (n i : ℕ) (xs : List A) (ys : List B) (x : A) (y : B) → slice_get xs i ≡ Some x → slice_get ys i ≡ Some y → take (suc i) (paired n xs ys) ≡ take i (paired n xs ys) ++ (n + i, (x, y)) ∷ []
  one_more n i [] ys x y here there = absurd (cc)
  one_more n i (a ∷ xs) [] x y here there = absurd (cc)
  one_more n zero (a ∷ xs) (b ∷ ys) x y here there =
      let first : a ≡ x = cc in
      let second : b ≡ y = cc in
      let at : n ≡ n + 0 = omega arith in
      λ j. (at j, (first j, second j)) ∷ []
  one_more n (suc i) (a ∷ xs) (b ∷ ys) x y here there =
      let at : n + 1 + i ≡ n + suc i = omega arith in
      ap (λ (l : List (ℕ × (A × B))). (n, (a, b)) ∷ l) (one_more (n + 1) i xs ys x y here there ∙ (λ j. take i (paired (n + 1) xs ys) ++ (at j, (x, y)) ∷ []))

  pub paired_more : (i : ℕ) (xs : List A) (ys : List B) (x : A) (y : B) → slice_get xs i ≡ Some x → slice_get ys i ≡ Some y → take (i + 1) (paired 0 xs ys) ≡ take i (paired 0 xs ys) ++ (i, (x, y)) ∷ []
  paired_more i xs ys x y here there =
      let at : 0 + i ≡ i = omega arith in
      ap (λ (n : ℕ). take n (paired 0 xs ys)) (add-one i) ∙ one_more 0 i xs ys x y here there ∙ (λ j. take i (paired 0 xs ys) ++ (at j, (x, y)) ∷ [])

  pub left_ends : (n i : ℕ) (xs : List A) (ys : List B) → slice_get xs i ≡ None → take i (paired n xs ys) ≡ paired n xs ys
  left_ends n zero [] ys past = refl
  left_ends n (suc i) [] ys past = refl
  left_ends n zero (a ∷ xs) ys past = absurd (cc)
  left_ends n (suc i) (a ∷ xs) [] past = refl
  left_ends n (suc i) (a ∷ xs) (b ∷ ys) past = ap (λ (l : List (ℕ × (A × B))). (n, (a, b)) ∷ l) (left_ends (n + 1) i xs ys past)

  pub right_ends : (n i : ℕ) (xs : List A) (ys : List B) → slice_get ys i ≡ None → take i (paired n xs ys) ≡ paired n xs ys
  right_ends n zero [] ys past = refl
  right_ends n (suc i) [] ys past = refl
  right_ends n zero (a ∷ xs) [] past = refl
  right_ends n (suc i) (a ∷ xs) [] past = refl
  right_ends n zero (a ∷ xs) (b ∷ ys) past = absurd (cc)
  right_ends n (suc i) (a ∷ xs) (b ∷ ys) past = ap (λ (l : List (ℕ × (A × B))). (n, (a, b)) ∷ l) (right_ends (n + 1) i xs ys past)

  pub right_past : (n i : ℕ) (xs : List A) (ys : List B) → length ys ≤ i → take i (paired n xs ys) ≡ paired n xs ys
  right_past n i xs ys past = right_ends n i xs ys (none_past ys i past)
    where
      none_past : (zs : List B) (k : ℕ) → length zs ≤ k → slice_get zs k ≡ None
      none_past [] k long = refl
      none_past (z ∷ zs) zero long = absurd (omega arith)
      none_past (z ∷ zs) (suc k) long = none_past zs k (omega arith)

-- A run of an iterator, of which a text was written.

pub whole_run : {S A T E : Type 0} (steps : S → Option A → S → Type 0) (s : S) (text : List A → List ℕ) (old middle new : List ℕ) (written result : Result T E) → result ≡ written → OnOk written (new ≡ middle) → OnOk written (WholeRun steps s (λ run. middle ≡ old ++ text run.items)) → OnOk result (WholeRun steps s (λ run. new ≡ old ++ text run.items))
whole_run steps s text old middle new (Ok x) result same whole ran =
    subst (λ r. OnOk r (WholeRun steps s (λ run. new ≡ old ++ text run.items))) (sym same) (ran.0, ran.1, ran.2, whole ∙ ran.3)
whole_run steps s text old middle new (Err e) result same whole ran =
    subst (λ r. OnOk r (WholeRun steps s (λ run. new ≡ old ++ text run.items))) (sym same) tt

-- A list has one order by a total order under which nothing ties with another value.
use Rattle.slp_tree.proofs.Common.{◌≡◌, ◌+◌, ◌<◌, ℕ, suc, List, [], ◌∷◌, length, get_or, Bool, true, false, cond, refl, sym, ◌∙◌, ap, subst, arith, sum_by, if◌then◌else◌, IsPermutation, IsSortedBy, is_gt, is_lt, ordering_reverse, Ordering, Less, Equal, Greater, tied_itself, upto, sum_by-IsPermutation, sorted_far, ranks_by}
use Rattle.std.specs.Cmp.{IsTotalOrder}
use Rattle.std.proofs.lemmas.List.Sums.{sum_by-cons}
use Rattle.slp_tree.specs.Sorting.{put_in_order, in_order}

abbrev Each : {X : Type 0} → (X → Type 0) → List X → Type 0
Each P [] = Unit {0}
Each P (x ∷ xs) = P x × Each P xs

each_from : {X : Type 0} (P : X → Type 0) (xs : List X) → ((k : ℕ) (d : X) → k < length xs → P (get_or xs k d)) → Each P xs
each_from P [] at = tt
each_from P (x ∷ xs) at = (at 0 x (omega arith), each_from P xs (λ k d lt. at (suc k) d (omega arith)))

each_then : {X : Type 0} (P Q : X → Type 0) (xs : List X) → ((x : X) → P x → Q x) → Each P xs → Each Q xs
each_then P Q [] gives each = tt
each_then P Q (x ∷ xs) gives each = (gives x each.0, each_then P Q xs gives each.1)

not_less : (o : Ordering) → is_lt (ordering_reverse o) ≡ is_gt o
not_less Less = refl
not_less Equal = refl
not_less Greater = refl

forward : (o : Ordering) → is_gt o ≡ true → is_gt (ordering_reverse o) ≡ false
forward Less is = absurd (cc)
forward Equal is = refl
forward Greater is = refl

between : (o : Ordering) → is_gt o ≡ false → is_gt (ordering_reverse o) ≡ false → o ≡ Equal
between Less up down = absurd (cc)
between Equal up down = refl
between Greater up down = absurd (cc)

module _ {X : Type 0} (order : X → X → Ordering) (total : IsTotalOrder order) (exact : (x y : X) → order x y ≡ Equal → x ≡ y) where
  abbrev NotAbove : X → X → Type 0
  NotAbove x y = is_gt (order x y) ≡ false

  abbrev InOrder : List X → Type 0
  InOrder [] = Unit {0}
  InOrder (x ∷ xs) = Each (NotAbove x) xs × InOrder xs

  -- the definition's list is in order
  each_put : (P : X → Type 0) (x : X) (xs : List X) → P x → Each P xs → Each P (put_in_order order x xs)
  each_put P x [] here each = (here, tt)
  each_put P x (y ∷ ys) here each = at (is_gt (order x y)) (each_put P x ys here each.1)
    where
      at : (b : Bool) → Each P (put_in_order order x ys) → Each P (if b then y ∷ put_in_order order x ys else x ∷ y ∷ ys)
      at true later = (each.0, later)
      at false later = (here, each)

  in_order_put : (x : X) (xs : List X) → InOrder xs → InOrder (put_in_order order x xs)
  in_order_put x [] up = (tt, tt)
  in_order_put x (y ∷ ys) up = at (is_gt (order x y)) refl (in_order_put x ys up.1)
    where
      at : (b : Bool) → is_gt (order x y) ≡ b → InOrder (put_in_order order x ys) → InOrder (if b then y ∷ put_in_order order x ys else x ∷ y ∷ ys)
      at true is later = (each_put (NotAbove y) x ys (ap is_gt (total.antisymm y x) ∙ forward (order x y) is) up.0, later)
      at false is later = ((is, each_then (NotAbove y) (NotAbove x) ys (λ z above. upto total x y z is above) up.0), up)

  in_order_is : (xs : List X) → InOrder (in_order order xs)
  in_order_is [] = tt
  in_order_is (x ∷ xs) = in_order_put x (in_order order xs) (in_order_is xs)

  -- and has the same values
  sum_put : (f : X → ℕ) (x : X) (xs : List X) → sum_by f (put_in_order order x xs) ≡ f x + sum_by f xs
  sum_put f x [] = sum_by-cons f x []
  sum_put f x (y ∷ ys) = at (is_gt (order x y)) (sum_put f x ys)
    where
      at : (b : Bool) → sum_by f (put_in_order order x ys) ≡ f x + sum_by f ys → sum_by f (if b then y ∷ put_in_order order x ys else x ∷ y ∷ ys) ≡ f x + sum_by f (y ∷ ys)
      at true later = omega (arith, later, sum_by-cons f y (put_in_order order x ys), sum_by-cons f y ys)
      at false later = sum_by-cons f x (y ∷ ys)

  sum_in_order : (f : X → ℕ) (xs : List X) → sum_by f (in_order order xs) ≡ sum_by f xs
  sum_in_order f [] = refl
  sum_in_order f (x ∷ xs) = sum_put f x (in_order order xs) ∙ ap (λ (n : ℕ). f x + n) (sum_in_order f xs) ∙ sym (sum_by-cons f x xs)

  -- how many values are below this one
  below : X → X → ℕ
  below x y = cond (is_gt (order x y)) 1 0

  none_below : (x : X) (xs : List X) → Each (NotAbove x) xs → sum_by (below x) xs ≡ 0
  unfolding below
  none_below x [] each = refl
  none_below x (y ∷ ys) each =
      let first : below x y ≡ 0 = λ j. cond (each.0 j) 1 0 in
      omega (arith, sum_by-cons (below x) y ys, first, none_below x ys each.1)

  not_above_itself : (x : X) → NotAbove x x
  not_above_itself x = ap is_gt (tied_itself total x)

  first_not_above : (x y : X) (xs ys : List X) → InOrder (x ∷ xs) → sum_by (below x) (y ∷ ys) ≡ sum_by (below x) (x ∷ xs) → NotAbove x y
  unfolding below
  first_not_above x y xs ys up same =
      let first : below x y ≡ 0 = omega (arith, sum_by-cons (below x) y ys, same, none_below x (x ∷ xs) (not_above_itself x, up.0)) in
      at (is_gt (order x y)) first
    where
      at : (b : Bool) → cond {A = ℕ} b 1 0 ≡ 0 → b ≡ false
      at true is = absurd (omega arith)
      at false is = refl

  same_first : (x y : X) → NotAbove x y → NotAbove y x → x ≡ y
  same_first x y up down = exact x y (between (order x y) up (sym (ap is_gt (total.antisymm y x)) ∙ down))

  same_list : (xs ys : List X) → InOrder xs → InOrder ys → ((f : X → ℕ) → sum_by f xs ≡ sum_by f ys) → xs ≡ ys
  same_list [] [] up down same = refl
  same_list [] (y ∷ ys) up down same = absurd (omega (arith, same (λ z. 1), sum_by-cons (λ z. 1) y ys))
  same_list (x ∷ xs) [] up down same = absurd (omega (arith, same (λ z. 1), sum_by-cons (λ z. 1) x xs))
  same_list (x ∷ xs) (y ∷ ys) up down same =
      let first : x ≡ y = same_first x y (first_not_above x y xs ys up (sym (same (below x)))) (first_not_above y x ys xs down (same (below y))) in
      let rest : xs ≡ ys = same_list xs ys up.1 down.1 (λ f. omega (arith, same f, ap f first, sum_by-cons f x xs, sum_by-cons f y ys)) in
      λ j. first j ∷ rest j

  in_order_from : (xs : List X) → IsSortedBy (λ x y. is_lt (order x y)) xs → InOrder xs
  in_order_from [] sorted = tt
  in_order_from (x ∷ xs) sorted = (
    each_from (NotAbove x) xs (λ k d lt. sym (not_less (order x (get_or xs k d))) ∙ ap is_lt (sym (total.antisymm (get_or xs k d) x)) ∙ sorted_far (λ a b. is_lt (order a b)) (ranks_by total (λ (z : X). z)) (x ∷ xs) sorted 0 (suc k) d (omega arith) (omega arith)),
    in_order_from xs (λ k d low high. subst (λ (n : ℕ). is_lt (order (get_or (x ∷ xs) n d) (get_or xs k d)) ≡ false) (later k) (sorted (suc k) d (omega arith) (omega arith))),
  )
    where
      later : (k : ℕ) → suc k + 1 ≡ suc (k + 1)
      later k = omega arith

  -- so a sorted list with the same values is that list
  pub sorted_is : (xs ys : List X) → IsPermutation xs ys → IsSortedBy (λ x y. is_lt (order x y)) ys → ys ≡ in_order order xs
  sorted_is xs ys moved sorted = same_list ys (in_order order xs) (in_order_from ys sorted) (in_order_is xs) (λ f. sum_by-IsPermutation f xs ys moved ∙ sym (sum_in_order f xs))

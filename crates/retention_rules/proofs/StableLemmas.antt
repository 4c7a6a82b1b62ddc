-- A list that was sorted by a total order, with its ties in their order, is the list in order.
use Rattle.std.proofs.Common.{◌≡◌, ◌+◌, ◌<◌, ℕ, suc, List, [], ◌∷◌, length, get_or, Bool, true, false, cond, refl, sym, ◌∙◌, ap, subst, arith}
use Rattle.std.specs.Prelude.{◌&&◌, not, filter, if◌then◌else◌}
use Rattle.std.specs.Cmp.{IsTotalOrder}
use Rattle.std.specs.List.{AllByRecursion}
use Rattle.std.specs.List.Sorted.{IsSortedBy, IsStableBy, ties}
use Rattle.std.specs.Ordering.{is_gt, is_lt, ordering_reverse}
use Rattle.std.specs.declared.cmp.Ordering.{Ordering}
use Rattle.std.specs.declared.cmp.Ordering.TheVariants.{Less, Equal, Greater}
use Rattle.std.proofs.lemmas.Bool.{false≢true}
use Rattle.std.proofs.lemmas.Cmp.{tied_itself, upto}
use Rattle.std.proofs.lemmas.List.Sorted.{sorted_far, ranks_by}
use Rattle.slp_tree.specs.Sorting.{put_in_order, in_order}

turned : (o : Ordering) → is_lt o ≡ is_gt (ordering_reverse o)
turned Less = refl
turned Equal = refl
turned Greater = refl

never_both : (o : Ordering) → is_gt o ≡ true → is_gt (ordering_reverse o) ≡ false
never_both Less is = absurd (false≢true is)
never_both Equal is = refl
never_both Greater is = refl

not_false : (b : Bool) → not b ≡ true → b ≡ false
not_false true is = absurd (false≢true is)
not_false false is = refl

both : (a b : Bool) → (a && b) ≡ true → (a ≡ true) × (b ≡ true)
both true true is = (refl, refl)
both true false is = absurd (false≢true is)
both false b is = absurd (false≢true is)

-- two tests that never both hold put two values into a list in either order
either_first : {X : Type 0} (p q : Bool) (x y : X) (xs : List X) → (p ≡ true → q ≡ true → ⊥) → cond q (y ∷ cond p (x ∷ xs) xs) (cond p (x ∷ xs) xs) ≡ cond p (x ∷ cond q (y ∷ xs) xs) (cond q (y ∷ xs) xs)
either_first true true x y xs apart = absurd (apart refl refl)
either_first true false x y xs apart = refl
either_first false q x y xs apart = refl

abbrev rest : {X : Type 0} → List X → List X
rest [] = []
rest (x ∷ xs) = xs

module _ {X : Type 0} (order : X → X → Ordering) (total : IsTotalOrder order) where
  abbrev above : X → X → Bool
  above x y = is_gt (order x y)

  abbrev alike : X → X → Bool
  alike x y = ties (λ a b. is_lt (order a b)) x y

  less : (x y : X) → is_lt (order x y) ≡ above y x
  less x y = turned (order x y) ∙ sym (ap is_gt (total.antisymm y x))

  alike_is : (x y : X) → alike x y ≡ (not (above y x) && not (above x y))
  alike_is x y = λ j. not (less x y j) && not (less y x j)

  -- neither of two that are alike is above the other
  level : (x y : X) → alike x y ≡ true → (above y x ≡ false) × (above x y ≡ false)
  level x y is =
      let parts = both (not (above y x)) (not (above x y)) (sym (alike_is x y) ∙ is) in
      (not_false (above y x) parts.0, not_false (above x y) parts.1)

  alike_itself : (x : X) → alike x x ≡ true
  alike_itself x = alike_is x x ∙ (λ j. not (is_gt (tied_itself total x j)) && not (is_gt (tied_itself total x j)))

  unlike : (x y : X) → above y x ≡ true → alike x y ≡ false
  unlike x y is = alike_is x y ∙ (λ j. not (is j) && not (above x y))

  -- what isn't below x is above all that x is above
  above_too : (x z y : X) → above x z ≡ false → above x y ≡ true → above z y ≡ true
  above_too x z y up is = at (above z y) refl
    where
      at : (b : Bool) → above z y ≡ b → above z y ≡ true
      at true here = here
      at false here = absurd (false≢true (sym (upto total x z y up here) ∙ is))

  abbrev Rises : List X → Type 0
  Rises [] = Unit {0}
  Rises (x ∷ xs) = AllByRecursion (λ (y : X). above x y ≡ false) xs × Rises xs

  -- The definition's list rises, and keeps the order of ties.

  all_put : (P : X → Type 0) (x : X) (xs : List X) → P x → AllByRecursion P xs → AllByRecursion P (put_in_order order x xs)
  all_put P x [] here all = (here, tt)
  all_put P x (y ∷ ys) here all = at (above x y) (all_put P x ys here all.1)
    where
      at : (b : Bool) → AllByRecursion P (put_in_order order x ys) → AllByRecursion P (if b then y ∷ put_in_order order x ys else x ∷ y ∷ ys)
      at true later = (all.0, later)
      at false later = (here, all)

  all_later : (x y : X) (ys : List X) → above x y ≡ false → AllByRecursion (λ (z : X). above y z ≡ false) ys → AllByRecursion (λ (z : X). above x z ≡ false) ys
  all_later x y [] up all = tt
  all_later x y (z ∷ zs) up all = (upto total x y z up all.0, all_later x y zs up all.1)

  rises_put : (x : X) (ys : List X) → Rises ys → Rises (put_in_order order x ys)
  rises_put x [] up = (tt, tt)
  rises_put x (y ∷ ys) up = at (above x y) refl (rises_put x ys up.1)
    where
      at : (b : Bool) → above x y ≡ b → Rises (put_in_order order x ys) → Rises (if b then y ∷ put_in_order order x ys else x ∷ y ∷ ys)
      at true is later = (all_put (λ (z : X). above y z ≡ false) x ys (ap is_gt (total.antisymm y x) ∙ never_both (order x y) is) up.0, later)
      at false is later = ((is, all_later x y ys is up.0), up)

  rises_in_order : (xs : List X) → Rises (in_order order xs)
  rises_in_order [] = tt
  rises_in_order (x ∷ xs) = rises_put x (in_order order xs) (rises_in_order xs)

  tied_put : (z x : X) (ys : List X) → filter (alike z) (put_in_order order x ys) ≡ filter (alike z) (x ∷ ys)
  tied_put z x [] = refl
  tied_put z x (y ∷ ys) = at (above x y) refl (tied_put z x ys)
    where
      at : (b : Bool) → above x y ≡ b → filter (alike z) (put_in_order order x ys) ≡ filter (alike z) (x ∷ ys)
          → filter (alike z) (if b then y ∷ put_in_order order x ys else x ∷ y ∷ ys) ≡ filter (alike z) (x ∷ y ∷ ys)
      at true is later =
          ap (λ (l : List X). cond (alike z y) (y ∷ l) l) later
          ∙ either_first (alike z x) (alike z y) x y (filter (alike z) ys) (λ here there. false≢true (sym (upto total x z y (level z x here).0 (level z y there).1) ∙ is))
      at false is later = refl

  tied_in_order : (z : X) (xs : List X) → filter (alike z) (in_order order xs) ≡ filter (alike z) xs
  tied_in_order z [] = refl
  tied_in_order z (x ∷ xs) = tied_put z x (in_order order xs) ∙ ap (λ (l : List X). cond (alike z x) (x ∷ l) l) (tied_in_order z xs)

  -- Two lists that rise and have the same ties are one.

  none_alike : (x y : X) (xs : List X) → above x y ≡ true → AllByRecursion (λ (z : X). above x z ≡ false) xs → filter (alike y) xs ≡ []
  none_alike x y [] is all = refl
  none_alike x y (z ∷ zs) is all =
      (λ j. cond (unlike y z (above_too x z y all.0 is) j) (z ∷ filter (alike y) zs) (filter (alike y) zs)) ∙ none_alike x y zs is all.1

  first_kept : (y : X) (ys : List X) → filter (alike y) (y ∷ ys) ≡ y ∷ filter (alike y) ys
  first_kept y ys = λ j. cond (alike_itself y j) (y ∷ filter (alike y) ys) (filter (alike y) ys)

  first_not_above : (x y : X) (xs ys : List X) → Rises (x ∷ xs) → filter (alike y) (x ∷ xs) ≡ filter (alike y) (y ∷ ys) → above x y ≡ false
  first_not_above x y xs ys up same = at (above x y) refl
    where
      at : (b : Bool) → above x y ≡ b → above x y ≡ false
      at false is = is
      at true is =
          let not_above_itself : above x x ≡ false = ap is_gt (tied_itself total x) in
          let none : filter (alike y) (x ∷ xs) ≡ [] = none_alike x y (x ∷ xs) is (not_above_itself, up.0) in
          absurd (omega (arith, ap length (sym none ∙ same ∙ first_kept y ys)))

  same_rest : (x : X) (xs ys : List X) (b : Bool) → cond b (x ∷ xs) xs ≡ cond b (x ∷ ys) ys → xs ≡ ys
  same_rest x xs ys true same = ap rest same
  same_rest x xs ys false same = same

  same_list : (xs ys : List X) → Rises xs → Rises ys → ((z : X) → filter (alike z) xs ≡ filter (alike z) ys) → xs ≡ ys
  same_list [] [] up down same = refl
  same_list [] (y ∷ ys) up down same = absurd (omega (arith, ap length (same y ∙ first_kept y ys)))
  same_list (x ∷ xs) [] up down same = absurd (omega (arith, ap length (sym (same x) ∙ first_kept x xs)))
  same_list (x ∷ xs) (y ∷ ys) up down same =
      let one : above x y ≡ false = first_not_above x y xs ys up (same y) in
      let other : above y x ≡ false = first_not_above y x ys xs down (sym (same x)) in
      let alike_both : alike x y ≡ true = alike_is x y ∙ (λ j. not (other j) && not (one j)) in
      let fronts : x ∷ filter (alike x) xs ≡ y ∷ filter (alike x) ys =
      sym (first_kept x xs) ∙ same x ∙ (λ j. cond (alike_both j) (y ∷ filter (alike x) ys) (filter (alike x) ys)) in
      let first : x ≡ y = ap (λ (l : List X). get_or l 0 x) fronts in
      let later : xs ≡ ys = same_list xs ys up.1 down.1 (λ z. same_rest x (filter (alike z) xs) (filter (alike z) ys) (alike z x) (same z ∙ (λ j. cond (alike z (sym first j)) (sym first j ∷ filter (alike z) ys) (filter (alike z) ys)))) in
      λ j. first j ∷ later j

  rises_from : (xs : List X) → IsSortedBy (λ x y. is_lt (order x y)) xs → Rises xs
  rises_from [] sorted = tt
  rises_from (x ∷ xs) sorted = (
    each xs (λ k d lt. sym (less (get_or xs k d) x) ∙ sorted_far (λ a b. is_lt (order a b)) (ranks_by total (λ (z : X). z)) (x ∷ xs) sorted 0 (suc k) d (omega arith) (omega arith)),
    rises_from xs (λ k d low high. subst (λ (n : ℕ). is_lt (order (get_or (x ∷ xs) n d) (get_or xs k d)) ≡ false) (next k) (sorted (suc k) d (omega arith) (omega arith))),
  )
    where
      next : (k : ℕ) → suc k + 1 ≡ suc (k + 1)
      next k = omega arith

      each : (ys : List X) → ((k : ℕ) (d : X) → k < length ys → above x (get_or ys k d) ≡ false) → AllByRecursion (λ (y : X). above x y ≡ false) ys
      each [] at = tt
      each (y ∷ ys) at = (at 0 y (omega arith), each ys (λ k d lt. at (suc k) d (omega arith)))

  pub stably_sorted : (xs ys : List X) → IsSortedBy (λ x y. is_lt (order x y)) ys → IsStableBy (λ x y. is_lt (order x y)) xs ys → ys ≡ in_order order xs
  stably_sorted xs ys sorted stable = same_list ys (in_order order xs) (rises_from ys sorted) (rises_in_order xs) (λ z. stable z ∙ sym (tied_in_order z xs))

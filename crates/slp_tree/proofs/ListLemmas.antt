-- Lists by name.
use Rattle.slp_tree.proofs.Common.{◌≡◌, ◌<◌, ◌+◌, ℕ, zero, suc, List, [], ◌∷◌, length, get_or, set, Bool, true, false, cond, Option, Some, None, Result, Ok, Err, refl, sym, ◌∙◌, ap, subst, arith, IfOk, insert, is_some, if◌then◌else◌, HoldsAt, remove, bytes_eq, match_ordering, nat_cmp, is_eq, is_lt, ordering_index, ordering_reverse, IsNonDecreasingBy, IsBinarySearchResult, IsSearchInRange, Ordering, Less, Equal, Greater, nat_list_cmp_total, exact_bytes, bytes_eq-Decides, searchable_from_sorted, named, has, put, without, changed, AreByName}
use Rattle.std.specs.Prelude.{not}
use Rattle.std.specs.Cmp.Lexicographic.{slice_cmp}
use Rattle.std.proofs.lemmas.List.Kept.{AllPairs-filter}
use Rattle.std.proofs.lemmas.Map.Text.{is_eq-slice_cmp}
use Rattle.slp_tree.specs.Places.{StandsAt, LacksAt, IsPlace}

abbrev compare : List ℕ → List ℕ → Ordering
compare a b = slice_cmp nat_cmp a b

-- what a comparison says of equality, and the other way round
alike : (a b : List ℕ) → compare a b ≡ Equal → bytes_eq a b ≡ true
alike a b tied = sym (is_eq-slice_cmp a b) ∙ ap is_eq tied

unlike_less : (a b : List ℕ) → compare a b ≡ Less → bytes_eq a b ≡ false
unlike_less a b less = sym (is_eq-slice_cmp a b) ∙ ap is_eq less

unlike_greater : (a b : List ℕ) → compare a b ≡ Greater → bytes_eq a b ≡ false
unlike_greater a b greater = sym (is_eq-slice_cmp a b) ∙ ap is_eq greater

turned : (a b : List ℕ) (o : Ordering) → compare a b ≡ o → compare b a ≡ ordering_reverse o
turned a b o is = nat_list_cmp_total.antisymm b a ∙ ap ordering_reverse is

pub text_is : (a b : List ℕ) → bytes_eq a b ≡ true → a ≡ b
text_is a b same = (bytes_eq-Decides a b).0 same

module _ {A : Type 0} (name_of : A → List ℕ) where
  -- a list by name, from its first element on
  first_below : (x : A) (xs : List A) → AreByName name_of (x ∷ xs) → (k : ℕ) (d : A) → k < length xs → compare (name_of x) (name_of (get_or xs k d)) ≡ Less
  first_below x xs rising k d lt = rising 0 (suc k) d (omega arith) (omega arith)

  rest_rising : (x : A) (xs : List A) → AreByName name_of (x ∷ xs) → AreByName name_of xs
  rest_rising x xs rising i j d below lt = rising (suc i) (suc j) d (omega arith) (omega arith)

  cons_rising : (x : A) (xs : List A) → ((k : ℕ) (d : A) → k < length xs → compare (name_of x) (name_of (get_or xs k d)) ≡ Less) → AreByName name_of xs → AreByName name_of (x ∷ xs)
  cons_rising x xs first rest zero zero d below lt = absurd (omega arith)
  cons_rising x xs first rest zero (suc j) d below lt = first j d (omega arith)
  cons_rising x xs first rest (suc i) zero d below lt = absurd (omega arith)
  cons_rising x xs first rest (suc i) (suc j) d below lt = rest i j d (omega arith) (omega arith)

  -- the first element is below a name that stands behind it, and the others are above that of the first
  higher : (x : A) (xs : List A) (name : List ℕ) (i : ℕ) → AreByName name_of (x ∷ xs) → i < length xs → HoldsAt (λ (y : A). compare (name_of y) name ≡ Equal) xs i → compare (name_of x) name ≡ Less
  higher x xs name i rising lt here =
      subst (λ (other : List ℕ). compare (name_of x) other ≡ Less) (exact_bytes (name_of (get_or xs i x)) name (here x)) (first_below x xs rising i x lt)

  abbrev IsAbove : List ℕ → List A → Type 0
  IsAbove name xs = (k : ℕ) (d : A) → k < length xs → compare (name_of (get_or xs k d)) name ≡ Greater

  above_first : (x : A) (xs : List A) (name : List ℕ) → AreByName name_of (x ∷ xs) → compare (name_of x) name ≡ Equal → IsAbove name xs
  above_first x xs name rising same k d lt =
      subst (λ (other : List ℕ). compare (name_of (get_or xs k d)) other ≡ Greater) (exact_bytes (name_of x) name same)
      (turned (name_of x) (name_of (get_or xs k d)) Less (first_below x xs rising k d lt))

  none_above : (xs : List A) (name : List ℕ) → IsAbove name xs → without name_of name xs ≡ xs
  none_above [] name above = refl
  none_above (x ∷ xs) name above =
      (λ j. cond (not (unlike_greater (name_of x) name (above 0 x (omega arith)) j)) (x ∷ without name_of name xs) (without name_of name xs))
      ∙ ap (λ (rest : List A). x ∷ rest) (none_above xs name (λ k d lt. above (suc k) d (omega arith)))

  none_changed : (xs : List A) (name : List ℕ) (change : A → A) → IsAbove name xs → changed name_of name change xs ≡ xs
  none_changed [] name change above = refl
  none_changed (x ∷ xs) name change above =
      (λ j. cond (unlike_greater (name_of x) name (above 0 x (omega arith)) j) (change x) x ∷ changed name_of name change xs)
      ∙ ap (λ (rest : List A). x ∷ rest) (none_changed xs name change (λ k d lt. above (suc k) d (omega arith)))

  -- A name that is there.

  pub named_at : (xs : List A) (name : List ℕ) (i : ℕ) (d : A) → AreByName name_of xs → StandsAt name_of xs name i → named name_of name xs ≡ Some (get_or xs i d)
  named_at [] name i d rising (lt, here) = absurd (omega arith)
  named_at (x ∷ xs) name zero d rising (lt, here) = λ j. cond (alike (name_of x) name (here d) j) (Some x) (named name_of name xs)
  named_at (x ∷ xs) name (suc i) d rising (lt, here) =
      let inside : i < length xs = omega arith in
      let later : HoldsAt (λ (y : A). compare (name_of y) name ≡ Equal) xs i = here in
      (λ j. cond (unlike_less (name_of x) name (higher x xs name i rising inside later) j) (Some x) (named name_of name xs))
      ∙ named_at xs name i d (rest_rising x xs rising) (inside, later)

  pub put_at : (xs : List A) (new : A) (i : ℕ) → AreByName name_of xs → StandsAt name_of xs (name_of new) i → put name_of new xs ≡ set xs i new
  put_at [] new i rising (lt, here) = absurd (omega arith)
  put_at (x ∷ xs) new zero rising (lt, here) =
      λ j. match_ordering (turned (name_of x) (name_of new) Equal (here x) j) (new ∷ x ∷ xs) (new ∷ xs) (x ∷ put name_of new xs)
  put_at (x ∷ xs) new (suc i) rising (lt, here) =
      let inside : i < length xs = omega arith in
      let later : HoldsAt (λ (y : A). compare (name_of y) (name_of new) ≡ Equal) xs i = here in
      (λ j. match_ordering (turned (name_of x) (name_of new) Less (higher x xs (name_of new) i rising inside later) j) (new ∷ x ∷ xs) (new ∷ xs) (x ∷ put name_of new xs))
      ∙ ap (λ (rest : List A). x ∷ rest) (put_at xs new i (rest_rising x xs rising) (inside, later))

  pub without_at : (xs : List A) (name : List ℕ) (i : ℕ) → AreByName name_of xs → StandsAt name_of xs name i → without name_of name xs ≡ remove xs i
  without_at [] name i rising (lt, here) = absurd (omega arith)
  without_at (x ∷ xs) name zero rising (lt, here) =
      (λ j. cond (not (alike (name_of x) name (here x) j)) (x ∷ without name_of name xs) (without name_of name xs))
      ∙ none_above xs name (above_first x xs name rising (here x))
  without_at (x ∷ xs) name (suc i) rising (lt, here) =
      let inside : i < length xs = omega arith in
      let later : HoldsAt (λ (y : A). compare (name_of y) name ≡ Equal) xs i = here in
      (λ j. cond (not (unlike_less (name_of x) name (higher x xs name i rising inside later) j)) (x ∷ without name_of name xs) (without name_of name xs))
      ∙ ap (λ (rest : List A). x ∷ rest) (without_at xs name i (rest_rising x xs rising) (inside, later))

  pub changed_at : (xs : List A) (name : List ℕ) (change : A → A) (i : ℕ) (d : A) → AreByName name_of xs → StandsAt name_of xs name i → changed name_of name change xs ≡ set xs i (change (get_or xs i d))
  changed_at [] name change i d rising (lt, here) = absurd (omega arith)
  changed_at (x ∷ xs) name change zero d rising (lt, here) =
      (λ j. cond (alike (name_of x) name (here x) j) (change x) x ∷ changed name_of name change xs)
      ∙ ap (λ (rest : List A). change x ∷ rest) (none_changed xs name change (above_first x xs name rising (here x)))
  changed_at (x ∷ xs) name change (suc i) d rising (lt, here) =
      let inside : i < length xs = omega arith in
      let later : HoldsAt (λ (y : A). compare (name_of y) name ≡ Equal) xs i = here in
      (λ j. cond (unlike_less (name_of x) name (higher x xs name i rising inside later) j) (change x) x ∷ changed name_of name change xs)
      ∙ ap (λ (rest : List A). x ∷ rest) (changed_at xs name change i d (rest_rising x xs rising) (inside, later))

  -- A name that isn't.

  pub unnamed_at : (xs : List A) (name : List ℕ) (i : ℕ) → LacksAt name_of xs name i → named name_of name xs ≡ None
  unnamed_at [] name i lacks = refl
  unnamed_at (x ∷ xs) name zero (within, before, after) =
      (λ j. cond (unlike_greater (name_of x) name (after 0 x (omega arith) (omega arith)) j) (Some x) (named name_of name xs))
      ∙ unnamed_at xs name zero (omega arith, (λ k d low high. absurd (omega arith)), (λ k d low high. after (suc k) d (omega arith) (omega arith)))
  unnamed_at (x ∷ xs) name (suc i) (within, before, after) =
      (λ j. cond (unlike_less (name_of x) name (before 0 x (omega arith) (omega arith)) j) (Some x) (named name_of name xs))
      ∙ unnamed_at xs name i (omega arith, (λ k d low high. before (suc k) d (omega arith) (omega arith)), (λ k d low high. after (suc k) d (omega arith) (omega arith)))

  pub inserted_at : (xs : List A) (new : A) (i : ℕ) → LacksAt name_of xs (name_of new) i → put name_of new xs ≡ insert xs i new
  inserted_at [] new i (within, before, after) = sym (insert_alone i)
    where
      insert_alone : (k : ℕ) → insert {X = A} [] k new ≡ new ∷ []
      insert_alone zero = refl
      insert_alone (suc k) = refl
  inserted_at (x ∷ xs) new zero (within, before, after) =
      λ j. match_ordering (turned (name_of x) (name_of new) Greater (after 0 x (omega arith) (omega arith)) j) (new ∷ x ∷ xs) (new ∷ xs) (x ∷ put name_of new xs)
  inserted_at (x ∷ xs) new (suc i) (within, before, after) =
      (λ j. match_ordering (turned (name_of x) (name_of new) Less (before 0 x (omega arith) (omega arith)) j) (new ∷ x ∷ xs) (new ∷ xs) (x ∷ put name_of new xs))
      ∙ ap (λ (rest : List A). x ∷ rest) (inserted_at xs new i (omega arith, (λ k d low high. before (suc k) d (omega arith) (omega arith)), (λ k d low high. after (suc k) d (omega arith) (omega arith))))

  pub without_lacking : (xs : List A) (name : List ℕ) (i : ℕ) → LacksAt name_of xs name i → without name_of name xs ≡ xs
  without_lacking [] name i lacks = refl
  without_lacking (x ∷ xs) name zero (within, before, after) = none_above (x ∷ xs) name (λ k d lt. after k d (omega arith) lt)
  without_lacking (x ∷ xs) name (suc i) (within, before, after) =
      (λ j. cond (not (unlike_less (name_of x) name (before 0 x (omega arith) (omega arith)) j)) (x ∷ without name_of name xs) (without name_of name xs))
      ∙ ap (λ (rest : List A). x ∷ rest) (without_lacking xs name i (omega arith, (λ k d low high. before (suc k) d (omega arith) (omega arith)), (λ k d low high. after (suc k) d (omega arith) (omega arith))))

  -- An element that is made of the one of its name, or of none.

  pub put_found : (make : Option A → A) (xs : List A) (name : List ℕ) (i : ℕ) (x new : A) → ((o : Option A) → name_of (make o) ≡ name) → AreByName name_of xs → StandsAt name_of xs name i → x ≡ get_or xs i x → new ≡ make (Some x) → set xs i new ≡ put name_of (make (named name_of name xs)) xs
  put_found make xs name i x new named_so rising at is made =
      let found : named name_of name xs ≡ Some x = named_at xs name i x rising at ∙ ap (λ (y : A). Some y) (sym is) in
      ap (set xs i) (made ∙ ap make (sym found))
      ∙ sym (put_at xs (make (named name_of name xs)) i rising (subst (λ (n : List ℕ). StandsAt name_of xs n i) (sym (named_so (named name_of name xs))) at))

  pub put_lacking : (make : Option A → A) (xs : List A) (name : List ℕ) (i : ℕ) (new : A) → ((o : Option A) → name_of (make o) ≡ name) → LacksAt name_of xs name i → new ≡ make None → insert xs i new ≡ put name_of (make (named name_of name xs)) xs
  put_lacking make xs name i new named_so lacks made =
      ap (insert xs i) (made ∙ ap make (sym (unnamed_at xs name i lacks)))
      ∙ sym (inserted_at xs (make (named name_of name xs)) i (subst (λ (n : List ℕ). LacksAt name_of xs n i) (sym (named_so (named name_of name xs))) lacks))

  -- The lists stay by name.

  each_put : (P : List ℕ → Type 0) (xs : List A) (new : A) → P (name_of new) → ((k : ℕ) (d : A) → k < length xs → P (name_of (get_or xs k d))) → (k : ℕ) (d : A) → k < length (put name_of new xs) → P (name_of (get_or (put name_of new xs) k d))
  each_put P [] new here each zero d lt = here
  each_put P [] new here each (suc k) d lt = absurd (omega arith)
  each_put P (x ∷ xs) new here each k d lt = by_order (each_put P xs new here (λ i e below. each (suc i) e (omega arith))) (compare (name_of new) (name_of x)) k d lt
    where
      by_order : ((k : ℕ) (d : A) → k < length (put name_of new xs) → P (name_of (get_or (put name_of new xs) k d))) → (o : Ordering) → let after : List A = match_ordering o (new ∷ x ∷ xs) (new ∷ xs) (x ∷ put name_of new xs) in (k : ℕ) (d : A) → k < length after → P (name_of (get_or after k d))
      by_order later Less zero e low = here
      by_order later Less (suc i) e low = each i e (omega arith)
      by_order later Equal zero e low = here
      by_order later Equal (suc i) e low = each (suc i) e (omega arith)
      by_order later Greater zero e low = each zero e (omega arith)
      by_order later Greater (suc i) e low = later i e (omega arith)

  pub rising_put : (xs : List A) (new : A) → AreByName name_of xs → AreByName name_of (put name_of new xs)
  rising_put [] new rising = cons_rising new [] (λ k d lt. absurd (omega arith)) rising
  rising_put (x ∷ xs) new rising = by_order (rising_put xs new (rest_rising x xs rising)) (compare (name_of new) (name_of x)) refl
    where
      by_order : AreByName name_of (put name_of new xs) → (o : Ordering) → compare (name_of new) (name_of x) ≡ o → AreByName name_of (match_ordering o (new ∷ x ∷ xs) (new ∷ xs) (x ∷ put name_of new xs))
      by_order later Less is = cons_rising new (x ∷ xs) all_above rising
        where
          all_above : (k : ℕ) (d : A) → k < length (x ∷ xs) → compare (name_of new) (name_of (get_or (x ∷ xs) k d)) ≡ Less
          all_above zero d lt = is
          all_above (suc k) d lt = nat_list_cmp_total.trans (name_of new) (name_of x) (name_of (get_or xs k d)) is (first_below x xs rising k d (omega arith))
      by_order later Equal is =
          cons_rising new xs
          (λ k d lt. subst (λ (n : List ℕ). compare n (name_of (get_or xs k d)) ≡ Less) (sym (exact_bytes (name_of new) (name_of x) is)) (first_below x xs rising k d lt))
          (rest_rising x xs rising)
      by_order later Greater is = cons_rising x (put name_of new xs) (each_put (λ other. compare (name_of x) other ≡ Less) xs new (turned (name_of new) (name_of x) Greater is) (first_below x xs rising)) later

  pub rising_without : (xs : List A) (name : List ℕ) → AreByName name_of xs → AreByName name_of (without name_of name xs)
  rising_without xs name rising = AllPairs-filter (λ x y. compare (name_of x) (name_of y) ≡ Less) (λ x. not (bytes_eq (name_of x) name)) xs rising

  -- What a search for a name found.

  abbrev pub rank : List ℕ → A → Ordering
  rank name x = slice_cmp nat_cmp (name_of x) name

  pub ranks_rise : (xs : List A) (name : List ℕ) → AreByName name_of xs → IsNonDecreasingBy (λ x. ordering_index (rank name x)) xs
  ranks_rise xs name rising = searchable_from_sorted nat_list_cmp_total name_of xs name (λ k d low high. none_back k d (rising k (k + 1) d (omega arith) high))
    where
      none_back : (k : ℕ) (d : A) → compare (name_of (get_or xs k d)) (name_of (get_or xs (k + 1) d)) ≡ Less → is_lt (compare (name_of (get_or xs (k + 1) d)) (name_of (get_or xs k d))) ≡ false
      none_back k d less = ap is_lt (turned (name_of (get_or xs k d)) (name_of (get_or xs (k + 1) d)) Less less)

  pub place_of : (xs : List A) (name : List ℕ) (result : Result ℕ ℕ) → AreByName name_of xs → IsSearchInRange result (length xs) → IsBinarySearchResult (rank name) xs result → IsPlace name_of xs name result
  place_of xs name (Ok i) rising within found = (within, found)
  place_of xs name (Err i) rising within found = let parts = found (ranks_rise xs name rising) in (within, parts.0, parts.1)

  -- The same of a list and a name that are read through something.

  pub stands_as : (xs seen : List A) (name said : List ℕ) (i : ℕ) → seen ≡ xs → said ≡ name → StandsAt name_of seen said i → StandsAt name_of xs name i
  stands_as xs seen name said i listed same at = subst (λ (ys : List A). StandsAt name_of ys name i) listed (subst (λ (n : List ℕ). StandsAt name_of seen n i) same at)

  pub lacks_as : (xs seen : List A) (name said : List ℕ) (i : ℕ) → seen ≡ xs → said ≡ name → LacksAt name_of seen said i → LacksAt name_of xs name i
  lacks_as xs seen name said i listed same at = subst (λ (ys : List A). LacksAt name_of ys name i) listed (subst (λ (n : List ℕ). LacksAt name_of seen n i) same at)

  pub changed_lacking : (xs : List A) (name : List ℕ) (change : A → A) (i : ℕ) → LacksAt name_of xs name i → changed name_of name change xs ≡ xs
  changed_lacking [] name change i lacks = refl
  changed_lacking (x ∷ xs) name change zero (within, before, after) = none_changed (x ∷ xs) name change (λ k d lt. after k d (omega arith) lt)
  changed_lacking (x ∷ xs) name change (suc i) (within, before, after) =
      (λ j. cond (unlike_less (name_of x) name (before 0 x (omega arith) (omega arith)) j) (change x) x ∷ changed name_of name change xs)
      ∙ ap (λ (rest : List A). x ∷ rest) (changed_lacking xs name change i (omega arith, (λ k d low high. before (suc k) d (omega arith) (omega arith)), (λ k d low high. after (suc k) d (omega arith) (omega arith))))

  pub changed_in_place : (xs : List A) (name : List ℕ) (change : A → A) (i : ℕ) (x new : A) → AreByName name_of xs → StandsAt name_of xs name i → x ≡ get_or xs i x → new ≡ change x → set xs i new ≡ changed name_of name change xs
  changed_in_place xs name change i x new rising at is made =
      ap (set xs i) (made ∙ ap change is) ∙ sym (changed_at xs name change i x rising at)

  -- Whether a name is there.

  pub has_at : (xs : List A) (name : List ℕ) (i : ℕ) → AreByName name_of xs → StandsAt name_of xs name i → has name_of name xs ≡ true
  has_at [] name i rising (lt, here) = absurd (omega arith)
  has_at (x ∷ xs) name i rising (lt, here) = ap is_some (named_at (x ∷ xs) name i x rising (lt, here))

  pub lacks_at : (xs : List A) (name : List ℕ) (i : ℕ) → LacksAt name_of xs name i → has name_of name xs ≡ false
  lacks_at xs name i lacks = ap is_some (unnamed_at xs name i lacks)

  pub named_if : {E : Type 0} (xs seen : List A) (name : List ℕ) (r : Result ℕ E) → AreByName name_of xs → seen ≡ xs → IfOk r (λ i. StandsAt name_of seen name i) → IfOk r (λ i. (d : A) → named name_of name xs ≡ Some (get_or xs i d))
  named_if xs seen name (Ok i) rising listed at = λ d. named_at xs name i d rising (stands_as xs seen name name i listed refl at)
  named_if xs seen name (Err e) rising listed at = tt

  -- What is found in a list to which an element was put.

  pub named-put : (new : A) (other : List ℕ) (xs : List A) → named name_of other (put name_of new xs) ≡ (if bytes_eq (name_of new) other then Some new else named name_of other xs)
  named-put new other [] = refl
  named-put new other (x ∷ xs) = at (slice_cmp nat_cmp (name_of new) (name_of x)) refl (named-put new other xs)
    where
      swapped : (a b : Bool) → bytes_eq (name_of x) other ≡ a → bytes_eq (name_of new) other ≡ b → slice_cmp nat_cmp (name_of new) (name_of x) ≡ Greater → (if a then Some x else (if b then Some new else named name_of other xs)) ≡ (if b then Some new else (if a then Some x else named name_of other xs))
      swapped true true x_is new_is greater =
          let same : name_of new ≡ name_of x = text_is (name_of new) other new_is ∙ sym (text_is (name_of x) other x_is) in
          let tied : is_eq (slice_cmp nat_cmp (name_of new) (name_of x)) ≡ true = is_eq-slice_cmp (name_of new) (name_of x) ∙ (bytes_eq-Decides (name_of new) (name_of x)).1 same in
          absurd (cc (tied, ap is_eq greater))
      swapped true false x_is new_is greater = refl
      swapped false b x_is new_is greater = refl

      replaced : (b : Bool) → bytes_eq (name_of new) other ≡ b → name_of new ≡ name_of x → (if b then Some new else named name_of other xs) ≡ (if b then Some new else (if bytes_eq (name_of x) other then Some x else named name_of other xs))
      replaced true here same = refl
      replaced false here same = λ i. if (sym here ∙ ap (λ (n : List ℕ). bytes_eq n other) same) i then Some x else named name_of other xs

      at : (o : Ordering) → slice_cmp nat_cmp (name_of new) (name_of x) ≡ o → named name_of other (put name_of new xs) ≡ (if bytes_eq (name_of new) other then Some new else named name_of other xs)
          → named name_of other (match_ordering o (new ∷ x ∷ xs) (new ∷ xs) (x ∷ put name_of new xs)) ≡ (if bytes_eq (name_of new) other then Some new else (if bytes_eq (name_of x) other then Some x else named name_of other xs))
      at Less is more = refl
      at Equal is more = replaced (bytes_eq (name_of new) other) refl (text_is (name_of new) (name_of x) (sym (is_eq-slice_cmp (name_of new) (name_of x)) ∙ ap is_eq is))
      at Greater is more = ap (λ (o : Option A). if bytes_eq (name_of x) other then Some x else o) more ∙ swapped (bytes_eq (name_of x) other) (bytes_eq (name_of new) other) refl refl is

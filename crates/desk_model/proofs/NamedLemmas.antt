-- Lists by name that are changed.
use Rattle.desk_model.proofs.Common.{◌≡◌, ◌≤◌, ◌<◌, ◌∙◌, ℕ, zero, suc, Bool, true, false, List, [], ◌∷◌, length, get_or, refl, sym, ap, subst, arith, Option, Some, None, is_some, not, if◌then◌else◌, Contains, bytes_eq, false≢true, get_or_default, length-set, bytes_eq-Decides, AreByName, named, has, put, without, changed, text_is, named_at, put_at, named-put}
use Rattle.std.specs.Cmp.Lexicographic.{slice_cmp}
use Rattle.std.specs.Ordering.{match_ordering, nat_cmp, is_eq}
use Rattle.std.specs.declared.cmp.Ordering.{Ordering}
use Rattle.std.specs.declared.cmp.Ordering.TheVariants.{Less, Equal, Greater}
use Rattle.std.proofs.lemmas.Cmp.{nat_list_cmp_total, tied_itself}
use Rattle.std.proofs.lemmas.Map.Text.{is_eq-slice_cmp}
use Rattle.slp_tree.specs.Places.{StandsAt}

module _ {A : Type 0} (name_of : A → List ℕ) where
  pub has-put : (new : A) (other : List ℕ) (xs : List A) → has name_of other xs ≡ true → has name_of other (put name_of new xs) ≡ true
  has-put new other xs there = ap is_some (named-put name_of new other xs) ∙ at (bytes_eq (name_of new) other)
    where
      at : (b : Bool) → is_some (if b then Some new else named name_of other xs) ≡ true
      at true = refl
      at false = there

  pub has-new : (new : A) (xs : List A) → has name_of (name_of new) (put name_of new xs) ≡ true
  has-new new xs = ap is_some (named-put name_of new (name_of new) xs) ∙ (λ i. is_some (if (bytes_eq-Decides (name_of new) (name_of new)).1 refl i then Some new else named name_of (name_of new) xs))

  pub named-without : (gone other : List ℕ) (xs : List A) → named name_of other (without name_of gone xs) ≡ (if bytes_eq gone other then None else named name_of other xs)
  named-without gone other [] = at (bytes_eq gone other)
    where
      at : (b : Bool) → named name_of other [] ≡ (if b then None else named name_of other [])
      at true = refl
      at false = refl
  named-without gone other (x ∷ xs) = at (bytes_eq (name_of x) gone) refl (named-without gone other xs)
    where
      left : (b c : Bool) → bytes_eq (name_of x) other ≡ b → bytes_eq gone other ≡ c → bytes_eq (name_of x) gone ≡ false → (if b then Some x else (if c then None else named name_of other xs)) ≡ (if c then None else (if b then Some x else named name_of other xs))
      left true true x_is gone_is differs =
          let same : name_of x ≡ gone = text_is (name_of x) other x_is ∙ sym (text_is gone other gone_is) in
          absurd (cc (differs, (bytes_eq-Decides (name_of x) gone).1 same))
      left true false x_is gone_is differs = refl
      left false c x_is gone_is differs = refl

      dropped : (c : Bool) → bytes_eq gone other ≡ c → name_of x ≡ gone → (if c then None else named name_of other xs) ≡ (if c then None else (if bytes_eq (name_of x) other then Some x else named name_of other xs))
      dropped true gone_is same = refl
      dropped false gone_is same = λ i. if (sym gone_is ∙ ap (λ (n : List ℕ). bytes_eq n other) (sym same)) i then Some x else named name_of other xs

      at : (b : Bool) → bytes_eq (name_of x) gone ≡ b → named name_of other (without name_of gone xs) ≡ (if bytes_eq gone other then None else named name_of other xs)
          → named name_of other (if not b then x ∷ without name_of gone xs else without name_of gone xs) ≡ (if bytes_eq gone other then None else (if bytes_eq (name_of x) other then Some x else named name_of other xs))
      at true is more = more ∙ dropped (bytes_eq gone other) refl (text_is (name_of x) gone is)
      at false is more = ap (λ (o : Option A). if bytes_eq (name_of x) other then Some x else o) more ∙ left (bytes_eq (name_of x) other) (bytes_eq gone other) refl refl is

  pub has-without : (gone other : List ℕ) (xs : List A) → bytes_eq gone other ≡ false → has name_of other xs ≡ true → has name_of other (without name_of gone xs) ≡ true
  has-without gone other xs differs there = ap is_some (named-without gone other xs) ∙ (λ i. is_some (if differs i then None else named name_of other xs)) ∙ there

  -- a change that keeps the names
  pub has-changed : (name : List ℕ) (change : A → A) → ((x : A) → name_of (change x) ≡ name_of x) → (other : List ℕ) (xs : List A) → has name_of other (changed name_of name change xs) ≡ has name_of other xs
  has-changed name change keeps other [] = refl
  has-changed name change keeps other (x ∷ xs) = at (bytes_eq (name_of x) name) (has-changed name change keeps other xs)
    where
      here : (y : A) → name_of y ≡ name_of x → has name_of other (changed name_of name change xs) ≡ has name_of other xs → is_some (if bytes_eq (name_of y) other then Some y else named name_of other (changed name_of name change xs)) ≡ is_some (if bytes_eq (name_of x) other then Some x else named name_of other xs)
      here y same more = ap (λ (n : List ℕ). is_some (if bytes_eq n other then Some y else named name_of other (changed name_of name change xs))) same ∙ either (bytes_eq (name_of x) other)
        where
          either : (b : Bool) → is_some (if b then Some y else named name_of other (changed name_of name change xs)) ≡ is_some (if b then Some x else named name_of other xs)
          either true = refl
          either false = more

      at : (b : Bool) → has name_of other (changed name_of name change xs) ≡ has name_of other xs → has name_of other ((if b then change x else x) ∷ changed name_of name change xs) ≡ has name_of other (x ∷ xs)
      at true more = here (change x) (keeps x) more
      at false more = here x refl more

  -- what holds of each element, and of a new or a changed one
  module _ (P : A → Type 0) where
    pub each-put : (new : A) (xs : List A) → P new → ((x : A) → Contains xs x → P x) → (x : A) → Contains (put name_of new xs) x → P x
    each-put new [] here each x (zero, lt, is) = subst P is here
    each-put new [] here each x (suc k, lt, is) = absurd (omega arith)
    each-put new (y ∷ ys) here each x among = at (slice_cmp nat_cmp (name_of new) (name_of y)) (each-put new ys here (λ z there. each z (suc there.0, omega (arith, there.1), there.2))) x among
      where
        at : (o : Ordering) → ((x : A) → Contains (put name_of new ys) x → P x) → (x : A) → Contains (match_ordering o (new ∷ y ∷ ys) (new ∷ ys) (y ∷ put name_of new ys)) x → P x
        at Less more x (zero, lt, is) = subst P is here
        at Less more x (suc k, lt, is) = each x (k, omega arith, is)
        at Equal more x (zero, lt, is) = subst P is here
        at Equal more x (suc k, lt, is) = each x (suc k, omega arith, is)
        at Greater more x (zero, lt, is) = each x (zero, omega arith, is)
        at Greater more x (suc k, lt, is) = more x (k, omega arith, is)

    pub each-changed-named : (name : List ℕ) (change : A → A) (xs : List A) → ((x : A) → Contains xs x → name_of x ≡ name → P (change x)) → ((x : A) → Contains xs x → P x) → (x : A) → Contains (changed name_of name change xs) x → P x
    each-changed-named name change [] new each x (k, lt, is) = absurd (omega arith)
    each-changed-named name change (y ∷ ys) new each x (zero, lt, is) = subst P is (at (bytes_eq (name_of y) name) refl)
      where
        at : (b : Bool) → bytes_eq (name_of y) name ≡ b → P (if b then change y else y)
        at true same = new y (zero, omega arith, refl) (text_is (name_of y) name same)
        at false differs = each y (zero, omega arith, refl)
    each-changed-named name change (y ∷ ys) new each x (suc k, lt, is) =
        each-changed-named name change ys (λ z there. new z (suc there.0, omega (arith, there.1), there.2)) (λ z there. each z (suc there.0, omega (arith, there.1), there.2)) x (k, omega arith, is)

    pub each-changed : (name : List ℕ) (change : A → A) → ((x : A) → P x → P (change x)) → (xs : List A) → ((x : A) → Contains xs x → P x) → (x : A) → Contains (changed name_of name change xs) x → P x
    each-changed name change keeps xs each x among = each-changed-named name change xs (λ y there same. keeps y (each y there)) each x among

    pub each-without : (gone : List ℕ) (xs : List A) → ((x : A) → Contains xs x → P x) → (x : A) → Contains (without name_of gone xs) x → P x
    each-without gone [] each x (k, lt, is) = absurd (omega arith)
    each-without gone (y ∷ ys) each x among = at (bytes_eq (name_of y) gone) (each-without gone ys (λ z there. each z (suc there.0, omega (arith, there.1), there.2))) x among
      where
        at : (b : Bool) → ((x : A) → Contains (without name_of gone ys) x → P x) → (x : A) → Contains (if not b then y ∷ without name_of gone ys else without name_of gone ys) x → P x
        at true more x there = more x there
        at false more x (zero, lt, is) = each x (zero, omega arith, is)
        at false more x (suc k, lt, is) = more x (k, omega arith, is)

  -- what is found is there, under its name
  pub found_named : (name : List ℕ) (xs : List A) (x : A) → named name_of name xs ≡ Some x → (name_of x ≡ name) × Contains xs x
  found_named name [] x is = absurd (cc is)
  found_named name (y ∷ ys) x is = at (bytes_eq (name_of y) name) refl (found_named name ys x) is
    where
      at : (b : Bool) → bytes_eq (name_of y) name ≡ b → (named name_of name ys ≡ Some x → (name_of x ≡ name) × Contains ys x) → (if b then Some y else named name_of name ys) ≡ Some x → (name_of x ≡ name) × Contains (y ∷ ys) x
      at true same later here =
          let y_is : y ≡ x = cc here in
          (ap name_of (sym y_is) ∙ text_is (name_of y) name same, (zero, omega arith, y_is))
      at false differs later there =
          let found = later there in
          (found.0, (suc found.1.0, omega (arith, found.1.1), found.1.2))

  -- and what is there is found, where the names rise
  same_place : (xs : List A) (k : ℕ) (x : A) (name : List ℕ) → k < length xs → get_or xs k x ≡ x → name_of x ≡ name → StandsAt name_of xs name k
  same_place xs k x name lt is named_so =
      (lt, λ d. ap (λ (y : A). slice_cmp nat_cmp (name_of y) name) (get_or_default xs k d x lt ∙ is) ∙ ap (λ (n : List ℕ). slice_cmp nat_cmp n name) named_so ∙ tied_itself nat_list_cmp_total name)

  pub named-contained : (xs : List A) (x : A) → AreByName name_of xs → Contains xs x → named name_of (name_of x) xs ≡ Some x
  named-contained xs x rising (k, lt, is) = named_at name_of xs (name_of x) k x rising (same_place xs k x (name_of x) lt is refl) ∙ ap (λ (y : A). Some y) is

  pub has-contained : (xs : List A) (x : A) → AreByName name_of xs → Contains xs x → has name_of (name_of x) xs ≡ true
  has-contained xs x rising among = ap is_some (named-contained xs x rising among)

  -- How many there are.

  -- an element more, unless it takes another's place
  pub length-put : (new : A) (xs : List A) → length (put name_of new xs) ≤ suc (length xs)
  length-put new [] = omega arith
  length-put new (x ∷ xs) = at (slice_cmp nat_cmp (name_of new) (name_of x)) (length-put new xs)
    where
      at : (o : Ordering) → length (put name_of new xs) ≤ suc (length xs) → length (match_ordering o (new ∷ x ∷ xs) (new ∷ xs) (x ∷ put name_of new xs)) ≤ suc (length (x ∷ xs))
      at Less more = omega arith
      at Equal more = omega arith
      at Greater more = omega (arith, more)

  pub length-added : (new : A) (xs : List A) → has name_of (name_of new) xs ≡ false → length (put name_of new xs) ≡ suc (length xs)
  length-added new [] lacks = refl
  length-added new (x ∷ xs) lacks = first (bytes_eq (name_of x) (name_of new)) refl (length-added new xs) lacks
    where
      at : (o : Ordering) → slice_cmp nat_cmp (name_of new) (name_of x) ≡ o → bytes_eq (name_of x) (name_of new) ≡ false → length (put name_of new xs) ≡ suc (length xs) → length (match_ordering o (new ∷ x ∷ xs) (new ∷ xs) (x ∷ put name_of new xs)) ≡ suc (length (x ∷ xs))
      at Less is differs more = refl
      at Equal is differs more =
          let same : name_of new ≡ name_of x = text_is (name_of new) (name_of x) (sym (is_eq-slice_cmp (name_of new) (name_of x)) ∙ ap is_eq is) in
          absurd (false≢true (sym differs ∙ (bytes_eq-Decides (name_of x) (name_of new)).1 (sym same)))
      at Greater is differs more = ap suc more

      first : (b : Bool) → bytes_eq (name_of x) (name_of new) ≡ b → (has name_of (name_of new) xs ≡ false → length (put name_of new xs) ≡ suc (length xs)) → is_some (if b then Some x else named name_of (name_of new) xs) ≡ false → length (match_ordering (slice_cmp nat_cmp (name_of new) (name_of x)) (new ∷ x ∷ xs) (new ∷ xs) (x ∷ put name_of new xs)) ≡ suc (length (x ∷ xs))
      first true is later none = absurd (false≢true (sym none))
      first false is later none = at (slice_cmp nat_cmp (name_of new) (name_of x)) refl is (later none)

  pub some_named : (name : List ℕ) (xs : List A) → has name_of name xs ≡ true → (x : A) × (named name_of name xs ≡ Some x)
  some_named name xs there = at (named name_of name xs) there
    where
      at : (o : Option A) → is_some o ≡ true → (x : A) × (o ≡ Some x)
      at None is = absurd (false≢true is)
      at (Some x) is = (x, refl)

  pub length-replaced : (new : A) (xs : List A) → AreByName name_of xs → has name_of (name_of new) xs ≡ true → length (put name_of new xs) ≡ length xs
  length-replaced new xs rising there =
      let one = some_named (name_of new) xs there in
      let found = found_named (name_of new) xs one.0 one.1 in
      ap length (put_at name_of xs new found.1.0 rising (same_place xs found.1.0 one.0 (name_of new) found.1.1 found.1.2 found.0)) ∙ length-set xs found.1.0 new

  pub length-without : (gone : List ℕ) (xs : List A) → length (without name_of gone xs) ≤ length xs
  length-without gone [] = omega arith
  length-without gone (x ∷ xs) = at (bytes_eq (name_of x) gone) (length-without gone xs)
    where
      at : (b : Bool) → length (without name_of gone xs) ≤ length xs → length (if not b then x ∷ without name_of gone xs else without name_of gone xs) ≤ length (x ∷ xs)
      at true more = omega (arith, more)
      at false more = omega (arith, more)

  -- a change that keeps the names keeps their order
  name-changed : (name : List ℕ) (change : A → A) → ((x : A) → name_of (change x) ≡ name_of x) → (xs : List A) (k : ℕ) (d : A) → k < length xs → name_of (get_or (changed name_of name change xs) k d) ≡ name_of (get_or xs k d)
  name-changed name change keeps [] k d lt = absurd (omega arith)
  name-changed name change keeps (x ∷ xs) zero d lt = at (bytes_eq (name_of x) name)
    where
      at : (b : Bool) → name_of (if b then change x else x) ≡ name_of x
      at true = keeps x
      at false = refl
  name-changed name change keeps (x ∷ xs) (suc k) d lt = name-changed name change keeps xs k d (omega arith)

  pub length-changed : (name : List ℕ) (change : A → A) (xs : List A) → length (changed name_of name change xs) ≡ length xs
  length-changed name change [] = refl
  length-changed name change (x ∷ xs) = ap suc (length-changed name change xs)

  pub rising-changed : (name : List ℕ) (change : A → A) → ((x : A) → name_of (change x) ≡ name_of x) → (xs : List A) → AreByName name_of xs → AreByName name_of (changed name_of name change xs)
  rising-changed name change keeps xs rising i j d below lt =
      let long = length-changed name change xs in
      subst (λ (n : List ℕ). slice_cmp nat_cmp (name_of (get_or (changed name_of name change xs) i d)) n ≡ Less) (sym (name-changed name change keeps xs j d (omega (arith, long))))
      (subst (λ (n : List ℕ). slice_cmp nat_cmp n (name_of (get_or xs j d)) ≡ Less) (sym (name-changed name change keeps xs i d (omega (arith, long))))
      (rising i j d below (omega (arith, long))))

  -- the element of a name after a change of it, or of another
  pub named-changed : (name : List ℕ) (change : A → A) → ((x : A) → name_of (change x) ≡ name_of x) → (other : List ℕ) (xs : List A) (x : A) → named name_of other xs ≡ Some x → named name_of other (changed name_of name change xs) ≡ Some (if bytes_eq (name_of x) name then change x else x)
  named-changed name change keeps other [] x is = absurd (cc is)
  named-changed name change keeps other (y ∷ ys) x is = at (bytes_eq (name_of y) other) refl (named-changed name change keeps other ys x) is
    where
      kept : (b : Bool) → name_of (if b then change y else y) ≡ name_of y
      kept true = keeps y
      kept false = refl

      at : (b : Bool) → bytes_eq (name_of y) other ≡ b → (named name_of other ys ≡ Some x → named name_of other (changed name_of name change ys) ≡ Some (if bytes_eq (name_of x) name then change x else x)) → (if b then Some y else named name_of other ys) ≡ Some x → named name_of other (changed name_of name change (y ∷ ys)) ≡ Some (if bytes_eq (name_of x) name then change x else x)
      at true here later found =
          (λ i. if (ap (λ (n : List ℕ). bytes_eq n other) (kept (bytes_eq (name_of y) name)) ∙ here) i then Some (if bytes_eq (name_of y) name then change y else y) else named name_of other (changed name_of name change ys))
          ∙ ap (λ (z : A). Some (if bytes_eq (name_of z) name then change z else z)) (let y_is : y ≡ x = cc found in y_is)
      at false here later found =
          (λ i. if (ap (λ (n : List ℕ). bytes_eq n other) (kept (bytes_eq (name_of y) name)) ∙ here) i then Some (if bytes_eq (name_of y) name then change y else y) else named name_of other (changed name_of name change ys))
          ∙ later found

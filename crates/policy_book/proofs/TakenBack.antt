-- A seal of a client that is taken back.
use Rattle.policy_book.proofs.Common.{◌≡◌, ◌∙◌, ℕ, List, [], ◌∷◌, Bool, true, false, cond, not, Option, Some, None, refl, sym, ap, subst, arith, get_or, option_map, max, AreByName, Book, Client, client_name, client_sealed, named, put, changed_lacking, unnamed_at}
use Rattle.std.specs.Prelude.{suc}
use Rattle.std.specs.Cmp.Lexicographic.{slice_cmp}
use Rattle.std.specs.Ordering.{is_eq, match_ordering, nat_cmp, ordering_reverse}
use Rattle.std.specs.Str.{bytes_eq}
use Rattle.std.specs.declared.cmp.Ordering.{Ordering}
use Rattle.std.specs.declared.cmp.Ordering.TheVariants.{Less, Equal, Greater}
use Rattle.std.proofs.lemmas.Cmp.{nat_list_cmp_total}
use Rattle.std.proofs.lemmas.Map.Lookups.{exact_bytes}
use Rattle.std.proofs.lemmas.Map.Text.{is_eq-slice_cmp}
use Rattle.std.proofs.lemmas.Option.{none-some, same_Some}
use Rattle.std.proofs.lemmas.Slice.Eq.{bytes_eq-Decides}
use Rattle.slp_tree.specs.Places.{LacksAt}
use Rattle.policy_book.specs.Lists.{changed, without}
use Rattle.policy_book.specs.Changes.{client_unsealed, last_known, last_of, with_last}
use Rattle.policy_book.specs.declared.book.Book.TheInside.{Inside}
use Rattle.policy_book.proofs.BookLemmas.{seen}

same_itself : (name : List ℕ) → bytes_eq name name ≡ true
same_itself name = (bytes_eq-Decides name name).1 refl

module _ {A : Type 0} (name_of : A → List ℕ) where
  none_found : (b : Bool) (x : A) (rest : Option A) → cond b (Some x) rest ≡ None → (b ≡ false) × (rest ≡ None)
  none_found true x rest none = absurd (none-some x (sym none))
  none_found false x rest none = (refl, none)

  without_none : (xs : List A) (name : List ℕ) → named name_of name xs ≡ None → without name_of name xs ≡ xs
  without_none [] name none = refl
  without_none (x ∷ xs) name none =
      let absent = none_found (bytes_eq (name_of x) name) x (named name_of name xs) none in
      (λ j. cond (not (absent.0 j)) (x ∷ without name_of name xs) (without name_of name xs))
      ∙ ap (λ (rest : List A). x ∷ rest) (without_none xs name absent.1)

  -- a removal undoes an addition
  without_put : (xs : List A) (new : A) → named name_of (name_of new) xs ≡ None → without name_of (name_of new) (put name_of new xs) ≡ xs
  without_put [] new none = λ j. cond (not (same_itself (name_of new) j)) (new ∷ []) []
  without_put (x ∷ xs) new none =
      let absent = none_found (bytes_eq (name_of x) (name_of new)) x (named name_of (name_of new) xs) none in
      by_order absent.0 (without_put xs new absent.1) (slice_cmp nat_cmp (name_of new) (name_of x)) refl
    where
      by_order : bytes_eq (name_of x) (name_of new) ≡ false → without name_of (name_of new) (put name_of new xs) ≡ xs → (o : Ordering) → slice_cmp nat_cmp (name_of new) (name_of x) ≡ o
          → without name_of (name_of new) (match_ordering o (new ∷ x ∷ xs) (new ∷ xs) (x ∷ put name_of new xs)) ≡ x ∷ xs
      by_order unlike later Less is =
          (λ j. cond (not (same_itself (name_of new) j)) (new ∷ without name_of (name_of new) (x ∷ xs)) (without name_of (name_of new) (x ∷ xs)))
          ∙ without_none (x ∷ xs) (name_of new) none
      by_order unlike later Equal is =
          let same : bytes_eq (name_of x) (name_of new) ≡ true = (bytes_eq-Decides (name_of x) (name_of new)).1 (sym (exact_bytes (name_of new) (name_of x) is)) in
          absurd (cc (same, unlike))
      by_order unlike later Greater is =
          (λ j. cond (not (unlike j)) (x ∷ without name_of (name_of new) (put name_of new xs)) (without name_of (name_of new) (put name_of new xs)))
          ∙ ap (λ (rest : List A). x ∷ rest) later

  -- the names behind the first are higher than it
  lacks_first : (x : A) (xs : List A) → AreByName name_of (x ∷ xs) → LacksAt name_of xs (name_of x) 0
  lacks_first x xs rising = (
    omega arith,
    λ k d low high. absurd (omega arith),
    λ k d low high. nat_list_cmp_total.antisymm (name_of (get_or xs k d)) (name_of x) ∙ ap ordering_reverse (rising 0 (suc k) d (omega arith) (omega arith)),
  )

  rest_rising : (x : A) (xs : List A) → AreByName name_of (x ∷ xs) → AreByName name_of xs
  rest_rising x xs rising i j d below lt = rising (suc i) (suc j) d (omega arith) (omega arith)

  -- a change that makes of an element the one that it replaced undoes the replacement
  changed_put : (xs : List A) (old new : A) (change : A → A) → AreByName name_of (put name_of new xs) → named name_of (name_of new) xs ≡ Some old → (name_of new ≡ name_of old → change new ≡ old) → changed name_of (name_of new) change (put name_of new xs) ≡ xs
  changed_put [] old new change rising found restores = absurd (none-some old found)
  changed_put (x ∷ xs) old new change rising found restores = by_order (λ in_order rest_found. changed_put xs old new change in_order rest_found restores) (slice_cmp nat_cmp (name_of new) (name_of x)) refl rising
    where
      by_order : (AreByName name_of (put name_of new xs) → named name_of (name_of new) xs ≡ Some old → changed name_of (name_of new) change (put name_of new xs) ≡ xs) → (o : Ordering) → slice_cmp nat_cmp (name_of new) (name_of x) ≡ o → AreByName name_of (match_ordering o (new ∷ x ∷ xs) (new ∷ xs) (x ∷ put name_of new xs))
          → changed name_of (name_of new) change (match_ordering o (new ∷ x ∷ xs) (new ∷ xs) (x ∷ put name_of new xs)) ≡ x ∷ xs
      by_order later Less is in_order =
          let lacks : named name_of (name_of new) (x ∷ xs) ≡ None = unnamed_at name_of (x ∷ xs) (name_of new) 0 (lacks_first new (x ∷ xs) in_order) in
          absurd (none-some old (sym lacks ∙ found))
      by_order later Equal is in_order =
          let same : name_of new ≡ name_of x = exact_bytes (name_of new) (name_of x) is in
          let here : bytes_eq (name_of x) (name_of new) ≡ true = (bytes_eq-Decides (name_of x) (name_of new)).1 (sym same) in
          let is_old : x ≡ old = same_Some x old ((λ j. cond (sym here j) (Some x) (named name_of (name_of new) xs)) ∙ found) in
          (λ j. cond (same_itself (name_of new) j) (change new) new ∷ changed name_of (name_of new) change xs)
          ∙ ap (λ (rest : List A). change new ∷ rest) (changed_lacking name_of xs (name_of new) change 0 (lacks_first new xs in_order))
          ∙ ap (λ (y : A). y ∷ xs) (restores (same ∙ ap name_of is_old) ∙ sym is_old)
      by_order later Greater is in_order =
          let unlike : bytes_eq (name_of x) (name_of new) ≡ false = sym (is_eq-slice_cmp (name_of x) (name_of new)) ∙ ap is_eq (nat_list_cmp_total.antisymm (name_of x) (name_of new) ∙ ap ordering_reverse is) in
          (λ j. cond (unlike j) (change x) x ∷ changed name_of (name_of new) change (put name_of new xs))
          ∙ ap (λ (rest : List A). x ∷ rest)
          (later (rest_rising x (put name_of new xs) in_order) ((λ j. cond (sym unlike j) (Some x) (named name_of (name_of new) xs)) ∙ found))

-- the client that a seal puts into a book
abbrev sealed : List ℕ → ℕ → Book → Client
sealed name time before = record { name = name; last = max (last_of name before) time }

restored : (name : List ℕ) (last : Option ℕ) (time : ℕ) (before : Book) → AreByName client_name (client_sealed name time before).clients → last ≡ last_known name before → client_unsealed name last (client_sealed name time before) ≡ before
restored name last time before rising known = by_client (named client_name name before.clients) refl last known
  where
    by_client : (found : Option Client) → named client_name name before.clients ≡ found → (o : Option ℕ) → o ≡ option_map (λ c. c.last) found → client_unsealed name o (client_sealed name time before) ≡ before
    by_client None is None was = ap (λ (clients : List Client). record before { clients = clients }) (without_put client_name before.clients (sealed name time before) is)
    by_client None is (Some t) was = absurd (none-some t (sym was))
    by_client (Some c) is None was = absurd (none-some c.last was)
    by_client (Some c) is (Some t) was =
        ap (λ (clients : List Client). record before { clients = clients })
        (changed_put client_name before.clients c (sealed name time before) (with_last t) rising is (λ same. λ j. record { name = same j; last = same_Some t c.last was j }))

-- what was sealed and taken back is the book that was
pub taken_back : (b : Inside) (now after : Book) (name : List ℕ) (last : Option ℕ) → seen b ≡ now → AreByName client_name b.clients.items → after ≡ client_unsealed name last now → (before : Book) (time : ℕ) → now ≡ client_sealed name time before → last ≡ last_known name before → after ≡ before
taken_back b now after name last is rising made before time was known =
    made ∙ ap (client_unsealed name last) was
    ∙ restored name last time before (subst (λ (book : Book). AreByName client_name book.clients) (is ∙ was) rising) known

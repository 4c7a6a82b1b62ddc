-- So many of a field, one behind another, and how things are spelled one behind another.
use Rattle.pool_journal.proofs.Common.{◌≡◌, ℕ, ◌+◌, ◌-◌, ◌<◌, ◌≤◌, suc, List, [], ◌∷◌, ◌++◌, length, get_or, take, refl, sym, ap, subst, ◌∙◌, append_assoc, arith, Option, Some, None, Result, Err, option_map, flat_map_more, take_more, Field, many_field, one_first, IsField, FieldFault, Broken, NoMemory}
use Rattle.std.specs.Prelude.{Bool, true, false, drop, flat_map, if◌then◌else◌, nat_lt}
use Rattle.std.proofs.lemmas.Bool.Decides.{nat_tests}
use Rattle.site_types.specs.Fields.{bytes_field}
use Rattle.std.proofs.lemmas.List.{append-nil, length-take-le}

-- these are read, and what is read behind them
abbrev pub behind_many : {A : Type 0} → List A → Option (List A × List ℕ) → Option (List A × List ℕ)
behind_many xs None = None
behind_many xs (Some (more, rest)) = Some (xs ++ more, rest)

one_behind : {A : Type 0} (xs : List A) (x : A) (o : Option (List A × List ℕ)) → behind_many xs (option_map (one_first x) o) ≡ behind_many (xs ++ x ∷ []) o
one_behind xs x None = refl
one_behind {A = A} xs x (Some (more, rest)) = ap (λ (l : List A). Some (l, rest)) (sym (append_assoc xs (x ∷ []) more))

nothing_yet : {A : Type 0} (o : Option (List A × List ℕ)) → o ≡ behind_many [] o
nothing_yet None = refl
nothing_yet (Some (more, rest)) = refl

-- before the first of so many
pub none_read : {A : Type 0} (field : Field A) (count : ℕ) (bytes : List ℕ) → many_field field count bytes ≡ behind_many [] (many_field field (count - 0) bytes)
none_read field count bytes = subst (λ (n : ℕ). many_field field count bytes ≡ behind_many [] (many_field field n bytes)) (omega arith) (nothing_yet (many_field field count bytes))

module _ {A : Type 0} (field : Field A) (count i : ℕ) (start rest : List ℕ) (xs : List A) (lt : i < count) (so_far : many_field field count start ≡ behind_many xs (many_field field (count - i) rest)) where
  one_of : many_field field count start ≡ behind_many xs (many_field field (suc (count - (i + 1))) rest)
  one_of = let left : count - i ≡ suc (count - (i + 1)) = omega (arith, lt) in rw left at so_far

  pub read_more : (x : A) (rest' : List ℕ) → field rest ≡ Some (x, rest') → many_field field count start ≡ behind_many (xs ++ x ∷ []) (many_field field (count - (i + 1)) rest')
  read_more x rest' first = one_of ∙ rw first (one_behind xs x (many_field field (count - (i + 1)) rest'))

  pub read_broken : (e : FieldFault) (rest' after : List ℕ) → IsField {A = A} (Err e) (field rest) rest' → IsField {A = List A} (Err e) (many_field field count start) after
  read_broken (Broken left) rest' after none = one_of ∙ rw none refl
  read_broken NoMemory rest' after none = tt

  pub broken_as : (e : FieldFault) (r : Result (List A) FieldFault) (rest' after : List ℕ) → IsField {A = A} (Err e) (field rest) rest' → r ≡ Err e → IsField {A = List A} r (many_field field count start) after
  broken_as e r rest' after none is = rw is (read_broken e rest' after none)

pub read_all : {A : Type 0} (field : Field A) (count i : ℕ) (start rest : List ℕ) (xs : List A) → count ≤ i → many_field field count start ≡ behind_many xs (many_field field (count - i) rest) → many_field field count start ≡ Some (xs, rest)
read_all field count i start rest xs le so_far =
    let none : count - i ≡ 0 = omega (arith, le) in
    so_far ∙ rw (none, append-nil xs) refl

-- one more is pushed
pub one_more : {A : Type 0} (spelled : A → List ℕ) (xs : List A) (k : ℕ) (x : A) (front : List ℕ) → k < length xs → x ≡ get_or xs k x → (front ++ flat_map spelled (take k xs)) ++ spelled x ≡ front ++ flat_map spelled (take (k + 1) xs)
one_more spelled xs k x front lt is = rw (take_more xs k x lt, ← is) (flat_map_more spelled front (take k xs) x)

pub pushed_more : {A : Type 0} (spelled : A → List ℕ) (out new front : List ℕ) (xs : List A) (k : ℕ) (x : A) → k < length xs → x ≡ get_or xs k x → out ≡ front ++ flat_map spelled (take k xs) → new ≡ out ++ spelled x → new ≡ front ++ flat_map spelled (take (k + 1) xs)
pushed_more spelled out new front xs k x lt is so_far adds = rw (← one_more spelled xs k x front lt is, ← so_far) adds

-- so many bytes were taken
pub taken_length : (count : ℕ) (bytes text rest : List ℕ) → bytes_field count bytes ≡ Some (text, rest) → length text ≡ count
taken_length count bytes text rest is = at (nat_lt (length bytes) count) refl is
  where
    at : (b : Bool) → nat_lt (length bytes) count ≡ b → if◌then◌else◌ {A = Option (List ℕ × List ℕ)} b None (Some (take count bytes, drop count bytes)) ≡ Some (text, rest) → length text ≡ count
    at true short taken = absurd (cc taken)
    at false long taken =
        let both : ◌≡◌ {A = List ℕ × List ℕ} (take count bytes, drop count bytes) (text, rest) = cc taken in
        let text_is : take count bytes ≡ text = ap (λ (p : List ℕ × List ℕ). p.0) both in
        let enough : count ≤ length bytes = grind (arith, nat_tests, long) in
        ap length (sym text_is) ∙ length-take-le count bytes enough

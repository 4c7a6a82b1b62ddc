-- What those that pass a test give, and the foremost of due schedules, of one more.
use Rattle.desk_rules.proofs.Common.{◌≡◌, ◌<◌, ◌+◌, ℕ, List, [], ◌∷◌, ◌++◌, length, take, get_or, Bool, true, false, cond, Option, Some, None, refl, sym, ◌∙◌, ap, arith, append-nil, Bor, filter, option_map, if◌then◌else◌, option_map_or, take_more, filter-append, Schedule, flat_map, mode_before, fore, foremost, Mode, Frequency, Calendar}
use Rattle.std.proofs.lemmas.Bool.Decides.{nat_tests}
use Rattle.std.proofs.lemmas.List.Concat.{flat_map-append}

-- those that pass a test, of one element more
filter_more : {X : Type 0} (P : X → Bool) (xs : List X) (i : ℕ) (x : X) → i < length xs → x ≡ get_or xs i x → filter P (take (i + 1) xs) ≡ filter P (take i xs) ++ filter P (x ∷ [])
filter_more {X} P xs i x lt is = ap (filter P) (take_more xs i x lt ∙ ap (λ (y : X). take i xs ++ y ∷ []) (sym is)) ∙ filter-append P (take i xs) (x ∷ [])

pub one_added : {X A : Type 0} (P : X → Bool) (f : X → List A) (xs : List X) (i : ℕ) (x : X) → i < length xs → x ≡ get_or xs i x
    → (before after : List A) → before ≡ flat_map f (filter P (take i xs)) → after ≡ before ++ (if P x then f x else []) → after ≡ flat_map f (filter P (take (i + 1) xs))
one_added {A = A} P f xs i x lt is before after before_is after_is =
    after_is
    ∙ ap (λ (l : List A). l ++ (if P x then f x else [])) before_is
    ∙ ap (λ (l : List A). flat_map f (filter P (take i xs)) ++ l) (sym (of_one (P x)))
    ∙ sym (ap (flat_map f) (filter_more P xs i x lt is) ∙ flat_map-append f (filter P (take i xs)) (filter P (x ∷ [])))
  where
    of_one : (b : Bool) → flat_map f (cond b (x ∷ []) []) ≡ (if b then f x else [])
    of_one true = append-nil (f x)
    of_one false = refl

-- Schedules.

before_both : (a b d : Mode) → mode_before a b ≡ true → mode_before b d ≡ true → mode_before a d ≡ true
before_both (Frequency l) (Frequency m) (Frequency n) first second = grind (arith, nat_tests)
before_both (Calendar x) (Frequency m) (Frequency n) first second = refl
before_both a b d first second = absurd (cc)

behind_both : (a b d : Mode) → mode_before a b ≡ false → mode_before b d ≡ false → mode_before a d ≡ false
behind_both (Frequency l) (Frequency m) (Frequency n) first second = grind (arith, nat_tests)
behind_both (Calendar x) b (Calendar z) first second = refl
behind_both (Frequency l) b (Calendar z) first second = refl
behind_both (Calendar x) (Calendar y) (Frequency n) first second = absurd (cc)
behind_both (Calendar x) (Frequency m) (Frequency n) first second = absurd (cc)
behind_both (Frequency l) (Calendar y) (Frequency n) first second = absurd (cc)

goes : (s t : Schedule) → mode_before t.mode s.mode ≡ true → fore s t ≡ t
goes s t before = λ j. if before j then t else s

stays : (s t : Schedule) → mode_before t.mode s.mode ≡ false → fore s t ≡ s
stays s t behind = λ j. if behind j then t else s

fore_assoc : (s t u : Schedule) → fore s (fore t u) ≡ fore (fore s t) u
fore_assoc s t u = at (mode_before u.mode t.mode) refl (mode_before t.mode s.mode) refl
  where
    at : (x : Bool) → mode_before u.mode t.mode ≡ x → (y : Bool) → mode_before t.mode s.mode ≡ y → fore s (if x then u else t) ≡ fore (if y then t else s) u
    at true second true first = goes s u (before_both u.mode t.mode s.mode second first) ∙ sym (goes t u second)
    at true second false first = refl
    at false second true first = goes s t first ∙ sym (stays t u second)
    at false second false first = stays s t first ∙ sym (stays s u (behind_both u.mode t.mode s.mode second first))

-- the foremost so far and the next
abbrev pub fore_next : Option Schedule → Schedule → Schedule
fore_next found next = option_map_or (λ s. fore s next) found next

foremost_push : (ss : List Schedule) (t : Schedule) → foremost (ss ++ t ∷ []) ≡ Some (fore_next (foremost ss) t)
foremost_push [] t = refl
foremost_push (s ∷ ss) t = ap (λ (o : Option Schedule). Some (option_map_or (fore s) o s)) (foremost_push ss t) ∙ ap (λ (u : Schedule). Some u) (at (foremost ss))
  where
    at : (o : Option Schedule) → fore s (fore_next o t) ≡ fore (option_map_or (fore s) o s) t
    at None = refl
    at (Some u) = fore_assoc s u t

read_next : (found : Option (Bor Schedule)) (next : Schedule) → option_map_or (λ s. fore s.now next) found next ≡ fore_next (option_map (λ s. s.now) found) next
read_next None next = refl
read_next (Some s) next = refl

module _ (P : Schedule → Bool) (ss : List Schedule) (i : ℕ) (s : Schedule) (lt : i < length ss) (is : s ≡ get_or ss i s) where
  pub foremost_due : (found : Option (Bor Schedule)) (after : Bor Schedule) → P s ≡ true → option_map (λ (t : Bor Schedule). t.now) found ≡ foremost (filter P (take i ss)) → after.now ≡ option_map_or (λ (t : Bor Schedule). fore t.now s) found s → Some after.now ≡ foremost (filter P (take (i + 1) ss))
  foremost_due found after due before is_after =
      ap (λ (t : Schedule). Some t) (is_after ∙ read_next found s ∙ ap (λ (o : Option Schedule). fore_next o s) before)
      ∙ sym (foremost_push (filter P (take i ss)) s)
      ∙ (λ j. foremost (filter P (take i ss) ++ cond (sym due j) (s ∷ []) []))
      ∙ ap foremost (sym (filter_more P ss i s lt is))

  pub foremost_passed : (found : Option Schedule) → P s ≡ false → found ≡ foremost (filter P (take i ss)) → found ≡ foremost (filter P (take (i + 1) ss))
  foremost_passed found other before =
      before
      ∙ ap foremost (sym (append-nil (filter P (take i ss))))
      ∙ (λ j. foremost (filter P (take i ss) ++ cond (sym other j) (s ∷ []) []))
      ∙ ap foremost (sym (filter_more P ss i s lt is))

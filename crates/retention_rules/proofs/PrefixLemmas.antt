-- The shortest prefix of a unit's candidates that is enough, one candidate after another.
use Rattle.std.proofs.Common.{◌≡◌, ◌<◌, ◌+◌, ◌-◌, ℕ, List, [], ◌∷◌, ◌++◌, map, drop, length, get_or, append_assoc, Bool, true, false, cond, refl, sym, ◌∙◌, ap, arith, Option, Some, None}
use Rattle.std.specs.Prelude.{filter, find, option_map, unwrap_or}
use Rattle.std.proofs.lemmas.List.{drop_more}
use Rattle.std.proofs.lemmas.List.Sums.{sum_by-cons}
use Rattle.site_types.specs.declared.unit.Unit.{Unit as StorageUnit}
use Rattle.retention_rules.specs.Marks.{is_low_met}
use Rattle.retention_rules.specs.Cleanup.{Kept, is_on, bytes_on_unit, prefixes, enough_of}

find_map : {A B : Type 0} (f : B → Bool) (g : A → B) (xs : List A) → find f (map g xs) ≡ option_map g (find (λ x. f (g x)) xs)
find_map f g [] = refl
find_map f g (x ∷ xs) = at (f (g x)) (find_map f g xs)
  where
    at : (b : Bool) → find f (map g xs) ≡ option_map g (find (λ x. f (g x)) xs) → cond b (Some (g x)) (find f (map g xs)) ≡ option_map g (cond b (Some x) (find (λ x. f (g x)) xs))
    at true later = refl
    at false later = later

module _ (unit : StorageUnit) where
  abbrev size_on : Kept → ℕ
  size_on k = cond (is_on unit.name k) k.image.length 0

  abbrev meets : ℕ → List Kept → Bool
  meets used gone = is_low_met (used - bytes_on_unit unit.name gone) unit.capacity unit.low

  meets_now : (used : ℕ) → meets used [] ≡ is_low_met used unit.capacity unit.low
  meets_now used = ap (λ (n : ℕ). is_low_met n unit.capacity unit.low) (less_none used)
    where
      less_none : (n : ℕ) → n - 0 ≡ n
      less_none n = omega arith

  meets_later : (used : ℕ) (k : Kept) (gone : List Kept) → is_on unit.name k ≡ true → meets used (k ∷ gone) ≡ meets (used - k.image.length) gone
  meets_later used k gone on =
      let size : size_on k ≡ k.image.length = λ j. cond (on j) k.image.length 0 in
      let sums : bytes_on_unit unit.name (k ∷ gone) ≡ k.image.length + bytes_on_unit unit.name gone =
      sum_by-cons size_on k gone ∙ ap (λ (n : ℕ). n + bytes_on_unit unit.name gone) size in
      ap (λ (n : ℕ). is_low_met (used - n) unit.capacity unit.low) sums
      ∙ ap (λ (n : ℕ). is_low_met n unit.capacity unit.low) (less_both used k.image.length (bytes_on_unit unit.name gone))
    where
      less_both : (n a b : ℕ) → n - (a + b) ≡ n - a - b
      less_both n a b = omega arith

  enough_more : (used : ℕ) (k : Kept) (ks : List Kept) → is_on unit.name k ≡ true → is_low_met used unit.capacity unit.low ≡ false → enough_of unit used (k ∷ ks) ≡ k ∷ enough_of unit (used - k.image.length) ks
  enough_more used k ks on is =
      (λ j. unwrap_or (cond ((meets_now used ∙ is) j) (Some []) (find (meets used) (map (λ (p : List Kept). k ∷ p) (prefixes ks)))) (k ∷ ks))
      ∙ ap (λ (o : Option (List Kept)). unwrap_or o (k ∷ ks)) (find_map (meets used) (λ (p : List Kept). k ∷ p) (prefixes ks))
      ∙ (λ j. unwrap_or (option_map (λ (p : List Kept). k ∷ p) (find (λ (p : List Kept). meets_later used k p on j) (prefixes ks))) (k ∷ ks))
      ∙ behind (find (meets (used - k.image.length)) (prefixes ks))
    where
      behind : (o : Option (List Kept)) → unwrap_or (option_map (λ (p : List Kept). k ∷ p) o) (k ∷ ks) ≡ k ∷ unwrap_or o ks
      behind None = refl
      behind (Some p) = refl

  module _ (candidates : List Kept) (i : ℕ) (used : ℕ) (before whole : List Kept) (so_far : before ++ enough_of unit used (filter (is_on unit.name) (drop i candidates)) ≡ whole) where
    abbrev later : List Kept
    later = filter (is_on unit.name) (drop (i + 1) candidates)

    here : (k : Kept) (b : Bool) → i < length candidates → k ≡ get_or candidates i k → is_on unit.name k ≡ b → filter (is_on unit.name) (drop i candidates) ≡ cond b (k ∷ later) later
    here k b lt is test =
        ap (filter (is_on unit.name)) (drop_more candidates i k lt ∙ ap (λ (m : Kept). m ∷ drop (i + 1) candidates) (sym is))
        ∙ (λ j. cond (test j) (k ∷ later) later)

    pub candidate_pushed : (k : Kept) (after : List Kept) (left : ℕ) → i < length candidates → k ≡ get_or candidates i k → is_on unit.name k ≡ true → is_low_met used unit.capacity unit.low ≡ false → after ≡ before ++ k ∷ [] → left ≡ used - k.image.length → after ++ enough_of unit left later ≡ whole
    candidate_pushed k after left lt is on unmet pushed less =
        (λ j. pushed j ++ enough_of unit (less j) later)
        ∙ append_assoc before (k ∷ []) (enough_of unit (used - k.image.length) later)
        ∙ ap (λ (l : List Kept). before ++ l) (sym (enough_more used k later on unmet) ∙ ap (enough_of unit used) (sym (here k true lt is on)))
        ∙ so_far

    pub candidate_passed : (k : Kept) → i < length candidates → k ≡ get_or candidates i k → is_on unit.name k ≡ false → before ++ enough_of unit used later ≡ whole
    candidate_passed k lt is off = ap (λ (l : List Kept). before ++ enough_of unit used l) (sym (here k false lt is off)) ∙ so_far

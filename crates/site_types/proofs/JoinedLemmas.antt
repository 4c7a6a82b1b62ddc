-- Values that are read one by one from a text in which plus signs join them.
use Rattle.site_types.proofs.Common.{◌≡◌, ◌<◌, ◌+◌, ℕ, List, [], ◌∷◌, length, get_or, take, map, zero, suc, ◌++◌, refl, sym, ◌∙◌, ap, arith, option_and_then, map_more, each_of}
use Rattle.std.specs.Prelude.{Some, None, Option, option_map}

abbrev behind : {A : Type 0} → Option A → Option (List A) → Option (List A)
behind first rest = option_and_then (λ value. option_map (λ values. value ∷ values) rest) first

pushed : {A : Type 0} (first : Option A) (rest longer : Option (List A)) (values : List A) (value : A) → ((l : List A) → rest ≡ Some l → longer ≡ Some (l ++ value ∷ [])) → behind first rest ≡ Some values → behind first longer ≡ Some (values ++ value ∷ [])
pushed None rest longer values value more is = absurd (cc is)
pushed (Some x) None longer values value more is = absurd (cc is)
pushed {A} (Some x) (Some l) longer values value more is = ap (λ (o : Option (List A)). option_map (λ (ys : List A). x ∷ ys) o) (more l refl) ∙ ap (λ (o : Option (List A)). option_map (λ (ys : List A). ys ++ value ∷ []) o) is

-- one text more that spells a value
each_of-push : {A : Type 0} (spelled : List ℕ → Option A) (texts : List (List ℕ)) (text : List ℕ) (values : List A) (value : A) → each_of spelled texts ≡ Some values → spelled text ≡ Some value → each_of spelled (texts ++ text ∷ []) ≡ Some (values ++ value ∷ [])
each_of-push {A} spelled [] text values value is one = ap (λ (o : Option A). behind o (Some [])) one ∙ ap (λ (o : Option (List A)). option_map (λ (ys : List A). ys ++ value ∷ []) o) is
each_of-push spelled (t ∷ ts) text values value is one = pushed (spelled t) (each_of spelled ts) (each_of spelled (ts ++ text ∷ [])) values value (λ l rest. each_of-push spelled ts text l value rest one) is

pub one_read : {A B : Type 0} (spelled : List ℕ → Option A) (now : B → List ℕ) (texts : List B) (i : ℕ) (d : B) (values : List A) (value : A) → i < length texts → each_of spelled (map now (take i texts)) ≡ Some values → spelled (now (get_or texts i d)) ≡ Some value → each_of spelled (map now (take (i + 1) texts)) ≡ Some (values ++ value ∷ [])
one_read spelled now texts i d values value lt is one = ap (each_of spelled) (map_more now texts i d lt) ∙ each_of-push spelled (map now (take i texts)) (now (get_or texts i d)) values value is one

none_behind : {A : Type 0} (first : Option A) (rest : Option (List A)) → rest ≡ None → behind first rest ≡ None
none_behind None rest none = refl
none_behind {A} (Some x) rest none = ap (λ (o : Option (List A)). option_map (λ (ys : List A). x ∷ ys) o) none

-- one of them that spells none
pub one_refused : {A B : Type 0} (spelled : List ℕ → Option A) (now : B → List ℕ) (texts : List B) (k : ℕ) (d : B) → k < length texts → spelled (now (get_or texts k d)) ≡ None → None ≡ each_of spelled (map now texts)
one_refused spelled now [] k d lt none = absurd (omega (arith, lt))
one_refused {A} spelled now (t ∷ ts) zero d lt none = sym (ap (λ (o : Option A). behind o (each_of spelled (map now ts))) none)
one_refused spelled now (t ∷ ts) (suc k) d lt none = sym (none_behind (spelled (now t)) (each_of spelled (map now ts)) (sym (one_refused spelled now ts k d (omega (arith, lt)) none)))

-- What an image took of a path, and what a chain did.
use Rattle.image_kinds.proofs.Common.{◌≡◌, ℕ, true, false, List, [], ◌∷◌, ◌++◌, Some, None, refl, sym, ap, subst, ◌∙◌, map, bytes_eq, is_lt, and_parts, and_from, cond-true, cond-false, false_from_ne_true, both_ways, nat_list_cmp_total, tied_itself, Item, Taken, Kept, ◌-◌, ◌<◌, length, get_or, take, drop, Ordering, arith, nat_cmp, Less, Equal, Greater, take-append-drop, take_all, is_path, is_before, follows, rise_behind, path_of, taken_of, taken_in}
use Rattle.std.proofs.lemmas.Slice.Eq.{bytes_eq-Decides}
use Rattle.image_kinds.proofs.Orders.{before_before, rise_sooner}
use Rattle.std.specs.Cmp.Lexicographic.{slice_cmp}
use Rattle.std.specs.Ordering.{ordering_reverse}
use Rattle.std.specs.FinMap.{slice_cmp-IsAntisymmetric, nat_cmp-IsAntisymmetric}

abbrev pub paths : List Item → List (List ℕ)
paths items = map path_of items

-- no path stands before itself
before_itself : (a : List ℕ) → is_before a a ≡ false
before_itself a = ap is_lt (tied_itself nat_list_cmp_total a)

apart : (a b : List ℕ) → is_before a b ≡ true → bytes_eq a b ≡ false
apart a b before = false_from_ne_true (bytes_eq a b) (λ same. both_ways (is_before a b) (subst (λ (w : List ℕ). is_before a w ≡ false) ((bytes_eq-Decides a b).0 same) (before_itself a)) before)

apart_back : (a b : List ℕ) → is_before a b ≡ true → bytes_eq b a ≡ false
apart_back a b before = false_from_ne_true (bytes_eq b a) (λ same. both_ways (is_before a b) (subst (λ (w : List ℕ). is_before a w ≡ false) (sym ((bytes_eq-Decides b a).0 same)) (before_itself a)) before)

-- the first of items that rise follows the last path before them
first_follows : (last : List ℕ) (x : Item) (xs : List Item) → rise_behind last (paths (x ∷ xs)) ≡ true → (is_before last (path_of x) ≡ true) × (rise_behind (path_of x) (paths xs) ≡ true)
first_follows last x xs rising =
    let parts = and_parts (follows last (path_of x)) (rise_behind (path_of x) (paths xs)) rising in
    ((and_parts (is_path (path_of x)) (is_before last (path_of x)) parts.0).1, parts.1)

-- an item of another path is passed over
pass : (path : List ℕ) (x : Item) (xs : List Item) → bytes_eq (path_of x) path ≡ false → taken_in path (x ∷ xs) ≡ taken_in path xs
pass path (Taken e) xs other = cond-false (bytes_eq e.path path) (Some e) (taken_in path xs) other
pass path (Kept kept) xs other = refl

-- no item behind a path has it
pub none_behind : (path : List ℕ) (items : List Item) → rise_behind path (paths items) ≡ true → taken_in path items ≡ None
none_behind path [] rising = refl
none_behind path (x ∷ xs) rising =
    let first = first_follows path x xs rising in
    pass path x xs (apart_back path (path_of x) first.0) ∙ none_behind path xs (rise_sooner path (path_of x) (paths xs) first.0 first.1)

-- each item in front of another has a path before it
pub front_before : (last : List ℕ) (front : List Item) (x : Item) (rest : List Item) → rise_behind last (paths (front ++ x ∷ rest)) ≡ true → is_before last (path_of x) ≡ true
front_before last [] x rest rising = (first_follows last x rest rising).0
front_before last (y ∷ front) x rest rising =
    let first = first_follows last y (front ++ x ∷ rest) rising in
    before_before last (path_of y) (path_of x) first.0 (front_before (path_of y) front x rest first.1)

-- the items in front of one whose path isn't behind a path are passed over
pub pass_front : (path last : List ℕ) (front : List Item) (x : Item) (rest : List Item) → rise_behind last (paths (front ++ x ∷ rest)) ≡ true → ((a : List ℕ) → is_before a (path_of x) ≡ true → is_before a path ≡ true) → taken_in path (front ++ x ∷ rest) ≡ taken_in path (x ∷ rest)
pass_front path last [] x rest rising sooner = refl
pass_front path last (y ∷ front) x rest rising sooner =
    let first = first_follows last y (front ++ x ∷ rest) rising in
    pass path y (front ++ x ∷ rest) (apart (path_of y) path (sooner (path_of y) (front_before (path_of y) front x rest first.1)))
    ∙ pass_front path (path_of y) front x rest first.1 sooner

pub rises_front : (last : List ℕ) (front rest : List Item) → rise_behind last (paths (front ++ rest)) ≡ true → rise_behind last (paths front) ≡ true
rises_front last [] rest rising = refl
rises_front last (y ∷ front) rest rising =
    let parts = and_parts (follows last (path_of y)) (rise_behind (path_of y) (paths (front ++ rest))) rising in
    and_from (follows last (path_of y)) (rise_behind (path_of y) (paths front)) parts.0 (rises_front (path_of y) front rest parts.1)

pub rises_rest : (last : List ℕ) (front : List Item) (x : Item) (rest : List Item) → rise_behind last (paths (front ++ x ∷ rest)) ≡ true → rise_behind (path_of x) (paths rest) ≡ true
rises_rest last [] x rest rising = (first_follows last x rest rising).1
rises_rest last (y ∷ front) x rest rising = rises_rest (path_of y) front x rest (first_follows last y (front ++ x ∷ rest) rising).1

-- ---- halving items that rise

pub taken_right : (path last : List ℕ) (front : List Item) (x : Item) (rest : List Item) → rise_behind last (paths (front ++ x ∷ rest)) ≡ true → is_before (path_of x) path ≡ true → taken_in path (front ++ x ∷ rest) ≡ taken_in path rest
taken_right path last front x rest rising before =
    pass_front path last front x rest rising (λ a sooner. before_before a (path_of x) path sooner before) ∙ pass path x rest (apart (path_of x) path before)

front_none : (path : List ℕ) (front rest : List Item) → taken_in path rest ≡ None → taken_in path (front ++ rest) ≡ taken_in path front
front_none path [] rest none = none
front_none path (Taken e ∷ front) rest none = rw (front_none path front rest none) refl
front_none path (Kept kept ∷ front) rest none = front_none path front rest none

pub taken_left : (path last : List ℕ) (front : List Item) (x : Item) (rest : List Item) → rise_behind last (paths (front ++ x ∷ rest)) ≡ true → is_before path (path_of x) ≡ true → taken_in path (front ++ x ∷ rest) ≡ taken_in path front
taken_left path last front x rest rising before =
    front_none path front (x ∷ rest) (pass path x rest (apart_back path (path_of x) before) ∙ none_behind path rest (rise_sooner path (path_of x) (paths rest) before (rises_rest last front x rest rising)))

taken_first : (x : Item) (rest : List Item) → rise_behind (path_of x) (paths rest) ≡ true → taken_in (path_of x) (x ∷ rest) ≡ taken_of x
taken_first (Taken e) rest rising = cond-true (bytes_eq e.path e.path) (Some e) (taken_in e.path rest) ((bytes_eq-Decides e.path e.path).1 refl)
taken_first (Kept path) rest rising = none_behind path rest rising

-- an item alone has its path
pub taken_here : (last : List ℕ) (front : List Item) (x : Item) (rest : List Item) → rise_behind last (paths (front ++ x ∷ rest)) ≡ true → taken_in (path_of x) (front ++ x ∷ rest) ≡ taken_of x
taken_here last front x rest rising = pass_front (path_of x) last front x rest rising (λ a sooner. sooner) ∙ taken_first x rest (rises_rest last front x rest rising)

-- ---- a search of items that rise, half by half

-- a part of items that rises and has all that they took of a path
pub record Narrows (path : List ℕ) (items part : List Item) : Type 0 where
  pub same : taken_in path part ≡ taken_in path items
  pub last : List ℕ
  pub rising : rise_behind last (paths part) ≡ true

pub narrows_right : (path : List ℕ) (items part front : List Item) (x : Item) (back : List Item) → Narrows path items part → part ≡ front ++ x ∷ back → slice_cmp nat_cmp (path_of x) path ≡ Less → Narrows path items back
narrows_right path items part front x back has parts less =
    let rising = rw parts at has.rising in
    record {
      same = sym (ap (taken_in path) parts ∙ taken_right path has.last front x back rising (ap is_lt less)) ∙ has.same;
      last = path_of x;
      rising = rises_rest has.last front x back rising;
    }

pub narrows_left : (path : List ℕ) (items part front : List Item) (x : Item) (back : List Item) → Narrows path items part → part ≡ front ++ x ∷ back → slice_cmp nat_cmp (path_of x) path ≡ Greater → Narrows path items front
narrows_left path items part front x back has parts greater =
    let rising = rw parts at has.rising in
    record {
      same = sym (ap (taken_in path) parts ∙ taken_left path has.last front x back rising (ap is_lt (nat_list_cmp_total.antisymm path (path_of x) ∙ ap ordering_reverse greater))) ∙ has.same;
      last = has.last;
      rising = rises_front has.last front (x ∷ back) rising;
    }

pub narrows_here : (path : List ℕ) (items part front : List Item) (x : Item) (back : List Item) → Narrows path items part → part ≡ front ++ x ∷ back → slice_cmp nat_cmp (path_of x) path ≡ Equal → taken_of x ≡ taken_in path items
narrows_here path items part front x back has parts equal =
    rw (← has.same, ← slice_cmp-IsAntisymmetric nat_cmp-IsAntisymmetric (path_of x) path equal, parts) (sym (taken_here has.last front x back (rw parts at has.rising)))

-- the two halves, and the item between them
pub halved : (part : List Item) (m : ℕ) (front tail : List Item) (x : Item) → front ≡ take m part → tail ≡ drop m part → 0 < length tail → x ≡ get_or tail 0 x → part ≡ front ++ x ∷ take (length tail - 1) (drop 1 tail)
halved part m front [] x front_is tail_is some is = absurd (omega arith)
halved part m front (t ∷ ts) x front_is tail_is some is =
    let rest : take (length (t ∷ ts) - 1) ts ≡ ts = take_all (length (t ∷ ts) - 1) ts (omega arith) in
    rw (rest, is, front_is, tail_is) (sym (take-append-drop m part))

pub compared : (path other given : List ℕ) (o : Ordering) → given ≡ path → o ≡ slice_cmp nat_cmp given other → slice_cmp nat_cmp path other ≡ o
compared path other given o is answer = rw (← is) (sym answer)

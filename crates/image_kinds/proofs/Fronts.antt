-- Bytes begin with one list of whole items, and break in one place.
use Rattle.image_kinds.proofs.Common.{get_or, ◌≡◌, ℕ, suc, ◌-◌, ◌<◌, ◌≤◌, true, false, List, [], ◌∷◌, ◌++◌, length, Option, Some, None, Ok, Err, refl, sym, ap, ◌∙◌, append_assoc, arith, map, nat_eq, and_parts, and_from, both_ways, length-append, append_cancel_left, flat_map_more, w16, to_be_bytes, Item, Taken, Kept, Format, Result, AllByRecursion, starts_with, follows, rise_behind, path_of, spelled_item, spelled, letters_of, IsItem, AreItems, last_behind, last_path, PathBreaks, path_length_ends, wrong_path_length, path_ends, wrong_path, Breaks, no_tag, wrong_tag, behind_end, in_path, in_file, IsBad, in_letters, behind_items, Read, item_at, IsRead, FieldFault, Broken, NoMemory, MatchResult-at_ok, MatchResult-at_err}
use Rattle.std.specs.List.{flat_map}
use Rattle.image_kinds.proofs.Reading.{IsBytes, TakesItem, item_law}
use Rattle.image_kinds.proofs.Again.{item_again, item_stops}
use Rattle.image_kinds.specs.declared.format.Format.TheVariants as format
use Rattle.std.proofs.lemmas.Option.{none-some, same_Some}
use Rattle.image_kinds.specs.Decoding.{IsFault}

-- no whole item stands behind the others
pub data Halts (f : Format) (last rest : List ℕ) : Type 0 where
  ended : rest ≡ 0 ∷ [] → Halts f last rest
  broken : (left : ℕ) → item_at f last rest ≡ Err left → Halts f last rest

one_read : (o : Read (Option Item)) (p q : Option Item × List ℕ) → o ≡ Ok p → o ≡ Ok q → (p.0 ≡ q.0) × (p.1 ≡ q.1)
one_read o p q one other =
    let same : p ≡ q = cc in
    (ap (λ (r : Option Item × List ℕ). r.0) same, ap (λ (r : Option Item × List ℕ). r.1) same)

halts : (f : Format) (last rest : List ℕ) (i : Item) (more : List ℕ) → Halts f last rest → item_at f last rest ≡ Ok (Some i, more) → ⊥
halts f last rest i more (ended is) read =
    none-some i (one_read (item_at f last rest) (None, []) (Some i, more) (ap (item_at f last) is) read).0
halts f last rest i more (broken left is) read = absurd cc

abbrev pub fronts : List Item → List ℕ
fronts items = flat_map spelled_item items

pub first_read : (f : Format) (last : List ℕ) (x : Item) (xs : List Item) (rest bytes : List ℕ) → rise_behind last (map path_of (x ∷ xs)) ≡ true → AllByRecursion (IsItem f) (x ∷ xs) → bytes ≡ fronts (x ∷ xs) ++ rest → item_at f last bytes ≡ Ok (Some x, fronts xs ++ rest)
first_read f last x xs rest bytes rising each is =
    ap (item_at f last) (is ∙ append_assoc (spelled_item x) (fronts xs) rest) ∙ item_again f last x (fronts xs ++ rest) (and_parts (follows last (path_of x)) (rise_behind (path_of x) (map path_of xs)) rising).0 each.0

pub record OneFront (xs ys : List Item) (r s : List ℕ) : Type 0 where
  pub items : xs ≡ ys
  pub rest : r ≡ s

pub one_front : (f : Format) (last : List ℕ) (xs ys : List Item) (r s : List ℕ) → rise_behind last (map path_of xs) ≡ true → AllByRecursion (IsItem f) xs → rise_behind last (map path_of ys) ≡ true → AllByRecursion (IsItem f) ys → Halts f (last_behind last xs) r
    → Halts f (last_behind last ys) s → fronts xs ++ r ≡ fronts ys ++ s → OneFront xs ys r s
one_front f last [] [] r s rx ex ry ey hx hy e = record { items = refl; rest = e }
one_front f last [] (y ∷ ys) r s rx ex ry ey hx hy e = absurd (halts f last r y (fronts ys ++ s) hx (first_read f last y ys s r ry ey e))
one_front f last (x ∷ xs) [] r s rx ex ry ey hx hy e = absurd (halts f last s x (fronts xs ++ r) hy (first_read f last x xs r s rx ex (sym e)))
one_front f last (x ∷ xs) (y ∷ ys) r s rx ex ry ey hx hy e =
    let bytes = fronts (x ∷ xs) ++ r in
    let one : item_at f last bytes ≡ Ok (Some x, fronts xs ++ r) = first_read f last x xs r bytes rx ex refl in
    let other : item_at f last bytes ≡ Ok (Some y, fronts ys ++ s) = first_read f last y ys s bytes ry ey e in
    let both = one_read (item_at f last bytes) (Some x, fronts xs ++ r) (Some y, fronts ys ++ s) one other in
    let same : x ≡ y = same_Some x y both.0 in
    let risen = (and_parts (follows last (path_of y)) (rise_behind (path_of y) (map path_of ys)) ry).1 in
    let more = one_front f (path_of x) xs ys r s (and_parts (follows last (path_of x)) (rise_behind (path_of x) (map path_of xs)) rx).1 ex.1 (rw same risen) ey.1 hx (rw same hy) both.1 in
    record { items = rw (same, more.items) refl; rest = more.rest }

starts_so : (f : Format) (more : List ℕ) → starts_with nat_eq (letters_of f ++ more) (letters_of f) ≡ true
starts_so format.Stream more = refl
starts_so format.Image more = refl

-- ---- the three laws

pub one_value : (f : Format) (xs ys : List Item) → AreItems f xs → AreItems f ys → spelled f xs ≡ spelled f ys → xs ≡ ys
one_value f xs ys hx hy e = (one_front f [] xs ys (0 ∷ []) (0 ∷ []) hx.rising hx.each hy.rising hy.each (ended refl) (ended refl) (append_cancel_left (letters_of f) (fronts xs ++ 0 ∷ []) (fronts ys ++ 0 ∷ []) e)).items

not_in_letters : (f : Format) (bytes more : List ℕ) → starts_with nat_eq bytes (letters_of f) ≡ false → bytes ≡ letters_of f ++ more → ⊥
not_in_letters f bytes more wrong is = both_ways (starts_with nat_eq bytes (letters_of f)) wrong (ap (λ (b : List ℕ). starts_with nat_eq b (letters_of f)) is ∙ starts_so f more)

pub spelled_is_good : (f : Format) (bytes : List ℕ) (offset : ℕ) (xs : List Item) → IsBad f bytes offset → AreItems f xs → bytes ≡ spelled f xs → ⊥
spelled_is_good f bytes offset xs (in_letters wrong is) hx e = not_in_letters f bytes (fronts xs ++ 0 ∷ []) wrong e
spelled_is_good f bytes offset xs (behind_items ys rest left hy parts breaks is) hx e =
    let stopped = item_stops f (last_path ys) rest left breaks in
    let same = one_front f [] ys xs rest (0 ∷ []) hy.rising hy.each hx.rising hx.each (broken left stopped) (ended refl) (append_cancel_left (letters_of f) (fronts ys ++ rest) (fronts xs ++ 0 ∷ []) (sym parts ∙ e)) in
    let none : item_at f (last_path ys) rest ≡ Ok (None, []) = ap (item_at f (last_path ys)) same.rest in
    absurd cc

pub one_offset : (f : Format) (bytes : List ℕ) (n m : ℕ) → IsBad f bytes n → IsBad f bytes m → n ≡ m
one_offset f bytes n m (in_letters wrong is) (in_letters also there) = is ∙ sym there
one_offset f bytes n m (in_letters wrong is) (behind_items ys s right hy there stops at) = absurd (not_in_letters f bytes (fronts ys ++ s) wrong there)
one_offset f bytes n m (behind_items xs r left hx parts breaks is) (in_letters wrong there) = absurd (not_in_letters f bytes (fronts xs ++ r) wrong parts)
one_offset f bytes n m (behind_items xs r left hx parts breaks is) (behind_items ys s right hy there stops at) =
    let one = item_stops f (last_path xs) r left breaks in
    let other = item_stops f (last_path ys) s right stops in
    let same = one_front f [] xs ys r s hx.rising hx.each hy.rising hy.each (broken left one) (broken right other) (append_cancel_left (letters_of f) (fronts xs ++ r) (fronts ys ++ s) (sym parts ∙ there)) in
    let here : item_at f (last_path xs) r ≡ Err right = rw (same.items, same.rest) other in
    let lefts : left ≡ right = cc in
    omega (arith, is, at)

-- ---- reading item by item

-- the items so far, and what is still to be read
pub record HasRead (f : Format) (bytes : List ℕ) (items : List Item) (rest : List ℕ) : Type 0 where
  pub parts : bytes ≡ letters_of f ++ (fronts items ++ rest)
  pub items_are : AreItems f items
  pub rest_fits : IsBytes rest

pub rise_more : (last : List ℕ) (xs : List Item) (x : Item) → rise_behind last (map path_of xs) ≡ true → follows (last_behind last xs) (path_of x) ≡ true → rise_behind last (map path_of (xs ++ x ∷ [])) ≡ true
rise_more last [] x rising ok = and_from (follows last (path_of x)) true ok refl
rise_more last (y ∷ ys) x rising ok =
    let parts = and_parts (follows last (path_of y)) (rise_behind (path_of y) (map path_of ys)) rising in
    and_from (follows last (path_of y)) (rise_behind (path_of y) (map path_of (ys ++ x ∷ []))) parts.0 (rise_more (path_of y) ys x parts.1 ok)

each_more : (f : Format) (xs : List Item) (x : Item) → AllByRecursion (IsItem f) xs → IsItem f x → AllByRecursion (IsItem f) (xs ++ x ∷ [])
each_more f [] x each fits = (fits, tt)
each_more f (y ∷ ys) x each fits = (each.0, each_more f ys x each.1 fits)

pub has_more : (f : Format) (bytes : List ℕ) (items : List Item) (rest : List ℕ) (i : Item) (after : List ℕ) → HasRead f bytes items rest → item_at f (last_path items) rest ≡ Ok (Some i, after) → HasRead f bytes (items ++ i ∷ []) after
has_more f bytes items rest i after has read =
    let took = MatchResult-at_ok (TakesItem f (last_path items) rest) (Breaks f (last_path items) rest) (Some i, after) read (item_law f (last_path items) rest has.rest_fits) in
    record {
      parts = rw (← flat_map_more spelled_item [] items i, append_assoc (fronts items) (spelled_item i) after, ← took.0.parts) has.parts;
      items_are = record { rising = rise_more [] items i has.items_are.rising took.1; each = each_more f items i has.items_are.each took.2 };
      rest_fits = took.0.rest_fits;
    }

-- an item takes at least its tag
pub has_tag : (i : Item) → 0 < length (spelled_item i)
has_tag (Taken e) = omega arith
has_tag (Kept path) = omega arith

pub falls : (f : Format) (last rest : List ℕ) (i : Item) (after : List ℕ) → IsBytes rest → item_at f last rest ≡ Ok (Some i, after) → length after < length rest
falls f last rest i after fits read =
    let took = MatchResult-at_ok (TakesItem f last rest) (Breaks f last rest) (Some i, after) read (item_law f last rest fits) in
    omega (arith, ap (λ (w : List ℕ). length w) took.0.parts, length-append (spelled_item i) after, has_tag i)

-- ---- a field that breaks its rule

path_left : (last bytes : List ℕ) (left : ℕ) → PathBreaks last bytes left → left ≤ length bytes
path_left last bytes left (path_length_ends short none) = omega arith
path_left last bytes left (wrong_path_length count more small parts wrong is) = omega arith
path_left last bytes left (path_ends count more ok parts short none) = omega arith
path_left last bytes left (wrong_path path more ok parts wrong is) =
    omega (arith, ap (λ (w : List ℕ). length w) parts, length-append (to_be_bytes w16 (length path) ++ path) more, length-append (to_be_bytes w16 (length path)) path, length-append path more)

pub item_left : (f : Format) (last bytes : List ℕ) (left : ℕ) → Breaks f last bytes left → left ≤ length bytes
item_left f last bytes left (no_tag is none) = omega arith
item_left f last bytes left (wrong_tag tag more parts wrong is) = omega arith
item_left f last bytes left (behind_end byte more parts is) = omega (arith, ap (λ (w : List ℕ). length w) parts)
item_left f last bytes left (in_path tag more parts names breaks) = omega (arith, ap (λ (w : List ℕ). length w) parts, path_left last more left breaks)
item_left f last bytes left (in_file path more parts ok ends none) = omega arith

abbrev failed : {A : Type 0} → FieldFault → Result A FieldFault
failed e = Err e

pub item_fault : (f : Format) (bytes : List ℕ) (items : List Item) (rest : List ℕ) (e : FieldFault) (after : List ℕ) → HasRead f bytes items rest → IsRead (failed {A = Option Item} e) (item_at f (last_path items) rest) after → IsFault f bytes e
item_fault f bytes items rest (Broken left) after has read =
    let breaks = MatchResult-at_err (TakesItem f (last_path items) rest) (Breaks f (last_path items) rest) left read (item_law f (last_path items) rest has.rest_fits) in
    let few : left ≤ length rest = item_left f (last_path items) rest left breaks in
    let fits : left ≤ length bytes = omega (arith, ap (λ (w : List ℕ). length w) has.parts, length-append (letters_of f) (fronts items ++ rest), length-append (fronts items) rest, few) in
    (fits, behind_items items rest left has.items_are has.parts breaks (omega (arith, fits)))
item_fault f bytes items rest NoMemory after has read = tt

-- ---- the last item

pub last_at : (last : List ℕ) (xs : List Item) (x d : Item) → 0 < length xs → x ≡ get_or xs (length xs - 1) d → path_of x ≡ last_behind last xs
last_at last [] x d some is = absurd (omega arith)
last_at last (y ∷ []) x d some is = ap path_of is
last_at last (y ∷ z ∷ zs) x d some is =
    let at : length (y ∷ z ∷ zs) - 1 ≡ suc (length (z ∷ zs) - 1) = omega arith in
    last_at (path_of y) (z ∷ zs) x d (omega arith) (is ∙ ap (λ (k : ℕ). get_or (y ∷ z ∷ zs) k d) at)

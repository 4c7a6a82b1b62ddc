-- The tree of a chain, image by image.
use Rattle.image_kinds.proofs.Common.{◌≡◌, ℕ, ◌+◌, ◌-◌, ◌<◌, ◌≤◌, true, List, [], ◌∷◌, ◌++◌, length, get_or, take, Option, Some, None, refl, sym, ap, subst, ◌∙◌, append_assoc, arith, inl, inr, map, bytes_eq, and_parts, and_from, cases_Bool, Entry, Item, Taken, Kept, AllByRecursion, filter_map, cons_option, take_more, is_path, is_before, follows, rise_behind, path_of, taken_of, IsEntry, IsItem, IsStream, IsImage, taken_in, last_taken, last_image, entry_behind, tree}
use Rattle.std.proofs.lemmas.List.{take_all}
use Rattle.std.proofs.lemmas.Slice.Eq.{bytes_eq-Decides}
use Rattle.image_kinds.proofs.Orders.{rise_sooner, Rises}
use Rattle.image_kinds.proofs.Trees.{paths, taken_here}
use Rattle.image_kinds.specs.declared.format.Format.TheVariants as format
use Rattle.std.specs.Option.{option_or}
use Rattle.std.proofs.lemmas.Option.{none-some, same_Some}
use Rattle.std.proofs.lemmas.List.Elements.{filter_map-append}

-- one more image at the end
pub last_taken_more : (path : List ℕ) (images : List (List Item)) (image : List Item) → last_taken path (images ++ image ∷ []) ≡ option_or (taken_in path image) (last_taken path images)
last_taken_more path [] image = elim (taken_in path image) as (λ o. option_or None o ≡ option_or o None) [ None ↦ refl | Some x ↦ refl ]
last_taken_more path (first ∷ images) image =
    let others = last_taken path images in
    let here = taken_in path first in
    rw (last_taken_more path images image) (elim (taken_in path image) as (λ o. option_or (option_or o others) here ≡ option_or o (option_or others here)) [ None ↦ refl | Some x ↦ refl ])

pub last_image_more : (images : List (List Item)) (image : List Item) → last_image (images ++ image ∷ []) ≡ image
last_image_more [] image = refl
last_image_more (first ∷ []) image = refl
last_image_more (first ∷ second ∷ images) image = last_image_more (second ∷ images) image

-- what an item of the last image gives is what the chain does
behind_chosen : (earlier : List (List Item)) (x : Item) → entry_behind earlier x ≡ option_or (taken_of x) (last_taken (path_of x) earlier)
behind_chosen earlier (Taken e) = refl
behind_chosen earlier (Kept path) = refl

behind_each : (earlier : List (List Item)) (front rest : List Item) → rise_behind [] (paths (front ++ rest)) ≡ true
    → filter_map (entry_behind earlier) rest ≡ filter_map (λ i. last_taken (path_of i) (earlier ++ (front ++ rest) ∷ [])) rest
behind_each earlier front [] rising = refl
behind_each earlier front (x ∷ rest) rising =
    let moved : (front ++ x ∷ []) ++ rest ≡ front ++ x ∷ rest = append_assoc front (x ∷ []) rest in
    let here : entry_behind earlier x ≡ last_taken (path_of x) (earlier ++ (front ++ x ∷ rest) ∷ []) = rw (last_taken_more (path_of x) earlier (front ++ x ∷ rest), taken_here [] front x rest rising) (behind_chosen earlier x) in
    let there = simp moved at (behind_each earlier (front ++ x ∷ []) rest (rw moved rising)) in
    rw (here, there) refl

pub tree_behind : (earlier : List (List Item)) (last : List Item) → rise_behind [] (paths last) ≡ true → filter_map (entry_behind earlier) last ≡ tree (earlier ++ last ∷ [])
tree_behind earlier last rising = rw (last_image_more earlier last) (behind_each earlier [] last rising)

-- ---- what is found of a path has that path

taken_path : (path : List ℕ) (items : List Item) (e : Entry) → taken_in path items ≡ Some e → e.path ≡ path
taken_path path [] e is = absurd (none-some e is)
taken_path path (Taken x ∷ items) e is =
    elim (cases_Bool (bytes_eq x.path path)) [
      | inl same ↦ rw (← same_Some x e (rw same at is)) ((bytes_eq-Decides x.path path).0 same)
      | inr other ↦ taken_path path items e (rw other at is)
    ]
taken_path path (Kept kept ∷ items) e is = taken_path path items e is

either_path : (path : List ℕ) (a b : Option Entry) (e : Entry) → ((x : Entry) → a ≡ Some x → x.path ≡ path) → ((x : Entry) → b ≡ Some x → x.path ≡ path) → option_or a b ≡ Some e → e.path ≡ path
either_path path None b e first second is = second e is
either_path path (Some x) b e first second is = first e is

pub last_taken_path : (path : List ℕ) (images : List (List Item)) (e : Entry) → last_taken path images ≡ Some e → e.path ≡ path
last_taken_path path [] e is = absurd (none-some e is)
last_taken_path path (image ∷ later) e is = either_path path (last_taken path later) (taken_in path image) e (λ x found. last_taken_path path later x found) (λ x found. taken_path path image x found) is

behind_path : (earlier : List (List Item)) (i : Item) (e : Entry) → entry_behind earlier i ≡ Some e → e.path ≡ path_of i
behind_path earlier (Taken x) e is = ap (λ (z : Entry). z.path) (sym (same_Some x e is))
behind_path earlier (Kept path) e is = last_taken_path path earlier e is

-- ---- the tree rises

found_rises : (earlier : List (List Item)) (last : List ℕ) (x : Item) (o : Option Entry) (found : List Entry) → o ≡ entry_behind earlier x → follows last (path_of x) ≡ true → Rises (path_of x) found → Rises last (cons_option o found)
found_rises earlier last x None found is ok rising =
    rise_sooner last (path_of x) (map path_of (map Taken found)) (and_parts (is_path (path_of x)) (is_before last (path_of x)) ok).1 rising
found_rises earlier last x (Some e) found is ok rising =
    let path : path_of x ≡ e.path = sym (behind_path earlier x e (sym is)) in
    and_from (follows last e.path) (rise_behind e.path (map path_of (map Taken found))) (subst (λ (p : List ℕ). follows last p ≡ true) path ok) (subst (λ (p : List ℕ). Rises p found) path rising)

pub behind_rises : (earlier : List (List Item)) (last : List ℕ) (items : List Item) → rise_behind last (paths items) ≡ true → Rises last (filter_map (entry_behind earlier) items)
behind_rises earlier last [] rising = refl
behind_rises earlier last (x ∷ items) rising =
    let parts = and_parts (follows last (path_of x)) (rise_behind (path_of x) (paths items)) rising in
    found_rises earlier last x (entry_behind earlier x) (filter_map (entry_behind earlier) items) refl parts.0 (behind_rises earlier (path_of x) items parts.1)

-- ---- item by item, and image by image

pub ends_in : {A : Type 0} (xs : List A) (x : A) → 0 < length xs → x ≡ get_or xs (length xs - 1) x → xs ≡ take (length xs - 1) xs ++ x ∷ []
ends_in {A} xs x some is =
    sym (take_all (length xs - 1 + 1) xs (omega arith)) ∙ take_more xs (length xs - 1) x (omega arith) ∙ ap (λ (y : A). take (length xs - 1) xs ++ y ∷ []) (sym is)

-- the last of some images took the path, or else the others have it
pub last_step : (path : List ℕ) (rest : List (List Item)) (image : List Item) (o : Option Entry) → 0 < length rest → image ≡ get_or rest (length rest - 1) image → taken_in path image ≡ o → last_taken path rest ≡ option_or o (last_taken path (take (length rest - 1) rest))
last_step path rest image o some is took =
    ap (last_taken path) (ends_in rest image some is) ∙ last_taken_more path (take (length rest - 1) rest) image ∙ ap (λ (t : Option Entry). option_or t (last_taken path (take (length rest - 1) rest))) took

pub merged_more : (h : Item → Option Entry) (items : List Item) (k : ℕ) (x : Item) (o : Option Entry) (entries : List Entry) → k < length items → x ≡ get_or items k x → h x ≡ o → entries ≡ filter_map h (take k items) → entries ++ cons_option o [] ≡ filter_map h (take (k + 1) items)
merged_more h items k x o entries lt is gives so_far =
    rw (take_more items k x lt, ← is, filter_map-append h (take k items) (x ∷ []), gives, so_far) refl

pub entries_more : (entries : List Entry) (e : Entry) → AllByRecursion (IsItem format.Stream) (map Taken entries) → IsEntry e → AllByRecursion (IsItem format.Stream) (map Taken (entries ++ e ∷ []))
entries_more [] e each fits = (fits, tt)
entries_more (x ∷ entries) e each fits = (each.0, entries_more entries e each.1 fits)

pub merged_is : (earlier : List (List Item)) (last : List Item) (k : ℕ) (entries : List Entry) → IsImage last → length last ≤ k → entries ≡ filter_map (entry_behind earlier) (take k last) → AllByRecursion (IsItem format.Stream) (map Taken entries) → IsStream entries
merged_is earlier last k entries image le found each =
    record { rising = rw (found, take_all k last le) (behind_rises earlier [] last image.rising); each = each }

pub merged_all : (images : List (List Item)) (last : List Item) (k : ℕ) (entries : List Entry) → 0 < length images → last ≡ get_or images (length images - 1) last → IsImage last → length last ≤ k
    → entries ≡ filter_map (entry_behind (take (length images - 1) images)) (take k last) → entries ≡ tree images
merged_all images last k entries some is image le found =
    rw (found, take_all k last le) (tree_behind (take (length images - 1) images) last image.rising ∙ ap tree (sym (ends_in images last some is)))

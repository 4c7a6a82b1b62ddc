-- Writing one part behind another.
use Rattle.image_kinds.proofs.Common.{◌≡◌, ℕ, ◌+◌, ◌<◌, ◌≤◌, zero, suc, true, List, [], ◌∷◌, ◌++◌, length, get_or, take, ap, ◌∙◌, append_assoc, arith, map, flat_map, and_parts, Entry, Item, Taken, flat_map_more, take_more, length-map, is_path_length, follows, rise_behind, path_of, spelled_entry, spelled_item}
use Rattle.std.proofs.lemmas.List.{take_all}
use Rattle.image_kinds.proofs.Again.{length_of_path}
use Rattle.std.proofs.lemmas.List.Folds.{flat_map-map}
use Rattle.std.proofs.Math.ListN.{get_or-map}

pub written : (out tagged pathed timed all path time content : List ℕ) → tagged ≡ out ++ 1 ∷ [] → pathed ≡ tagged ++ path → timed ≡ pathed ++ time → all ≡ timed ++ content → all ≡ out ++ 1 ∷ (path ++ (time ++ content))
written out tagged pathed timed all path time content a b c d =
    d ∙ ap (λ (w : List ℕ). w ++ content) (c ∙ ap (λ (w : List ℕ). w ++ time) (b ∙ ap (λ (w : List ℕ). w ++ path) a)) ∙ simp append_assoc

-- each path of items that rise has the length of a path
pub length_at : (last : List ℕ) (items : List Item) (k : ℕ) (d : Item) → rise_behind last (map path_of items) ≡ true → k < length items → is_path_length (length (path_of (get_or items k d))) ≡ true
length_at last [] k d rising lt = absurd (omega arith)
length_at last (x ∷ xs) zero d rising lt = length_of_path last (path_of x) (and_parts (follows last (path_of x)) (rise_behind (path_of x) (map path_of xs)) rising).0
length_at last (x ∷ xs) (suc k) d rising lt = length_at (path_of x) xs k d (and_parts (follows last (path_of x)) (rise_behind (path_of x) (map path_of xs)) rising).1 (omega arith)

pub entry_length_at : (last : List ℕ) (entries : List Entry) (k : ℕ) (d : Entry) → rise_behind last (map path_of (map Taken entries)) ≡ true → k < length entries → is_path_length (length (get_or entries k d).path) ≡ true
entry_length_at last entries k d rising lt =
    rw (get_or-map Taken entries k d) at (length_at last (map Taken entries) k (Taken d) rising (omega (arith, lt, length-map entries Taken)))

-- one more entry is written
pub written_more : (out new front : List ℕ) (entries : List Entry) (k : ℕ) (x : Entry) → k < length entries → x ≡ get_or entries k x → out ≡ front ++ flat_map spelled_entry (take k entries) → new ≡ out ++ spelled_entry x → new ≡ front ++ flat_map spelled_entry (take (k + 1) entries)
written_more out new front entries k x lt is so_far adds =
    rw (take_more entries k x lt, ← is, ← flat_map_more spelled_entry front (take k entries) x, ← so_far) adds

pub written_all : (out new front : List ℕ) (entries : List Entry) (k : ℕ) → length entries ≤ k → out ≡ front ++ flat_map spelled_entry (take k entries) → new ≡ out ++ 0 ∷ [] → new ≡ front ++ (flat_map spelled_item (map Taken entries) ++ 0 ∷ [])
written_all out new front entries k le so_far adds =
    rw (adds, so_far, take_all k entries le, flat_map-map spelled_item Taken entries) (append_assoc front (flat_map spelled_entry entries) (0 ∷ []))

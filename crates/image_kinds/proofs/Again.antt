-- What is spelled at the front is read, and where a field breaks its rule nothing is read.
use Rattle.image_kinds.proofs.Common.{◌≡◌, ℕ, ◌^◌, ◌<◌, true, false, cond, ltb, leb, eqb, List, ◌∷◌, ◌++◌, length, take, drop, Some, None, Result, Ok, Err, refl, sym, ap, ◌∙◌, append_assoc, arith, inl, inr, ◌&&◌, Width, w16, w64, byte_len, from_be_bytes, to_be_bytes, lt-ltb, leb-true, eqb-true, ne_eqb, and_parts, or_parts, or_cases, cond-true, cond-false, Entry, Item, Taken, Kept, Format, is_path_length, follows, path_of, spelled_path, spelled_content, spelled_item, IsEntry, IsItem, keeps, names_path, is_tag, PathBreaks, path_length_ends, wrong_path_length, path_ends, wrong_path, FileEnds, time_ends, content_length_ends, content_ends, Breaks, no_tag, wrong_tag, behind_end, in_path, in_file, ◌>>=◌, whole, number_at, text_at, path_bytes_at, path_at, content_at, entry_at, item_at}
use Rattle.image_kinds.proofs.Reading.{wide16, wide64, number_again, text_again, made}

number_stops : (w : Width) (bytes : List ℕ) → length bytes < byte_len w → number_at w bytes ≡ Err 0
number_stops w bytes short = ap whole (cond-true (ltb (length bytes) (byte_len w)) None (Some (from_be_bytes w (take (byte_len w) bytes), drop (byte_len w) bytes)) (lt-ltb (length bytes) (byte_len w) short))

text_stops : (count : ℕ) (bytes : List ℕ) → length bytes < count → text_at count bytes ≡ Err 0
text_stops count bytes short = ap whole (cond-true (ltb (length bytes) count) None (Some (take count bytes, drop count bytes)) (lt-ltb (length bytes) count short))

small_length : (count : ℕ) → is_path_length count ≡ true → count < 2 ^ 16
small_length count ok = omega (arith, leb-true count 1024 (and_parts (leb 1 count) (leb count 1024) ok).1)

-- ---- paths

-- behind a length that a path may have
path_behind : (last : List ℕ) (count : ℕ) (more : List ℕ) → is_path_length count ≡ true → path_at last (to_be_bytes w16 count ++ more) ≡ path_bytes_at last count more
path_behind last count more ok = rw (number_again w16 (2 ^ 16) wide16 count more (small_length count ok), ok) refl

spelled_path_behind : (last path more : List ℕ) → is_path_length (length path) ≡ true → path_at last (spelled_path path ++ more) ≡ cond (follows last path) (Ok (path, more)) (Err (length (path ++ more)))
spelled_path_behind last path more ok = rw (path_behind last (length path) (path ++ more) ok, text_again path more) refl

pub length_of_path : (last path : List ℕ) → follows last path ≡ true → is_path_length (length path) ≡ true
length_of_path last path ok = (and_parts _ _ (and_parts _ _ (and_parts _ _ ok).0).0).0

pub path_again : (last path more : List ℕ) → follows last path ≡ true → path_at last (spelled_path path ++ more) ≡ Ok (path, more)
path_again last path more ok = spelled_path_behind last path more (length_of_path last path ok) ∙ cond-true (follows last path) (Ok (path, more)) (Err (length (path ++ more))) ok

path_stops : (last bytes : List ℕ) (left : ℕ) → PathBreaks last bytes left → path_at last bytes ≡ Err left
path_stops last bytes left (path_length_ends short none) = rw (number_stops w16 bytes short) (ap Err (sym none))
path_stops last bytes left (wrong_path_length count more small parts wrong is) = rw (parts, number_again w16 (2 ^ 16) wide16 count more small, wrong) (ap Err (sym (is ∙ ap (λ (b : List ℕ). length b) parts)))
path_stops last bytes left (path_ends count more ok parts short none) = rw (parts, path_behind last count more ok, text_stops count more short) (ap Err (sym none))
path_stops last bytes left (wrong_path path more ok parts wrong is) = rw (parts, spelled_path_behind last path more ok, wrong) (ap Err (sym is))

-- ---- entries

content_again : (content more : List ℕ) → length content < 2 ^ 64 → content_at (spelled_content content ++ more) ≡ Ok (content, more)
content_again content more small = rw (number_again w64 (2 ^ 64) wide64 (length content) (content ++ more) small, text_again content more) refl

-- behind the path
abbrev file_at : List ℕ → List ℕ → Result (Entry × List ℕ) ℕ
file_at path bytes = number_at w64 bytes >>= λ t. content_at t.1 >>= λ c. Ok (made path t.0 c.0, c.1)

file_again : (path : List ℕ) (time : ℕ) (content more : List ℕ) → time < 2 ^ 64 → length content < 2 ^ 64 → file_at path ((to_be_bytes w64 time ++ spelled_content content) ++ more) ≡ Ok (made path time content, more)
file_again path time content more small fits = rw (number_again w64 (2 ^ 64) wide64 time (spelled_content content ++ more) small, content_again content more fits) refl

file_stops : (path bytes : List ℕ) → FileEnds bytes → file_at path bytes ≡ Err 0
file_stops path bytes (time_ends short) = rw (number_stops w64 bytes short) refl
file_stops path bytes (content_length_ends time more small parts short) = rw (parts, number_again w64 (2 ^ 64) wide64 time more small, number_stops w64 more short) refl
file_stops path bytes (content_ends time count more small fits parts short) = rw (parts, number_again w64 (2 ^ 64) wide64 time (to_be_bytes w64 count ++ more) small, number_again w64 (2 ^ 64) wide64 count more fits, text_stops count more short) refl

entry_behind : (last path more : List ℕ) → follows last path ≡ true → entry_at last (spelled_path path ++ more) ≡ file_at path more
entry_behind last path more ok = rw (path_again last path more ok) refl

entry_again : (last : List ℕ) (e : Entry) (more : List ℕ) → follows last e.path ≡ true → IsEntry e → entry_at last ((spelled_path e.path ++ (to_be_bytes w64 e.time ++ spelled_content e.content)) ++ more) ≡ Ok (e, more)
entry_again last e more ok fits =
    rw (append_assoc e.path (to_be_bytes w64 e.time ++ spelled_content e.content) more, entry_behind last e.path ((to_be_bytes w64 e.time ++ spelled_content e.content) ++ more) ok) (file_again e.path e.time e.content more fits.0 fits.1)

-- ---- items

pub item_again : (f : Format) (last : List ℕ) (i : Item) (more : List ℕ) → follows last (path_of i) ≡ true → IsItem f i → item_at f last (spelled_item i ++ more) ≡ Ok (Some i, more)
item_again f last (Taken e) more ok fits = rw (entry_again last e more ok fits) refl
item_again f last (Kept path) more ok keeping = rw (keeping, path_again last path more ok) refl

tagged_path_stops : (f : Format) (last : List ℕ) (tag : ℕ) (more : List ℕ) (left : ℕ) → names_path f tag ≡ true → path_at last more ≡ Err left → item_at f last (tag ∷ more) ≡ Err left
tagged_path_stops f last tag more left names breaks =
    elim (or_cases (eqb tag 1) (eqb tag 2 && keeps f) names) [
      | inl is ↦ rw (eqb-true tag 1 is, breaks) refl
      | inr is ↦ let both = and_parts (eqb tag 2) (keeps f) is in rw (eqb-true tag 2 both.0, both.1, breaks) refl
    ]

wrong_tag_stops : (f : Format) (last : List ℕ) (tag : ℕ) (more : List ℕ) → is_tag f tag ≡ false → item_at f last (tag ∷ more) ≡ Err (length (tag ∷ more))
wrong_tag_stops f last tag more wrong =
    let first = or_parts (eqb tag 0) (names_path f tag) wrong in
    let second = or_parts (eqb tag 1) (eqb tag 2 && keeps f) first.1 in
    rw (first.0, second.0, second.1) refl

pub item_stops : (f : Format) (last bytes : List ℕ) (left : ℕ) → Breaks f last bytes left → item_at f last bytes ≡ Err left
item_stops f last bytes left (no_tag is none) = ap (item_at f last) is ∙ ap Err (sym none)
item_stops f last bytes left (wrong_tag tag more parts wrong is) =
    ap (item_at f last) parts ∙ wrong_tag_stops f last tag more wrong ∙ ap Err (sym (is ∙ ap (λ (b : List ℕ). length b) parts))
item_stops f last bytes left (behind_end byte more parts is) =
    ap (item_at f last) parts ∙ cond-false (eqb (length (byte ∷ more)) 0) (Ok (None, byte ∷ more)) (Err (length (byte ∷ more))) (ne_eqb (length (byte ∷ more)) 0 (λ e. omega (arith, e))) ∙ ap Err (sym is)
item_stops f last bytes left (in_path tag more parts names breaks) = ap (item_at f last) parts ∙ tagged_path_stops f last tag more left names (path_stops last more left breaks)
item_stops f last bytes left (in_file path more parts ok ends none) =
    ap (item_at f last) parts ∙ rw (entry_behind last path more ok, file_stops path more ends) (ap Err (sym none))

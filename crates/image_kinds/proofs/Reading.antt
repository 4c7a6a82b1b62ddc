-- What is read of a field is what is spelled at the front, and where nothing is read the field breaks its rule.
use Rattle.image_kinds.proofs.Common.{◌≡◌, ℕ, suc, ◌+◌, ◌^◌, ◌<◌, ◌≤◌, true, false, cond, ltb, eqb, List, [], ◌∷◌, ◌++◌, length, get_or, take, drop, Option, Some, None, Result, Ok, Err, refl, sym, ap, subst, ◌∙◌, append_assoc, arith, inl, inr, MatchResult, ◌&&◌, Width, w16, w64, byte_len, from_be_bytes, to_be_bytes, cases_lt, ltb-false, ltb-true, le-ltb, eqb-true, and_parts, or_from, cond_both, Entry, Item, Taken, Kept, Format, take_at, drop_at, length-append, length-take, get_or-drop, get_or-take, get_or_past, is_path_length, follows, path_of, spelled_path, spelled_content, spelled_item, IsEntry, IsItem, keeps, names_path, PathBreaks, path_length_ends, wrong_path_length, path_ends, wrong_path, FileEnds, time_ends, content_length_ends, content_ends, Breaks, no_tag, wrong_tag, behind_end, in_path, in_file, Read, ◌>>=◌, whole, number_at, text_at, path_length_at, path_bytes_at, path_at, content_at, entry_at, end_at, taken_at, kept_at, tagged_at, item_at, MatchResult-weaker}
use Rattle.std.proofs.lemmas.List.{take-append-drop}
use Rattle.std.proofs.lemmas.Nat.{be_bytes_2, be_bytes_8, from_be_bytes-to_be_bytes_2, from_be_bytes-to_be_bytes_8}

abbrev pub IsBytes : List ℕ → Type 0
IsBytes bytes = (i : ℕ) → get_or bytes i 0 < 256

pub IsBytes-drop : (n : ℕ) (bytes : List ℕ) → IsBytes bytes → IsBytes (drop n bytes)
IsBytes-drop n bytes h i = rw get_or-drop (h (n + i))

pub IsBytes-take : (n : ℕ) (bytes : List ℕ) → IsBytes bytes → IsBytes (take n bytes)
IsBytes-take n bytes h i =
    elim (cases_lt i n) [
      | inl lt ↦ rw (get_or-take n bytes i 0 lt) (h i)
      | inr le ↦ rw (get_or_past (take n bytes) i 0 (omega (arith, length-take n bytes))) (omega arith)
    ]

pub IsBytes-rest : (b : ℕ) (bytes : List ℕ) → IsBytes (b ∷ bytes) → IsBytes bytes
IsBytes-rest b bytes h i = h (suc i)

-- what a reader took from the front
pub record Takes (bytes text rest : List ℕ) : Type 0 where
  pub parts : bytes ≡ text ++ rest
  pub rest_fits : IsBytes rest

pub Takes-then : (a x b y c : List ℕ) → Takes a x b → Takes b y c → Takes a (x ++ y) c
Takes-then a x b y c p q = record { parts = p.parts ∙ ap (λ (t : List ℕ). x ++ t) q.parts ∙ sym (append_assoc x y c); rest_fits = q.rest_fits }

pub Takes-behind : (tag : ℕ) (bytes text rest : List ℕ) → Takes bytes text rest → Takes (tag ∷ bytes) (tag ∷ text) rest
Takes-behind tag bytes text rest t = record { parts = ap (λ (w : List ℕ). tag ∷ w) t.parts; rest_fits = t.rest_fits }

-- one reader after another
pub bind_law : {A B : Type 0} (r : Result A ℕ) (f : A → Result B ℕ) (P : A → Type 0) (E : ℕ → Type 0) (Q : B → Type 0) (F : ℕ → Type 0) → MatchResult r P E → ((x : A) → P x → MatchResult (f x) Q F) → ((left : ℕ) → E left → F left) → MatchResult (r >>= f) Q F
bind_law (Ok x) f P E Q F p next fails = next x p
bind_law (Err left) f P E Q F p next fails = fails left p

-- ---- numbers and texts

pub record IsWide (w : Width) (limit : ℕ) : Type 0 where
  pub len : (n : ℕ) → length (to_be_bytes w n) ≡ byte_len w
  pub back : (bytes : List ℕ) → length bytes ≡ byte_len w → IsBytes bytes → to_be_bytes w (from_be_bytes w bytes) ≡ bytes
  pub again : (n : ℕ) → n < limit → from_be_bytes w (to_be_bytes w n) ≡ n
  pub below : (bytes : List ℕ) → IsBytes bytes → from_be_bytes w bytes < limit

pub wide16 : IsWide w16 (2 ^ 16)
wide16 = record {
  len = λ n. refl;
  back = λ bytes len fits. be_bytes_2 bytes _ len fits refl;
  again = λ n lt. from_be_bytes-to_be_bytes_2 n lt;
  below = λ bytes fits. omega (arith, fits 0, fits 1);
}

pub wide64 : IsWide w64 (2 ^ 64)
wide64 = record {
  len = λ n. refl;
  back = λ bytes len fits. be_bytes_8 bytes _ len fits refl;
  again = λ n lt. from_be_bytes-to_be_bytes_8 n lt;
  below = λ bytes fits. omega (arith, fits 0, fits 1, fits 2, fits 3, fits 4, fits 5, fits 6, fits 7);
}

abbrev pub TakesNumber : Width → ℕ → List ℕ → ℕ × List ℕ → Type 0
TakesNumber w limit bytes n = Takes bytes (to_be_bytes w n.0) n.1 × (n.0 < limit)

abbrev pub EndsWithin : ℕ → List ℕ → ℕ → Type 0
EndsWithin count bytes left = (length bytes < count) × (left ≡ 0)

number_law : (w : Width) (limit : ℕ) (wide : IsWide w limit) (bytes : List ℕ) → IsBytes bytes → MatchResult (number_at w bytes) (TakesNumber w limit bytes) (EndsWithin (byte_len w) bytes)
number_law w limit wide bytes fits =
    cond_both (ltb (length bytes) (byte_len w)) None (Some (from_be_bytes w (take (byte_len w) bytes), drop (byte_len w) bytes)) (λ o. MatchResult (whole o) (TakesNumber w limit bytes) (EndsWithin (byte_len w) bytes))
    (λ short. (ltb-true (length bytes) (byte_len w) short, refl))
    (λ enough.
    let long : byte_len w ≤ length bytes = ltb-false _ _ enough in
    let front : to_be_bytes w (from_be_bytes w (take (byte_len w) bytes)) ≡ take (byte_len w) bytes = wide.back (take (byte_len w) bytes) (omega (arith, length-take (byte_len w) bytes)) (IsBytes-take (byte_len w) bytes fits) in
    (record { parts = rw front (sym (take-append-drop (byte_len w) bytes)); rest_fits = IsBytes-drop (byte_len w) bytes fits }, wide.below (take (byte_len w) bytes) (IsBytes-take (byte_len w) bytes fits)))

pub number_again : (w : Width) (limit : ℕ) (wide : IsWide w limit) (n : ℕ) (rest : List ℕ) → n < limit → number_at w (to_be_bytes w n ++ rest) ≡ Ok (n, rest)
number_again w limit wide n rest lt =
    let len = wide.len n in
    let long : ltb (length (to_be_bytes w n ++ rest)) (byte_len w) ≡ false = le-ltb _ _ (omega (arith, length-append (to_be_bytes w n) rest)) in
    rw (long, take_at (to_be_bytes w n) rest (byte_len w) len, drop_at (to_be_bytes w n) rest (byte_len w) len, wide.again n lt) refl

abbrev pub TakesText : ℕ → List ℕ → List ℕ × List ℕ → Type 0
TakesText count bytes t = Takes bytes t.0 t.1 × (length t.0 ≡ count)

text_law : (count : ℕ) (bytes : List ℕ) → IsBytes bytes → MatchResult (text_at count bytes) (TakesText count bytes) (EndsWithin count bytes)
text_law count bytes fits =
    cond_both (ltb (length bytes) count) None (Some (take count bytes, drop count bytes)) (λ o. MatchResult (whole o) (TakesText count bytes) (EndsWithin count bytes))
    (λ short. (ltb-true (length bytes) count short, refl))
    (λ enough.
    let long : count ≤ length bytes = ltb-false _ _ enough in
    (record { parts = sym (take-append-drop count bytes); rest_fits = IsBytes-drop count bytes fits }, omega (arith, length-take count bytes)))

pub text_again : (text rest : List ℕ) → text_at (length text) (text ++ rest) ≡ Ok (text, rest)
text_again text rest =
    let long : ltb (length (text ++ rest)) (length text) ≡ false = le-ltb _ _ (omega (arith, length-append text rest)) in
    rw (long, take_at text rest (length text) refl, drop_at text rest (length text) refl) refl

-- ---- paths

abbrev pub TakesLength : List ℕ → ℕ × List ℕ → Type 0
TakesLength bytes n = Takes bytes (to_be_bytes w16 n.0) n.1 × (is_path_length n.0 ≡ true)

path_length_law : (last bytes : List ℕ) → IsBytes bytes → MatchResult (path_length_at bytes) (TakesLength bytes) (PathBreaks last bytes)
path_length_law last bytes fits =
    bind_law (number_at w16 bytes) (λ n. cond (is_path_length n.0) (Ok n) (Err (length bytes))) (TakesNumber w16 (2 ^ 16) bytes) (EndsWithin 2 bytes) (TakesLength bytes) (PathBreaks last bytes) (number_law w16 (2 ^ 16) wide16 bytes fits)
    (λ n took. cond_both (is_path_length n.0) (Ok n) (Err (length bytes)) (λ r. MatchResult r (TakesLength bytes) (PathBreaks last bytes)) (λ passes. (took.0, passes)) (λ fails. wrong_path_length n.0 n.1 took.1 took.0.parts fails refl))
    (λ left ends. path_length_ends ends.0 ends.1)

abbrev pub TakesPath : List ℕ → List ℕ → List ℕ × List ℕ → Type 0
TakesPath last bytes p = Takes bytes (spelled_path p.0) p.1 × (follows last p.0 ≡ true)

path_bytes_law : (last bytes : List ℕ) (n : ℕ × List ℕ) → TakesLength bytes n → MatchResult (path_bytes_at last n.0 n.1) (TakesPath last bytes) (PathBreaks last bytes)
path_bytes_law last bytes n took =
    bind_law (text_at n.0 n.1) (λ p. cond (follows last p.0) (Ok p) (Err (length n.1))) (TakesText n.0 n.1) (EndsWithin n.0 n.1) (TakesPath last bytes) (PathBreaks last bytes) (text_law n.0 n.1 took.0.rest_fits)
    (λ p text.
    let whole : Takes bytes (spelled_path p.0) p.1 = subst (λ (k : ℕ). Takes bytes (to_be_bytes w16 k ++ p.0) p.1) (sym text.1) (Takes-then bytes (to_be_bytes w16 n.0) n.1 p.0 p.1 took.0 text.0) in
    cond_both (follows last p.0) (Ok p) (Err (length n.1)) (λ r. MatchResult r (TakesPath last bytes) (PathBreaks last bytes)) (λ passes. (whole, passes))
    (λ fails. wrong_path p.0 p.1 (ap is_path_length text.1 ∙ took.1) whole.parts fails (ap (λ (w : List ℕ). length w) text.0.parts)))
    (λ left ends. path_ends n.0 n.1 took.1 took.0.parts ends.0 ends.1)

pub path_law : (last bytes : List ℕ) → IsBytes bytes → MatchResult (path_at last bytes) (TakesPath last bytes) (PathBreaks last bytes)
path_law last bytes fits =
    bind_law (path_length_at bytes) (λ n. path_bytes_at last n.0 n.1) (TakesLength bytes) (PathBreaks last bytes) (TakesPath last bytes) (PathBreaks last bytes) (path_length_law last bytes fits) (path_bytes_law last bytes) (λ left breaks. breaks)

-- ---- the time and the content of an entry

abbrev pub TakesContent : List ℕ → List ℕ × List ℕ → Type 0
TakesContent bytes c = Takes bytes (spelled_content c.0) c.1 × (length c.0 < 2 ^ 64)

-- behind any time, the bytes end within the content or its length
abbrev pub ContentEnds : List ℕ → ℕ → Type 0
ContentEnds bytes left = ((time : ℕ) → time < 2 ^ 64 → FileEnds (to_be_bytes w64 time ++ bytes)) × (left ≡ 0)

content_text_law : (bytes : List ℕ) (n : ℕ × List ℕ) → TakesNumber w64 (2 ^ 64) bytes n → MatchResult (text_at n.0 n.1) (TakesContent bytes) (ContentEnds bytes)
content_text_law bytes n took =
    MatchResult-weaker (text_at n.0 n.1) {P = TakesText n.0 n.1} {P' = TakesContent bytes} {Q = EndsWithin n.0 n.1} {Q' = ContentEnds bytes} (text_law n.0 n.1 took.0.rest_fits)
    (λ c text. (subst (λ (k : ℕ). Takes bytes (to_be_bytes w64 k ++ c.0) c.1) (sym text.1) (Takes-then bytes (to_be_bytes w64 n.0) n.1 c.0 c.1 took.0 text.0), omega (arith, text.1, took.1)))
    (λ left ends. (λ time small. content_ends time n.0 n.1 small took.1 (ap (λ (w : List ℕ). to_be_bytes w64 time ++ w) took.0.parts) ends.0, ends.1))

content_law : (bytes : List ℕ) → IsBytes bytes → MatchResult (content_at bytes) (TakesContent bytes) (ContentEnds bytes)
content_law bytes fits =
    bind_law (number_at w64 bytes) (λ n. text_at n.0 n.1) (TakesNumber w64 (2 ^ 64) bytes) (EndsWithin 8 bytes) (TakesContent bytes) (ContentEnds bytes) (number_law w64 (2 ^ 64) wide64 bytes fits) (content_text_law bytes)
    (λ left ends. (λ time small. content_length_ends time bytes small refl ends.0, ends.1))

-- ---- entries

abbrev pub TakesEntry : List ℕ → List ℕ → Entry × List ℕ → Type 0
TakesEntry last bytes e = Takes bytes (spelled_path e.0.path ++ (to_be_bytes w64 e.0.time ++ spelled_content e.0.content)) e.1 × (follows last e.0.path ≡ true) × IsEntry e.0

abbrev pub made : List ℕ → ℕ → List ℕ → Entry
made path time content = record { path = path; time = time; content = content }

entry_content_law : (f : Format) (last bytes : List ℕ) (p : List ℕ × List ℕ) → TakesPath last bytes p → (t : ℕ × List ℕ) → TakesNumber w64 (2 ^ 64) p.1 t → MatchResult (content_at t.1 >>= λ c. Ok (made p.0 t.0 c.0, c.1)) (TakesEntry last bytes) (Breaks f last (1 ∷ bytes))
entry_content_law f last bytes p path t time =
    bind_law (content_at t.1) (λ c. Ok (made p.0 t.0 c.0, c.1)) (TakesContent t.1) (ContentEnds t.1) (TakesEntry last bytes) (Breaks f last (1 ∷ bytes)) (content_law t.1 time.0.rest_fits)
    (λ c content. (Takes-then bytes (spelled_path p.0) p.1 (to_be_bytes w64 t.0 ++ spelled_content c.0) c.1 path.0 (Takes-then p.1 (to_be_bytes w64 t.0) t.1 (spelled_content c.0) c.1 time.0 content.0), path.1, (time.1, content.1)))
    (λ left ends. in_file p.0 p.1 (ap (λ (w : List ℕ). 1 ∷ w) path.0.parts) path.1 (rw time.0.parts (ends.0 t.0 time.1)) ends.1)

entry_file_law : (f : Format) (last bytes : List ℕ) (p : List ℕ × List ℕ) → TakesPath last bytes p → MatchResult (number_at w64 p.1 >>= λ t. content_at t.1 >>= λ c. Ok (made p.0 t.0 c.0, c.1)) (TakesEntry last bytes) (Breaks f last (1 ∷ bytes))
entry_file_law f last bytes p path =
    bind_law (number_at w64 p.1) (λ t. content_at t.1 >>= λ c. Ok (made p.0 t.0 c.0, c.1)) (TakesNumber w64 (2 ^ 64) p.1) (EndsWithin 8 p.1) (TakesEntry last bytes) (Breaks f last (1 ∷ bytes)) (number_law w64 (2 ^ 64) wide64 p.1 path.0.rest_fits)
    (entry_content_law f last bytes p path)
    (λ left ends. in_file p.0 p.1 (ap (λ (w : List ℕ). 1 ∷ w) path.0.parts) path.1 (time_ends ends.0) ends.1)

entry_law : (f : Format) (last bytes : List ℕ) → IsBytes bytes → MatchResult (entry_at last bytes) (TakesEntry last bytes) (Breaks f last (1 ∷ bytes))
entry_law f last bytes fits =
    bind_law (path_at last bytes) (λ p. number_at w64 p.1 >>= λ t. content_at t.1 >>= λ c. Ok (made p.0 t.0 c.0, c.1)) (TakesPath last bytes) (PathBreaks last bytes) (TakesEntry last bytes) (Breaks f last (1 ∷ bytes)) (path_law last bytes fits)
    (entry_file_law f last bytes) (λ left breaks. in_path 1 bytes refl refl breaks)

-- ---- items

abbrev pub TakesOption : Format → List ℕ → List ℕ → Option Item → List ℕ → Type 0
TakesOption f last bytes None rest = bytes ≡ 0 ∷ []
TakesOption f last bytes (Some i) rest = Takes bytes (spelled_item i) rest × (follows last (path_of i) ≡ true) × IsItem f i

abbrev pub TakesItem : Format → List ℕ → List ℕ → Option Item × List ℕ → Type 0
TakesItem f last bytes x = TakesOption f last bytes x.0 x.1

end_law : (f : Format) (last rest : List ℕ) → MatchResult (end_at rest) (TakesItem f last (0 ∷ rest)) (Breaks f last (0 ∷ rest))
end_law f last [] = refl
end_law f last (byte ∷ more) =
    cond_both (eqb (length (byte ∷ more)) 0) (Ok (None, byte ∷ more)) (Err (length (byte ∷ more))) (λ r. MatchResult r (TakesItem f last (0 ∷ byte ∷ more)) (Breaks f last (0 ∷ byte ∷ more)))
    (λ empty. absurd (omega (arith, eqb-true (length (byte ∷ more)) 0 empty)))
    (λ fails. behind_end byte more refl refl)

taken_law : (f : Format) (last rest : List ℕ) → IsBytes rest → MatchResult (taken_at last rest) (TakesItem f last (1 ∷ rest)) (Breaks f last (1 ∷ rest))
taken_law f last rest fits =
    bind_law (entry_at last rest) (λ e. Ok (Some (Taken e.0), e.1)) (TakesEntry last rest) (Breaks f last (1 ∷ rest)) (TakesItem f last (1 ∷ rest)) (Breaks f last (1 ∷ rest)) (entry_law f last rest fits)
    (λ e took. (Takes-behind 1 rest (spelled_path e.0.path ++ (to_be_bytes w64 e.0.time ++ spelled_content e.0.content)) e.1 took.0, took.1, took.2))
    (λ left breaks. breaks)

kept_law : (f : Format) (last rest : List ℕ) → keeps f ≡ true → IsBytes rest → MatchResult (kept_at last rest) (TakesItem f last (2 ∷ rest)) (Breaks f last (2 ∷ rest))
kept_law f last rest keeping fits =
    bind_law (path_at last rest) (λ p. Ok (Some (Kept p.0), p.1)) (TakesPath last rest) (PathBreaks last rest) (TakesItem f last (2 ∷ rest)) (Breaks f last (2 ∷ rest)) (path_law last rest fits)
    (λ p took. (Takes-behind 2 rest (spelled_path p.0) p.1 took.0, took.1, keeping))
    (λ left breaks. in_path 2 rest refl keeping breaks)

tagged_law : (f : Format) (last : List ℕ) (tag : ℕ) (rest : List ℕ) → IsBytes rest → MatchResult (tagged_at f last (length (tag ∷ rest)) tag rest) (TakesItem f last (tag ∷ rest)) (Breaks f last (tag ∷ rest))
tagged_law f last tag rest fits =
    let P = λ (r : Read (Option Item)). MatchResult r (TakesItem f last (tag ∷ rest)) (Breaks f last (tag ∷ rest)) in
    cond_both (eqb tag 0) (end_at rest) (cond (eqb tag 1) (taken_at last rest) (cond (eqb tag 2 && keeps f) (kept_at last rest) (Err (length (tag ∷ rest))))) P
    (λ is. rw (eqb-true tag 0 is) (end_law f last rest))
    (λ no_end. cond_both (eqb tag 1) (taken_at last rest) (cond (eqb tag 2 && keeps f) (kept_at last rest) (Err (length (tag ∷ rest)))) P
    (λ is. rw (eqb-true tag 1 is) (taken_law f last rest fits))
    (λ not_taken. cond_both (eqb tag 2 && keeps f) (kept_at last rest) (Err (length (tag ∷ rest))) P
    (λ is. let both = and_parts (eqb tag 2) (keeps f) is in rw (eqb-true tag 2 both.0) (kept_law f last rest both.1 fits))
    (λ not_kept. wrong_tag tag rest refl (or_from (eqb tag 0) (names_path f tag) no_end (or_from (eqb tag 1) (eqb tag 2 && keeps f) not_taken not_kept)) refl)))

-- an item or the end, and nothing else, is read where it is spelled; else the first field that breaks its rule is found
pub item_law : (f : Format) (last bytes : List ℕ) → IsBytes bytes → MatchResult (item_at f last bytes) (TakesItem f last bytes) (Breaks f last bytes)
item_law f last [] fits = no_tag refl refl
item_law f last (tag ∷ rest) fits = tagged_law f last tag rest (IsBytes-rest tag rest fits)

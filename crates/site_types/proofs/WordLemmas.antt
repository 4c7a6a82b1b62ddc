-- Words: a key, an equals sign and a value, and lines of words that are joined by spaces.
use Rattle.site_types.proofs.Common.{◌≡◌, ℕ, ◌+◌, zero, suc, List, [], ◌∷◌, ◌++◌, length, take, drop, Some, None, is_some, nat_lt, append_assoc, length-append, Bool, true, false, not, cond, ◌&&◌, refl, ap, ◌∙◌, arith, All, list_all, position_or_len, join_with_byte, slice_split, and_parts, and_from, cond-true, nat_tests, list_all-append, is_word_byte, is_word, is_equals, has_equals, key_of, value_of, word_with, is_space}
use Rattle.std.proofs.lemmas.List.Elements.{All-nil, All-cons}
use Rattle.std.proofs.lemmas.List.Splits.{slice_split_none, slice_split_at}
use Rattle.std.proofs.Math.Seq.{take-append_seam, drop-append-add}

-- a printed character other than the equals sign
abbrev pub is_key_byte : ℕ → Bool
is_key_byte c = is_word_byte c && not (is_equals c)

-- what may stand before an equals sign
abbrev pub is_key : List ℕ → Bool
is_key name = list_all is_key_byte name

length-cons : (c : ℕ) (cs : List ℕ) → 1 + length cs ≡ length (c ∷ cs)
length-cons c cs = omega arith

equals_at : (name value : List ℕ) → is_key name ≡ true → position_or_len is_equals (name ++ 61 ∷ value) ≡ length name
equals_at [] value key = refl
equals_at (c ∷ name) value key =
    let parts = and_parts (is_key_byte c) (is_key name) key in
    cond-true (not (is_equals c)) (1 + position_or_len is_equals (name ++ 61 ∷ value)) 0 (and_parts (is_word_byte c) (not (is_equals c)) parts.0).1
    ∙ ap (λ (n : ℕ). 1 + n) (equals_at name value parts.1)
    ∙ length-cons c name

-- a key's word, read from its front
word_is : (name value : List ℕ) → word_with name value ≡ name ++ 61 ∷ value
word_is name value = append_assoc name (61 ∷ []) value

key_of_front : (name value : List ℕ) → is_key name ≡ true → key_of (name ++ 61 ∷ value) ≡ name
key_of_front name value key = ap (λ (n : ℕ). take n (name ++ 61 ∷ value)) (equals_at name value key) ∙ take-append_seam name (61 ∷ value)

value_of_front : (name value : List ℕ) → is_key name ≡ true → value_of (name ++ 61 ∷ value) ≡ value
value_of_front name value key = ap (λ (n : ℕ). drop (n + 1) (name ++ 61 ∷ value)) (equals_at name value key) ∙ drop-append-add name (61 ∷ value) 1

has_equals_front : (name value : List ℕ) → is_key name ≡ true → has_equals (name ++ 61 ∷ value) ≡ true
has_equals_front name value key =
    let at : position_or_len is_equals (name ++ 61 ∷ value) ≡ length name = equals_at name value key in
    let inside : nat_lt (position_or_len is_equals (name ++ 61 ∷ value)) (length (name ++ 61 ∷ value)) ≡ true = grind (arith, nat_tests, length-append) in
    ap (λ (b : Bool). is_some (cond b (Some (position_or_len is_equals (name ++ 61 ∷ value))) None)) inside

pub key_of-word_with : (name value : List ℕ) → is_key name ≡ true → key_of (word_with name value) ≡ name
key_of-word_with name value key = ap key_of (word_is name value) ∙ key_of_front name value key

pub value_of-word_with : (name value : List ℕ) → is_key name ≡ true → value_of (word_with name value) ≡ value
value_of-word_with name value key = ap value_of (word_is name value) ∙ value_of_front name value key

pub has_equals-word_with : (name value : List ℕ) → is_key name ≡ true → has_equals (word_with name value) ≡ true
has_equals-word_with name value key = ap has_equals (word_is name value) ∙ has_equals_front name value key

name_bytes : (name : List ℕ) → is_key name ≡ true → is_word name ≡ true
name_bytes [] key = refl
name_bytes (c ∷ name) key =
    let parts = and_parts (is_key_byte c) (is_key name) key in
    and_from (is_word_byte c) (is_word name) (and_parts (is_word_byte c) (not (is_equals c)) parts.0).0 (name_bytes name parts.1)

pub is_word-word_with : (name value : List ℕ) → is_key name ≡ true → is_word value ≡ true → is_word (word_with name value) ≡ true
is_word-word_with name value key word =
    ap is_word (word_is name value)
    ∙ list_all-append is_word_byte name (61 ∷ value)
    ∙ and_from (is_word name) (is_word (61 ∷ value)) (name_bytes name key) word

is_word-drop : (n : ℕ) (word : List ℕ) → is_word word ≡ true → is_word (drop n word) ≡ true
is_word-drop zero word is = is
is_word-drop (suc n) [] is = refl
is_word-drop (suc n) (c ∷ word) is = is_word-drop n word (and_parts (is_word_byte c) (is_word word) is).1

pub is_word-value_of : (word : List ℕ) → is_word word ≡ true → is_word (value_of word) ≡ true
is_word-value_of word is = is_word-drop (position_or_len is_equals word + 1) word is

not_space : (c : ℕ) → is_word_byte c ≡ true → is_space c ≡ false
not_space c is = grind (arith, nat_tests)

spaceless : (word : List ℕ) → is_word word ≡ true → All (λ c. is_space c ≡ false) word
spaceless [] is = All-nil (λ c. is_space c ≡ false)
spaceless (c ∷ word) is = let parts = and_parts (is_word_byte c) (is_word word) is in All-cons (λ b. is_space b ≡ false) c word (not_space c parts.0) (spaceless word parts.1)

-- words that are joined by spaces are split into the same words
pub split_line : (word : List ℕ) (words : List (List ℕ)) → list_all is_word (word ∷ words) ≡ true → slice_split is_space (join_with_byte 32 (word ∷ words)) ≡ word ∷ words
split_line word [] are = slice_split_none is_space word (spaceless word (and_parts (is_word word) true are).0)
split_line word (next ∷ words) are =
    let parts = and_parts (is_word word) (list_all is_word (next ∷ words)) are in
    slice_split_at is_space word 32 (join_with_byte 32 (next ∷ words)) (spaceless word parts.0) refl ∙ ap (λ (ws : List (List ℕ)). word ∷ ws) (split_line next words parts.1)

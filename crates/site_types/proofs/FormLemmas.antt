-- The words of a form in the order of its keys: they give the same values as the words that were read, and none of them is bad.
use Rattle.site_types.proofs.Common.{◌≡◌, ℕ, ◌+◌, List, [], ◌∷◌, ◌++◌, Bool, true, false, not, ◌&&◌, ◌||◌, if◌then◌else◌, Option, Some, None, refl, sym, ap, ◌∙◌, list_all, bytes_eq, and_from, and_parts, or_left, or_right, or_from, not_from_false, not-true, false_from_ne_true, true≢false, list_any-append, bytes_eq-Decides, Key, is_word, key_of, value_of, allows, has_key, is_good, first_bad, has_name, value_among, Field, words_with, word_with}
use Rattle.site_types.proofs.OptionLemmas.{same_value}
use Rattle.site_types.proofs.WordLemmas.{is_key, key_of-word_with, value_of-word_with, has_equals-word_with, is_word-word_with, is_word-value_of}

-- keys of different names, each of which may stand before an equals sign
abbrev pub is_table : List Key → Bool
is_table [] = true
is_table (k ∷ keys) = is_key k.name && not (has_name k.name keys) && is_table keys

-- the keys, each with the value that the words give it
abbrev pub fields_read : List Key → List (List ℕ) → List Field
fields_read [] words = []
fields_read (k ∷ keys) words = (k.name, value_among k.name words) ∷ fields_read keys words

-- the same as words
abbrev pub ordered : List Key → List (List ℕ) → List (List ℕ)
ordered keys words = words_with (fields_read keys words)

-- what the words give to keys is what those may have
abbrev pub AreAllowed : List Key → List (List ℕ) → Type 0
AreAllowed keys words = (name value : List ℕ) → value_among name words ≡ Some value → (allows keys name value ≡ true) × (is_word value ≡ true)

-- Words of which none is bad.

good_parts : (keys : List Key) (earlier : List (List ℕ)) (word : List ℕ) → is_good keys earlier word ≡ true → (is_word word ≡ true) × (allows keys (key_of word) (value_of word) ≡ true)
good_parts keys earlier word is = let front = (and_parts _ _ is).0 in ((and_parts _ _ (and_parts _ _ front).0).0, (and_parts _ _ front).1)

passed : (b : Bool) (rest : Option ℕ) (index : ℕ) → (if b then rest else Some index) ≡ None → (b ≡ true) × (rest ≡ None)
passed true rest index none = (refl, none)
passed false rest index none = absurd (cc none)

found : (b : Bool) (here value : List ℕ) (later : Option (List ℕ)) (P : Type 0) → (b ≡ true → here ≡ value → P) → (later ≡ Some value → P) → (if b then Some here else later) ≡ Some value → P
found true here value later P first rest is = first refl (same_value here value is)
found false here value later P first rest is = rest is

none_given : {A : Type 0} (value : A) → None ≡ Some value → ⊥
none_given value is = cc is

pub are_allowed : (keys : List Key) (earlier : List (List ℕ)) (at : ℕ) (words : List (List ℕ)) → first_bad keys earlier at words ≡ None → AreAllowed keys words
are_allowed keys earlier at [] none name value given = absurd (none_given value given)
are_allowed keys earlier at (word ∷ words) none name value given =
    let here = passed (is_good keys earlier word) (first_bad keys (earlier ++ word ∷ []) (at + 1) words) at none in
    let parts = good_parts keys earlier word here.0 in
    found (bytes_eq (key_of word) name) (value_of word) value (value_among name words) _
    (λ named is.
    (sym (λ i. allows keys ((bytes_eq-Decides (key_of word) name).0 named i) (is i)) ∙ parts.1, sym (ap is_word is) ∙ is_word-value_of word parts.0))
    (are_allowed keys (earlier ++ word ∷ []) (at + 1) words here.1 name value)
    given

pub are_words : (keys : List Key) (earlier : List (List ℕ)) (at : ℕ) (words : List (List ℕ)) → first_bad keys earlier at words ≡ None → list_all is_word words ≡ true
are_words keys earlier at [] none = refl
are_words keys earlier at (word ∷ words) none =
    let here = passed (is_good keys earlier word) (first_bad keys (earlier ++ word ∷ []) (at + 1) words) at none in
    let parts = good_parts keys earlier word here.0 in
    and_from (is_word word) (list_all is_word words) parts.0 (are_words keys (earlier ++ word ∷ []) (at + 1) words here.1)

-- The words in the order of the keys.

-- what the first key gives, and what the others give
either_gives : {A : Type 0} (b c : Bool) (whole first : Option A) → (b ≡ true → first ≡ whole) → (if b then first else (if c then whole else None)) ≡ (if b || c then whole else None)
either_gives true c whole first same = same refl
either_gives false c whole first same = refl

others_give : {A : Type 0} (b c : Bool) (whole : Option A) → (b ≡ true → whole ≡ None) → (if c then whole else None) ≡ (if b || c then whole else None)
others_give true true whole none = refl
others_give true false whole none = sym (none refl)
others_give false c whole none = refl

given_by : (name : List ℕ) (k : Key) (keys : List Key) (words : List (List ℕ)) (given : Option (List ℕ)) → value_among k.name words ≡ given → is_key k.name ≡ true
    → value_among name (ordered keys words) ≡ (if has_name name keys then value_among name words else None)
    → value_among name (words_with ((k.name, given) ∷ fields_read keys words)) ≡ (if has_name name (k ∷ keys) then value_among name words else None)
given_by name k keys words None is key others =
    others ∙ others_give (bytes_eq k.name name) (has_name name keys) (value_among name words) (λ named. ap (λ (n : List ℕ). value_among n words) (sym ((bytes_eq-Decides k.name name).0 named)) ∙ is)
given_by name k keys words (Some value) is key others =
    (λ i. if bytes_eq (key_of-word_with k.name value key i) name then Some (value_of-word_with k.name value key i) else others i)
    ∙ either_gives (bytes_eq k.name name) (has_name name keys) (value_among name words) (Some value) (λ named. sym is ∙ ap (λ (n : List ℕ). value_among n words) ((bytes_eq-Decides k.name name).0 named))

parts_of : (k : Key) (keys : List Key) → is_table (k ∷ keys) ≡ true → (is_key k.name ≡ true) × (not (has_name k.name keys) ≡ true) × (is_table keys ≡ true)
parts_of k keys table = let front = (and_parts _ _ table).0 in ((and_parts _ _ front).0, (and_parts _ _ front).1, (and_parts _ _ table).1)

-- the words in the order of the keys give each of them the same value
pub value_ordered : (name : List ℕ) (keys : List Key) (words : List (List ℕ)) → is_table keys ≡ true → value_among name (ordered keys words) ≡ (if has_name name keys then value_among name words else None)
value_ordered name [] words table = refl
value_ordered name (k ∷ keys) words table =
    let parts = parts_of k keys table in
    given_by name k keys words (value_among k.name words) refl parts.0 (value_ordered name keys words parts.2)

-- no earlier word gives one of these keys a value
abbrev AreFresh : List Key → List (List ℕ) → Type 0
AreFresh keys earlier = (name : List ℕ) → has_name name keys ≡ true → has_key name earlier ≡ false

word_good : (keys : List Key) (earlier : List (List ℕ)) (name value : List ℕ) → is_key name ≡ true → (allows keys name value ≡ true) × (is_word value ≡ true) → has_key name earlier ≡ false → is_good keys earlier (word_with name value) ≡ true
word_good keys earlier name value key good fresh =
    let word = is_word-word_with name value key good.1 in
    let equals = has_equals-word_with name value key in
    let allowed : allows keys (key_of (word_with name value)) (value_of (word_with name value)) ≡ true = (λ i. allows keys (key_of-word_with name value key i) (value_of-word_with name value key i)) ∙ good.0 in
    let new : not (has_key (key_of (word_with name value)) earlier) ≡ true = (λ i. not (has_key (key_of-word_with name value key i) earlier)) ∙ not_from_false (has_key name earlier) fresh in
    λ i. word i && equals i && allowed i && new i

still_fresh : (k : Key) (keys : List Key) (earlier : List (List ℕ)) (value : List ℕ) → is_table (k ∷ keys) ≡ true → AreFresh (k ∷ keys) earlier → AreFresh keys (earlier ++ word_with k.name value ∷ [])
still_fresh k keys earlier value table fresh name has =
    let parts = parts_of k keys table in
    let other : bytes_eq k.name name ≡ false = false_from_ne_true (bytes_eq k.name name) (λ named. true≢false (sym has ∙ ap (λ (n : List ℕ). has_name n keys) (sym ((bytes_eq-Decides k.name name).0 named)) ∙ not-true (has_name k.name keys) parts.1)) in
    list_any-append (λ w. bytes_eq (key_of w) name) earlier (word_with k.name value ∷ [])
    ∙ or_from (has_key name earlier) (has_key name (word_with k.name value ∷ [])) (fresh name (or_right (bytes_eq k.name name) (has_name name keys) has))
    (or_from (bytes_eq (key_of (word_with k.name value)) name) false (ap (λ (n : List ℕ). bytes_eq n name) (key_of-word_with k.name value parts.0) ∙ other) refl)

-- none of these words is bad, where those before them give values to none of these keys
abbrev AreGood : List Key → List Key → List (List ℕ) → Type 0
AreGood all keys words = (earlier : List (List ℕ)) (at : ℕ) → AreFresh keys earlier → first_bad all earlier at (ordered keys words) ≡ None

good_with : (all : List Key) (k : Key) (keys : List Key) (words : List (List ℕ)) (given : Option (List ℕ)) → value_among k.name words ≡ given → is_table (k ∷ keys) ≡ true → AreAllowed all words → AreGood all keys words
    → (earlier : List (List ℕ)) (at : ℕ) → AreFresh (k ∷ keys) earlier → first_bad all earlier at (words_with ((k.name, given) ∷ fields_read keys words)) ≡ None
good_with all k keys words None is table allowed good earlier at fresh = good earlier at (λ name has. fresh name (or_right (bytes_eq k.name name) (has_name name keys) has))
good_with all k keys words (Some value) is table allowed good earlier at fresh =
    let parts = parts_of k keys table in
    let here = word_good all earlier k.name value parts.0 (allowed k.name value is) (fresh k.name (or_left (bytes_eq k.name k.name) (has_name k.name keys) ((bytes_eq-Decides k.name k.name).1 refl))) in
    (λ i. if here i then first_bad all (earlier ++ word_with k.name value ∷ []) (at + 1) (ordered keys words) else Some at)
    ∙ good (earlier ++ word_with k.name value ∷ []) (at + 1) (still_fresh k keys earlier value table fresh)

are_good : (all keys : List Key) (words : List (List ℕ)) → is_table keys ≡ true → AreAllowed all words → AreGood all keys words
are_good all [] words table allowed = λ earlier at fresh. refl
are_good all (k ∷ keys) words table allowed = good_with all k keys words (value_among k.name words) refl table allowed (are_good all keys words (parts_of k keys table).2 allowed)

-- none of the words in the order of the keys is bad
pub none_bad : (keys : List Key) (words : List (List ℕ)) (at : ℕ) → is_table keys ≡ true → AreAllowed keys words → first_bad keys [] at (ordered keys words) ≡ None
none_bad keys words at table allowed = are_good keys keys words table allowed [] at (λ name has. refl)

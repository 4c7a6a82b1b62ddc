-- A form is read again from its words in the order of the keys, where its values are spelled in one way.
use Rattle.site_types.proofs.Common.{◌≡◌, ℕ, List, [], ◌∷◌, ◌++◌, length, drop, map, Bool, true, false, cond, if◌then◌else◌, Option, Some, None, Result, Ok, Err, refl, sym, ap, ◌∙◌, find, IfSome, list_all, list_any, join_with_byte, slice_split, list_all-append, bytes_eq, and_from, or_left, or_right, bytes_eq-Decides, Form, begins, count_of, form_among, form_named, form_names, form_words, row_stated, spelled, words_behind, Key, Given, is_word, allows, first_bad, given_among, value_among, has_name, Field, fields_by, is_space, words_of, words_with, IsFormed, Request}
use Rattle.std.specs.Prelude.{option_map}
use Rattle.site_types.specs.Forms.{forms}
use Rattle.site_types.specs.Requests.{unless_bad, form_read, formless, read_as, read_words}
use Rattle.site_types.specs.declared.forms.Form.{Form as Row}
use Rattle.site_types.specs.declared.forms.FormName.{FormName}
use Rattle.site_types.specs.declared.forms.FormName.TheVariants as form
use Rattle.site_types.proofs.FormLemmas.{is_table, ordered, fields_read, are_allowed, are_words, value_ordered, none_bad}
use Rattle.site_types.proofs.OptionLemmas.{guarded, same_value}
use Rattle.site_types.proofs.WordLemmas.{split_line}

no_error : {P : Type 0} (index : ℕ) (r : Request) → Err index ≡ Ok r → P
no_error index r is = absurd (cc is)

-- what was read: no word is bad, and the values make the request
pub read_parts : (bad : Option ℕ) (made : Option Request) (count : ℕ) (r : Request) → unless_bad bad made count ≡ Ok r → (bad ≡ None) × (made ≡ Some r)
read_parts (Some index) made count r is = no_error index r is
read_parts None None count r is = no_error count r is
read_parts None (Some request) count r is = (refl, ap (λ (result : Result Request ℕ). elim result [ Ok x ↦ Some x | Err e ↦ Some request ]) is)

-- given values are those of the keys' grammars
abbrev pub Fit : List Key → Given → Type 0
Fit keys v = (name value : List ℕ) → v name ≡ Some value → allows keys name value ≡ true

-- the texts that are given to keys, in their order
abbrev pub texts_of : List Key → Given → List (Option (List ℕ))
texts_of keys v = map (λ k. v k.name) keys

-- What holds of each row: what its values make is written as that form, and as these values.
abbrev pub Spells : FormName → Type 0
Spells name = (v : Given) (r : Request) → Fit (form_named name).keys v → (form_named name).made v ≡ Some r → spelled r ≡ (name, texts_of (form_named name).keys v)

-- the keys of each form are a table, its words are words, and they are found
abbrev AreFound : FormName → Type 0
AreFound name = (words : List (List ℕ)) → form_among (form_words (form_named name) ++ words) ≡ Some (form_named name)

are_found : (name : FormName) → AreFound name
unfolding forms
are_found form.UnitAdd = λ words. refl
are_found _ = λ words. refl

are_tables : (name : FormName) → is_table (form_named name).keys ≡ true
are_tables form.UnitAdd = refl
are_tables _ = refl

are_plain : (name : FormName) → list_all is_word (form_words (form_named name)) ≡ true
are_plain form.UnitAdd = refl
are_plain _ = refl

behind : (f : Form) (words : List (List ℕ)) → drop (count_of f.second) (form_words f ++ words) ≡ words
behind f words = at f.second
  where
    at : (second : Option (List ℕ)) → drop (count_of second) ((f.first ∷ words_behind second) ++ words) ≡ words
    at None = refl
    at (Some s) = refl

-- the fields of keys that are all among a form's are those that were read
given_fields : (all keys : List Key) (words : List (List ℕ)) → ((name : List ℕ) → has_name name keys ≡ true → has_name name all ≡ true) → fields_by keys (texts_of keys (given_among all words)) ≡ fields_read keys words
given_fields all [] words among = refl
given_fields all (k ∷ keys) words among =
    let here : has_name k.name all ≡ true = among k.name (or_left (bytes_eq k.name k.name) (has_name k.name keys) ((bytes_eq-Decides k.name k.name).1 refl)) in
    λ i. (k.name, if here i then value_among k.name words else None) ∷ given_fields all keys words (λ name has. among name (or_right (bytes_eq k.name name) (has_name name keys) has)) i

twice : {A : Type 0} (b : Bool) (x y : Option A) → x ≡ (if b then y else None) → (if b then x else None) ≡ (if b then y else None)
twice true x y is = is
twice false x y is = refl

-- the words in the order of the keys give the same values
given_same : (keys : List Key) (words : List (List ℕ)) → is_table keys ≡ true → given_among keys (ordered keys words) ≡ given_among keys words
given_same keys words table = λ i name. twice (has_name name keys) (value_among name (ordered keys words)) (value_among name words) (value_ordered name keys words table) i

-- A form that words begin with is a row of the table, and begins them.

pub found_row : (words : List (List ℕ)) (p : Form → Bool) (names : List FormName) (f : Form) → find p (map form_named names) ≡ Some f → (name : FormName) × (f ≡ form_named name) × (p f ≡ true)
found_row words p [] f is = absurd (cc is)
found_row words p (name ∷ names) f is = at (p (form_named name)) refl (found_row words p names f) is
  where
    at : (b : Bool) → p (form_named name) ≡ b → (find p (map form_named names) ≡ Some f → (n : FormName) × (f ≡ form_named n) × (p f ≡ true)) → cond b (Some (form_named name)) (find p (map form_named names)) ≡ Some f → (n : FormName) × (f ≡ form_named n) × (p f ≡ true)
    at true passes later here = (name, sym (same_value (form_named name) f here), ap p (sym (same_value (form_named name) f here)) ∙ passes)
    at false passes later here = later here

named_so : (name : FormName) → (form_named name).name ≡ name
named_so form.UnitAdd = refl
named_so _ = refl

row_found : (words : List (List ℕ)) (r : Row) → Some (row_stated r) ≡ form_among words → (name : FormName) × (row_stated r ≡ form_named name) × (begins (row_stated r).first (row_stated r).second words ≡ true)
unfolding forms
row_found words r is = found_row words (λ f. begins f.first f.second words) form_names (row_stated r) (sym is)

pub row_is : (words : List (List ℕ)) (o : Option Row) → option_map row_stated o ≡ form_among words → IfSome o (λ r. row_stated r ≡ form_named r.name)
row_is words None is = tt
row_is words (Some r) is = let found = row_found words r is in found.1 ∙ ap form_named (sym (ap (λ (f : Form). f.name) found.1 ∙ named_so found.0))

pub row_begins : (words : List (List ℕ)) (o : Option Row) → option_map row_stated o ≡ form_among words → IfSome o (λ r. begins (row_stated r).first (row_stated r).second words ≡ true)
row_begins words None is = tt
row_begins words (Some r) is = (row_found words r is).2

-- What a form's words ask for is read again from its line.
form_reread : (name : FormName) → Spells name → (words : List (List ℕ)) (r : Request) → form_read (form_named name) words ≡ Ok r → IsFormed r
form_reread name spells words r is =
    let f : Form = form_named name in
    let at : ℕ = count_of f.second in
    let further : List (List ℕ) = drop at words in
    let parts = read_parts (first_bad f.keys [] at further) (f.made (given_among f.keys further)) (length words) r is in
    let table : is_table f.keys ≡ true = are_tables name in
    let allowed = are_allowed f.keys [] at further parts.0 in
    let good = none_bad f.keys further at table allowed in
    let fields : fields_by f.keys (texts_of f.keys (given_among f.keys further)) ≡ fields_read f.keys further = given_fields f.keys f.keys further (λ name has. has) in
    let plain : list_all is_word (form_words f ++ ordered f.keys further) ≡ true = list_all-append is_word (form_words f) (ordered f.keys further) ∙ and_from _ _ (are_plain name) (are_words f.keys [] at (ordered f.keys further) good) in
    let written : words_of r ≡ form_words f ++ ordered f.keys further =
    ap (λ (s : FormName × List (Option (List ℕ))). form_words (form_named s.0) ++ words_with (fields_by (form_named s.0).keys s.1)) (spells (given_among f.keys further) r (λ key value given. (allowed key value (guarded (has_name key f.keys) (value_among key further) value given).1).0) parts.1)
    ∙ ap (λ (l : List Field). form_words f ++ words_with l) fields in
    ap (λ (ws : List (List ℕ)). read_words (slice_split is_space (join_with_byte 32 ws))) written
    ∙ ap read_words (split_line f.first (words_behind f.second ++ ordered f.keys further) plain)
    ∙ ap (λ (o : Option Form). read_as o (form_words f ++ ordered f.keys further)) (are_found name (ordered f.keys further))
    ∙ (λ i. unless_bad (first_bad f.keys [] at (behind f (ordered f.keys further) i)) (f.made (given_among f.keys (behind f (ordered f.keys further) i))) (length (form_words f ++ ordered f.keys further)))
    ∙ (λ i. unless_bad (good i) (f.made (given_same f.keys further table i)) (length (form_words f ++ ordered f.keys further)))
    ∙ ap (λ (o : Option Request). unless_bad None o (length (form_words f ++ ordered f.keys further))) parts.1

pub words_reread : ((name : FormName) → Spells name) → (words : List (List ℕ)) (r : Request) → read_words words ≡ Ok r → IsFormed r
unfolding forms
words_reread spells words r is = at (form_among words) refl is
  where
    at : (o : Option Form) → form_among words ≡ o → read_as o words ≡ Ok r → IsFormed r
    at None found read = no_error (formless words) r read
    at (Some f) found read =
        let row = found_row words (λ g. begins g.first g.second words) form_names f found in
        form_reread row.0 (spells row.0) words r (ap (λ (g : Form). form_read g words) (sym row.1) ∙ read)

-- the index of a word that is none of a form, by the rows of the table
pub formless_by : (words rest : List (List ℕ)) (word front : List ℕ) (rows : List Form) (b : Bool) → words ≡ word ∷ rest → front ≡ word → rows ≡ forms → b ≡ list_any (λ f. bytes_eq f.first front) rows → formless words ≡ (if b then 1 else 0)
formless_by words rest word front rows b is same are test =
    ap formless is ∙ (λ i. if list_any (λ f. bytes_eq f.first (sym same i)) (sym are i) then 1 else 0) ∙ (λ i. if sym test i then 1 else 0)

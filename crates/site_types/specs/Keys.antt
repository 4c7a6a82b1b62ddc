-- Words that give values to the keys of a form.
use Rattle.std.specs.Prelude.{ℕ, ◌+◌, Bool, false, ◌&&◌, not, ◌==◌, nat_le, if◌then◌else◌, List, [], ◌∷◌, ◌++◌, Option, Some, None, is_some, position}
use Rattle.std.specs.List.{before_first, after_first, list_all, list_any}
use Rattle.std.specs.Option.{option_and_then}
use Rattle.std.specs.Str.{bytes_eq}
use Rattle.site_types.specs.Calendars.{calendar_of}
use Rattle.site_types.specs.Ids.{is_id}
use Rattle.site_types.specs.Names.{is_name}
use Rattle.site_types.specs.Numbers.{number_between}
use Rattle.site_types.specs.Paths.{path_of}
use Rattle.site_types.specs.Values.{kind_of, type_of, yes_or_no, start_of}
use Rattle.site_types.specs.WindowWords.{windows_of}
use Rattle.site_types.specs.ZoneWords.{rule_of, offset_of}
use Rattle.site_types.specs.declared.keys.Grammar.{Grammar}
use Rattle.site_types.specs.declared.keys.Grammar.TheVariants as grammar
use Rattle.site_types.specs.declared.keys.FormKey.{FormKey}

-- a key of a form, and the grammar of its values
pub record Key : Type 0 where
  pub name : List ℕ
  pub grammar : Grammar

-- a printed character of ASCII other than the space
abbrev pub is_word_byte : ℕ → Bool
is_word_byte c = nat_le 33 c && nat_le c 126

abbrev pub is_word : List ℕ → Bool
is_word word = list_all is_word_byte word

abbrev pub is_equals : ℕ → Bool
is_equals c = c == 61

abbrev pub has_equals : List ℕ → Bool
has_equals word = is_some (position is_equals word)

-- what stands before the first equals sign of a word, and behind it
abbrev pub key_of : List ℕ → List ℕ
key_of word = before_first is_equals word

abbrev pub value_of : List ℕ → List ℕ
value_of word = after_first is_equals word

-- the values that a grammar has
abbrev pub is_of : Grammar → List ℕ → Bool
is_of grammar.Name value = is_name value
is_of grammar.Id value = is_id value
is_of (grammar.Number least greatest) value = is_some (number_between least greatest value)
is_of grammar.Windows value = is_some (windows_of value)
is_of grammar.Calendar value = is_some (calendar_of value)
is_of grammar.Kind value = is_some (kind_of value)
is_of grammar.PolicyType value = is_some (type_of value)
is_of grammar.YesOrNo value = is_some (yes_or_no value)
is_of grammar.Start value = is_some (start_of value)
is_of grammar.Path value = is_some (path_of value)
is_of grammar.Rule value = is_some (rule_of value)
is_of grammar.Offset value = is_some (offset_of value)

-- the number that a text spells where the grammar has numbers
abbrev pub number_of : Grammar → List ℕ → Option ℕ
number_of (grammar.Number least greatest) text = number_between least greatest text
number_of _ text = None

-- and the greatest that there is
abbrev pub greatest_of : Grammar → ℕ
greatest_of (grammar.Number least greatest) = greatest
greatest_of _ = 0

-- the key of this name is among these, and may have this value
abbrev pub allows : List Key → List ℕ → List ℕ → Bool
allows [] name value = false
allows (k ∷ ks) name value = if bytes_eq name k.name then is_of k.grammar value else allows ks name value

-- one of these words gives this key a value
abbrev pub has_key : List ℕ → List (List ℕ) → Bool
has_key key words = list_any (λ w. bytes_eq (key_of w) key) words

-- the word is a key of the form and a value that it may have, and no earlier word gives that key one
abbrev pub is_good : List Key → List (List ℕ) → List ℕ → Bool
is_good keys earlier word = is_word word && has_equals word && allows keys (key_of word) (value_of word) && not (has_key (key_of word) earlier)

-- the index of the first word that isn't good, where the first of them has this index
abbrev pub first_bad : List Key → List (List ℕ) → ℕ → List (List ℕ) → Option ℕ
first_bad keys earlier index [] = None
first_bad keys earlier index (word ∷ words) = if is_good keys earlier word then first_bad keys (earlier ++ word ∷ []) (index + 1) words else Some index

-- the value that the words give to a key
abbrev pub value_among : List ℕ → List (List ℕ) → Option (List ℕ)
value_among key [] = None
value_among key (word ∷ words) = if bytes_eq (key_of word) key then Some (value_of word) else value_among key words

-- one of these keys has this name
abbrev pub has_name : List ℕ → List Key → Bool
has_name name keys = list_any (λ k. bytes_eq k.name name) keys

-- the texts that are given to keys, by their names
abbrev pub Given : Type 0
Given = List ℕ → Option (List ℕ)

-- those that words give to the keys of a form
abbrev pub given_among : List Key → List (List ℕ) → Given
given_among keys words name = if has_name name keys then value_among name words else None

-- the value that is given to a key, and that number
abbrev pub value_in : {A : Type 0} → (List ℕ → Option A) → Given → Key → Option A
value_in spelled given k = option_and_then spelled (given k.name)

abbrev pub number_in : Given → Key → Option ℕ
number_in given k = value_in (number_of k.grammar) given k

-- what the value that the words give to a key spells
abbrev pub among : {A : Type 0} → (List ℕ → Option A) → List ℕ → List (List ℕ) → Option A
among spelled key words = option_and_then spelled (value_among key words)

-- the value as it stands, where it is a name
abbrev pub name_of : List ℕ → Option (List ℕ)
name_of value = if is_name value then Some value else None

-- a key as the tables of forms have it
abbrev pub key_stated : FormKey → Key
key_stated key = record { name = key.name.now; grammar = key.grammar }

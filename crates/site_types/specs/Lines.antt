-- Requests as they are written: the words of a form, and those of the keys that have a value, in the order of their table.
use Rattle.std.specs.Prelude.{◌≡◌, ℕ, ◌==◌, Bool, List, [], ◌∷◌, ◌++◌, codes, Option, Some, None, Result, Ok}
use Rattle.std.specs.List.{join_with_byte, slice_split}
use Rattle.site_types.specs.Forms.{form_of, form_words, spelled}
use Rattle.site_types.specs.Keys.{Key}
use Rattle.site_types.specs.Requests.{read_words}
use Rattle.site_types.specs.declared.request.Request.{Request}

-- a key, and the text of its value where it is given
abbrev pub Field : Type 0
Field = List ℕ × Option (List ℕ)

abbrev pub given : List ℕ → List ℕ → Field
given key value = (key, Some value)

abbrev pub word_with : List ℕ → List ℕ → List ℕ
word_with key value = key ++ codes "=" ++ value

abbrev pub words_with : List Field → List (List ℕ)
words_with [] = []
words_with ((key, None) ∷ fields) = words_with fields
words_with ((key, Some value) ∷ fields) = word_with key value ∷ words_with fields

-- keys, each with the text of its value
abbrev pub fields_by : List Key → List (Option (List ℕ)) → List Field
fields_by [] texts = []
fields_by (k ∷ keys) [] = []
fields_by (k ∷ keys) (text ∷ texts) = (k.name, text) ∷ fields_by keys texts

-- the keys of a request's form, with its values
abbrev pub fields_of : Request → List Field
fields_of request = fields_by (form_of request).keys (spelled request).1

abbrev pub words_of : Request → List (List ℕ)
words_of request = form_words (form_of request) ++ words_with (fields_of request)

-- its words, joined by single spaces
abbrev pub line_of : Request → List ℕ
line_of request = join_with_byte 32 (words_of request)

abbrev pub is_space : ℕ → Bool
is_space c = c == 32

-- what the words of a line ask for
abbrev pub read_line : List ℕ → Result Request ℕ
read_line line = read_words (slice_split is_space line)

-- a request is formed where what is written of it is read as it: its values have their keys' grammars, and go together
abbrev pub IsFormed : Request → Type 0
IsFormed request = read_line (line_of request) ≡ Ok request

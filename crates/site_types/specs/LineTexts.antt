-- What keys add to a line.
use Rattle.std.specs.Prelude.{ℕ, List, [], ◌∷◌, Some, None}
use Rattle.std.specs.List.{flat_map, join_with_byte}
use Rattle.site_types.specs.Forms.{form_of, form_words}
use Rattle.site_types.specs.Lines.{Field, word_with}
use Rattle.site_types.specs.declared.request.Request.{Request}

-- a word, behind a space
unfoldable pub word_text : List ℕ → List ℕ → List ℕ
word_text key value = 32 ∷ word_with key value

-- nothing where the key has no value
abbrev pub field_text : Field → List ℕ
field_text (key, None) = []
field_text (key, Some value) = word_text key value

abbrev pub fields_text : List Field → List ℕ
fields_text fields = flat_map field_text fields

abbrev pub form_text : Request → List ℕ
form_text request = join_with_byte 32 (form_words (form_of request))

-- Requests as words: a form, and further words that give values to its keys.
use Rattle.std.specs.Prelude.{◌≡◌, ◌≤◌, ℕ, Bool, if◌then◌else◌, List, [], ◌∷◌, length, drop, Option, Some, None, Result, Ok, Err}
use Rattle.std.specs.List.{list_any}
use Rattle.std.specs.Str.{bytes_eq}
use Rattle.site_types.specs.Classes.{class_of, has_payload}
use Rattle.site_types.specs.Forms.{Form, forms, form_among, count_of}
use Rattle.site_types.specs.Keys.{first_bad, given_among}
use Rattle.site_types.specs.declared.request.Request.{Request}
use Rattle.site_types.specs.declared.request.WordFault.{WordFault}
use Rattle.site_types.specs.declared.request.WordFault.TheVariants.{Bad, NoMemory}

-- the request, or the index of the bad word; the number of words where one is missing, or values don't go together
abbrev pub unless_bad : Option ℕ → Option Request → ℕ → Result Request ℕ
unless_bad (Some index) request count = Err index
unless_bad None None count = Err count
unless_bad None (Some request) count = Ok request

-- what words ask for that begin with those of a form
abbrev pub form_read : Form → List (List ℕ) → Result Request ℕ
form_read f words =
    let further = drop (count_of f.second) words in
    unless_bad (first_bad f.keys [] (count_of f.second) further) (f.made (given_among f.keys further)) (length words)

-- the index of the word that is none of a form: the second one where some form begins with the first
abbrev pub formless : List (List ℕ) → ℕ
formless [] = 0
formless (word ∷ words) = if list_any (λ f. bytes_eq f.first word) forms then 1 else 0

abbrev pub read_as : Option Form → List (List ℕ) → Result Request ℕ
read_as None words = Err (formless words)
read_as (Some f) words = form_read f words

-- what these words ask for, or the index of the first bad one
abbrev pub read_words : List (List ℕ) → Result Request ℕ
read_words words = read_as (form_among words) words

-- a result of reading words is what they ask for, or want of memory
abbrev pub IsReading : Result Request WordFault → Result Request ℕ → Type 0
IsReading (Ok request) read = read ≡ Ok request
IsReading (Err (Bad index)) read = read ≡ Err index
IsReading (Err NoMemory) read = Unit {0}

-- a bad word's index is at most this number
abbrev pub IsWithin : Result Request WordFault → ℕ → Type 0
IsWithin (Ok request) count = Unit {0}
IsWithin (Err (Bad index)) count = index ≤ count
IsWithin (Err NoMemory) count = Unit {0}

-- requests whose line may name a payload
abbrev pub takes_payload : Request → Bool
takes_payload request = has_payload (class_of request)

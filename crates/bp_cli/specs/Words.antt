-- The words of a single request: a moment, where it names one, and the request.
use Rattle.std.specs.Prelude.{◌≡◌, ℕ, ◌+◌, Bool, false, ◌==◌, if◌then◌else◌, List, [], ◌∷◌, codes, drop, Option, Some, None, Result, Ok, Err}
use Rattle.std.specs.Str.{bytes_eq}
use Rattle.site_types.specs.Numbers.{number_up_to}
use Rattle.site_types.specs.Requests.{read_words}
use Rattle.site_types.specs.declared.request.Request.{Request}
use Rattle.site_types.specs.declared.request.WordFault.{WordFault}
use Rattle.site_types.specs.declared.request.WordFault.TheVariants.{Bad, NoMemory}
use Rattle.site_types.specs.Limits.{last_moment}
use Rattle.bp_cli.specs.declared.words.TimedRequest.{TimedRequest}

-- a word that begins with @
abbrev pub is_moment : List ℕ → Bool
is_moment [] = false
is_moment (c ∷ cs) = c == 64

-- the moment that such a word names
abbrev pub moment_of : List ℕ → Option ℕ
moment_of word = number_up_to last_moment (drop 1 word)

abbrev pub at_moment : Option ℕ → Result Request ℕ → Result TimedRequest ℕ
at_moment None read = Err 0
at_moment (Some moment) (Ok request) = Ok (record { moment = Some moment; request = request })
at_moment (Some moment) (Err index) = Err (index + 1)

abbrev pub without_moment : Result Request ℕ → Result TimedRequest ℕ
without_moment (Ok request) = Ok (record { moment = None; request = request })
without_moment (Err index) = Err index

-- what the words ask for, or the index of the first bad one
abbrev pub timed_request : List (List ℕ) → Result TimedRequest ℕ
timed_request [] = Err 0
timed_request (word ∷ words) = if is_moment word then at_moment (moment_of word) (read_words words) else without_moment (read_words (word ∷ words))

-- the first word is session; and it is the only one
abbrev pub names_session : List (List ℕ) → Bool
names_session [] = false
names_session (word ∷ words) = bytes_eq word (codes "session")

abbrev pub is_session : List (List ℕ) → Bool
is_session (word ∷ []) = bytes_eq word (codes "session")
is_session _ = false

-- a result of reading words is what they ask for, or want of memory
abbrev pub IsTimedReading : Result TimedRequest WordFault → Result TimedRequest ℕ → Type 0
IsTimedReading (Ok said) read = read ≡ Ok said
IsTimedReading (Err (Bad index)) read = read ≡ Err index
IsTimedReading (Err NoMemory) read = Unit {0}

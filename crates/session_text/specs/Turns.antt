-- The turns of a session: its text as requests with their payloads.
use Rattle.std.specs.Prelude.{ℕ, zero, suc, ◌+◌, ◌-◌, nat_lt, nat_le, Bool, ◌==◌, if◌then◌else◌, List, [], ◌∷◌, length, take, drop, codes, Option, Some, None, position, slice_index_or, option_map}
use Rattle.std.specs.List.{slice_split, starts_with, ends_with}
use Rattle.site_types.specs.Limits.{payload_limit}
use Rattle.site_types.specs.Numbers.{number_up_to}

-- the greatest number of bytes that a line has before its line feed
abbrev pub line_limit : ℕ
line_limit = 8192

-- what comes next in a session: a request with its payload, or a fault in the framing with the index of the word that it is seen at
pub data Turn : Type 0 where
  request : (words : List (List ℕ)) (payload : List ℕ) → Turn
  broken : ℕ → Turn

abbrev pub is_space : ℕ → Bool
is_space byte = byte == 32

abbrev pub is_line_feed : ℕ → Bool
is_line_feed byte = byte == 10

-- the words of a line: the parts between its single spaces; of no bytes it is one empty word
abbrev pub words_of : List ℕ → List (List ℕ)
words_of line = slice_split is_space line

-- a line without the carriage return at its end
abbrev pub without_return : List ℕ → List ℕ
without_return line = if ends_with ◌==◌ line (13 ∷ []) then take (length line - 1) line else line

-- the last of some words
abbrev pub last_word : List (List ℕ) → List ℕ
last_word words = slice_index_or words (length words - 1) []

-- the word names a payload
abbrev pub is_payload_word : List ℕ → Bool
is_payload_word word = starts_with ◌==◌ word (codes "payload=")

-- the size of the payload that a word names, and 0 of any other word; none where it is no size
abbrev pub size_of : List ℕ → Option ℕ
size_of word = if is_payload_word word then number_up_to payload_limit (drop 8 word) else Some 0

-- the size of the payload that the last of the words names
abbrev pub payload_size : List (List ℕ) → Option ℕ
payload_size words = size_of (last_word words)

-- the words without the one that names the payload
abbrev pub asked_words : List (List ℕ) → List (List ℕ)
asked_words words = if is_payload_word (last_word words) then take (length words - 1) words else words

-- the index of the last word
abbrev pub last_index : List (List ℕ) → ℕ
last_index words = length words - 1

-- the request of these words, with a payload of this size from the front of a text; none where the text is too short
abbrev pub cut_payload : List (List ℕ) → Option ℕ → List ℕ → Option (Turn × List ℕ)
cut_payload words None text = Some (broken (last_index words), text)
cut_payload words (Some size) text = if nat_le size (length text) then Some (request (asked_words words) (take size text), drop size text) else None

-- the turn of these words, of which the line consists, and of the text behind it
abbrev pub turn_of : List (List ℕ) → List ℕ → Option (Turn × List ℕ)
turn_of words behind = cut_payload words (payload_size words) behind

-- where the first line of a text ends, if it isn't too long
abbrev pub line_end : List ℕ → Option ℕ
line_end text = position is_line_feed (take (line_limit + 1) text)

-- the words of a line that ends here
abbrev pub words_before : ℕ → List ℕ → List (List ℕ)
words_before end text = words_of (without_return (take end text))

abbrev pub turn_at : Option ℕ → List ℕ → Option (Turn × List ℕ)
turn_at None text = if nat_lt line_limit (length text) then Some (broken 0, text) else None
turn_at (Some end) text = turn_of (words_before end text) (drop (end + 1) text)

-- the first turn of a text that may go on, and what stands behind it; none where the text doesn't hold it whole
abbrev pub whole_turn : List ℕ → Option (Turn × List ℕ)
whole_turn text = turn_at (line_end text) text

-- the turn of a last line without its line feed
abbrev pub turn_without_end : List (List ℕ) → Option ℕ → Turn
turn_without_end words None = broken (last_index words)
turn_without_end words (Some zero) = request (asked_words words) []
turn_without_end words (Some (suc more)) = broken (last_index words)

-- a whole line behind which the payload is cut off, or a line without its line feed
abbrev pub cut_off : Option ℕ → List ℕ → Turn
cut_off (Some end) text = broken (last_index (words_before end text))
cut_off None text = turn_without_end (words_of text) (payload_size (words_of text))

-- the turn at the end of a source, where the text holds no whole turn
abbrev pub last_turn : List ℕ → Option Turn
last_turn [] = None
last_turn (byte ∷ text) = Some (cut_off (line_end (byte ∷ text)) (byte ∷ text))

abbrev pub or_last : Option (Turn × List ℕ) → List ℕ → Option (Turn × List ℕ)
or_last (Some turn) text = Some turn
or_last None text = option_map (λ turn. (turn, [])) (last_turn text)

-- the first turn of a text that ends with its source, and what stands behind it
abbrev pub first_turn : List ℕ → Option (Turn × List ℕ)
first_turn text = or_last (whole_turn text) text

-- a turn, and the turns of the text behind it; none behind a fault in the framing
abbrev pub turns_from : (List ℕ → List Turn) → Option (Turn × List ℕ) → List Turn
turns_from more None = []
turns_from more (Some (request words payload, rest)) = request words payload ∷ more rest
turns_from more (Some (broken index, rest)) = broken index ∷ []

abbrev pub turns_up_to : (List ℕ → Option (Turn × List ℕ)) → ℕ → List ℕ → List Turn
turns_up_to turn zero text = []
turns_up_to turn (suc count) text = turns_from (turns_up_to turn count) (turn text)

-- all turns of a text that ends with its source: each takes a byte at least
abbrev pub turns : List ℕ → List Turn
turns text = turns_up_to first_turn (length text) text

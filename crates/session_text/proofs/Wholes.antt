-- Whole turns, and those that are cut off.
use Rattle.session_text.proofs.Common.{first_turn, ◌≡◌, ◌<◌, ◌≤◌, ◌+◌, ℕ, zero, suc, min, List, [], ◌∷◌, ◌++◌, length, take, drop, refl, sym, ◌∙◌, ap, subst, arith, append_assoc, length-append, length-take, take-append-drop, inl, inr, option_map, Option, Some, None, take_all, drop_all, take_at, drop_at, take-take, take-append-le, drop-append-le, drop-drop, length-take-le, drop_min, Turn, request, broken, line_limit, line_end, words_of, without_return, words_before, payload_size, asked_words, last_index, turn_of, turn_at, whole_turn, last_turn, or_last, cut_off, turn_without_end, BreaksAt, IsCut, IsLast}
use Rattle.std.proofs.lemmas.List.{append-nil}
use Rattle.std.proofs.lemmas.Bool.{cases_lt, le-leb, lt-leb, lt-ltb, le-ltb}
use Rattle.session_text.specs.declared.session.Next.{Next}
use Rattle.session_text.specs.declared.session.Next.TheVariants.{Request, Last, Broken, End, Failed, NoMemory}
use Rattle.session_text.proofs.Lines.{line_end-within, line_end-more, line_end-take, line_end-long}
use Rattle.std.proofs.Math.Nat.{min_comm}

-- joined parts of equal length at the front are equal, and so is what stands behind them
same_parts : (a b c d : List ℕ) → length a ≡ length c → a ++ b ≡ c ++ d → (a ≡ c) × (b ≡ d)
same_parts a b c d long is = (
  sym (take_at a b (length a) refl) ∙ (λ i. take (length a) (is i)) ∙ take_at c d (length a) (sym long),
  sym (drop_at a b (length a) refl) ∙ (λ i. drop (length a) (is i)) ∙ drop_at c d (length a) (sym long),
)

pub words_before-more : (end : ℕ) (xs ys : List ℕ) → end ≤ length xs → words_before end (xs ++ ys) ≡ words_before end xs
words_before-more end xs ys le = ap (λ (l : List ℕ). words_of (without_return l)) (take-append-le end xs ys le)

-- the turn of a line in a text that goes on
pub whole_turn-line : (xs ys : List ℕ) (end : ℕ) → line_end xs ≡ Some end → whole_turn (xs ++ ys) ≡ turn_of (words_before end xs) (drop (end + 1) xs ++ ys)
whole_turn-line xs ys end is =
    let within : end < length xs = line_end-within xs end is in
    ap (λ (o : Option ℕ). turn_at o (xs ++ ys)) (line_end-more xs ys end is)
    ∙ (λ i. turn_of (words_before-more end xs ys (omega arith) i) (drop-append-le (end + 1) xs ys (omega arith) i))

-- a payload that has its size: it began with the front of what stood ahead, and is what was read
pub taken : (size : ℕ) (ahead left rest payload : List ℕ) → length payload ≡ size → take size ahead ++ left ≡ payload ++ rest → (size ≤ length (ahead ++ left)) × (take size (ahead ++ left) ≡ payload) × (drop size (ahead ++ left) ≡ drop size ahead ++ rest)
taken size ahead left rest payload long is = elim (cases_lt (length ahead) size) [
  | inl lt ↦
      let all : ahead ++ left ≡ payload ++ rest = rw (take_all size ahead (omega arith)) at is in
      rw (all, drop_all size ahead (omega arith)) (omega (arith, length-append payload rest), take_at payload rest size long, drop_at payload rest size long)
  | inr le ↦
      let both = same_parts (take size ahead) left payload rest (length-take-le size ahead le ∙ sym long) is in
      (omega (arith, length-append ahead left), take-append-le size ahead left le ∙ both.0, rw (drop-append-le size ahead left le, both.1) refl)
]

-- a request is taken off the front of a text
pub whole : (a left rest payload : List ℕ) (end size : ℕ) → line_end a ≡ Some end → payload_size (words_before end a) ≡ Some size → length payload ≡ size → take size (drop (end + 1) a) ++ left ≡ payload ++ rest
    → whole_turn (a ++ left) ≡ Some (request (asked_words (words_before end a)) payload, drop size (drop (end + 1) a) ++ rest)
whole a left rest payload end size ends sized long is =
    let (fits, front, back) = taken size (drop (end + 1) a) left rest payload long is in
    whole_turn-line a left end ends ∙ rw (sized, le-leb size (length (drop (end + 1) a ++ left)) fits, front, back) refl

pub whole_held : (a left rest payload text held stalled : List ℕ) (words : List (List ℕ)) (end size : ℕ) → line_end a ≡ Some end → payload_size (words_before end a) ≡ Some size → length payload ≡ size → take size (drop (end + 1) a) ++ left ≡ payload ++ rest
    → words ≡ asked_words (words_before end a) → text ≡ payload → held ≡ drop (min (length a) (end + 1 + size)) a → stalled ≡ []
    → whole_turn (a ++ left) ≡ Some (request words text, (held ++ stalled) ++ rest)
whole_held a left rest payload text held stalled words end size ends sized long is words_are text_is held_is none =
    let skipped : drop size (drop (end + 1) a) ≡ held = drop-drop size (end + 1) a ∙ sym (drop_min (end + 1 + size) a) ∙ ap (λ (n : ℕ). drop n a) (min_comm (end + 1 + size) (length a)) ∙ sym held_is in
    let all : drop size (drop (end + 1) a) ≡ held ++ stalled = skipped ∙ sym (append-nil held) ∙ ap (λ (l : List ℕ). held ++ l) (sym none) in
    rw (words_are, text_is, ← all) (whole a left rest payload end size ends sized long is)

-- a payload that is cut off: no byte is lost
pub kept_cut : (a left rest payload : List ℕ) (end size : ℕ) → length payload < size → length (take size (drop (end + 1) a)) ≤ length payload → take size (drop (end + 1) a) ++ left ≡ payload ++ rest
    → (take (end + 1) a ++ payload) ++ rest ≡ a ++ left
kept_cut a left rest payload end size short grown is =
    let all : take size (drop (end + 1) a) ≡ drop (end + 1) a = take_all size (drop (end + 1) a) (omega (arith, length-take size (drop (end + 1) a))) in
    rw (append_assoc (take (end + 1) a) payload rest, ← is, all, ← append_assoc (take (end + 1) a) (drop (end + 1) a) left, take-append-drop (end + 1) a) refl

-- a line, and a payload behind it
pub line_end-cut : (a payload : List ℕ) (end : ℕ) → line_end a ≡ Some end → line_end (take (end + 1) a ++ payload) ≡ Some end
line_end-cut a payload end ends = line_end-more (take (end + 1) a) payload end (line_end-take (end + 1) a end (omega arith) ends)

pub words_before-cut : (a : List ℕ) (end : ℕ) → words_before end (take (end + 1) a) ≡ words_before end a
words_before-cut a end = ap (λ (l : List ℕ). words_of (without_return l)) (take-take end (end + 1) a (omega arith))

pub behind_cut : (a payload : List ℕ) (end : ℕ) → drop (end + 1) (take (end + 1) a) ++ payload ≡ payload
behind_cut a payload end = ap (λ (l : List ℕ). l ++ payload) (drop_all (end + 1) (take (end + 1) a) (omega (arith, length-take (end + 1) a)))

pub whole_turn-cut : (a payload : List ℕ) (end : ℕ) → line_end a ≡ Some end → whole_turn (take (end + 1) a ++ payload) ≡ turn_of (words_before end a) payload
whole_turn-cut a payload end ends =
    whole_turn-line (take (end + 1) a) payload end (line_end-take (end + 1) a end (omega arith) ends)
    ∙ (λ i. turn_of (words_before-cut a end i) (behind_cut a payload end i))

pub none_cut : (a payload : List ℕ) (end size : ℕ) → line_end a ≡ Some end → payload_size (words_before end a) ≡ Some size → length payload < size → whole_turn (take (end + 1) a ++ payload) ≡ None
none_cut a payload end size ends sized short =
    whole_turn-cut a payload end ends ∙ rw (sized, lt-leb size (length payload) short) refl

-- faults in the framing
pub first_turn-whole : (text : List ℕ) (turn : Turn × List ℕ) → whole_turn text ≡ Some turn → first_turn text ≡ Some turn
first_turn-whole text turn is = ap (λ (o : Option (Turn × List ℕ)). or_last o text) is

pub first_turn-last : (text : List ℕ) (turn : Turn) → whole_turn text ≡ None → last_turn text ≡ Some turn → first_turn text ≡ Some (turn, [])
first_turn-last text turn none last = ap (λ (o : Option (Turn × List ℕ)). or_last o text) none ∙ ap (λ (o : Option Turn). option_map (λ (t : Turn). (t, [])) o) last

pub last_turn-line : (text : List ℕ) (end : ℕ) → line_end text ≡ Some end → last_turn text ≡ Some (broken (last_index (words_before end text)))
last_turn-line [] end ends = absurd (omega (arith, line_end-within [] end ends))
last_turn-line (byte ∷ text) end ends = ap (λ (o : Option ℕ). Some (cut_off o (byte ∷ text))) ends

pub breaks_cut : (a payload : List ℕ) (end size index : ℕ) → line_end a ≡ Some end → payload_size (words_before end a) ≡ Some size → length payload < size → index ≡ last_index (words_before end a) → BreaksAt (take (end + 1) a ++ payload) index
breaks_cut a payload end size index ends sized short is =
    let within : end < length (take (end + 1) a) = line_end-within (take (end + 1) a) end (line_end-take (end + 1) a end (omega arith) ends) in
    let front = words_before-more end (take (end + 1) a) payload (omega arith) ∙ words_before-cut a end in (
      [],
      first_turn-last (take (end + 1) a ++ payload) (broken index) (none_cut a payload end size ends sized short)
          (last_turn-line (take (end + 1) a ++ payload) end (line_end-cut a payload end ends) ∙ rw (front, is) refl),
    )

pub breaks_word : (a left : List ℕ) (end index : ℕ) → line_end a ≡ Some end → payload_size (words_before end a) ≡ None → index ≡ last_index (words_before end a) → BreaksAt (a ++ left) index
breaks_word a left end index ends bad is =
    (drop (end + 1) a ++ left, first_turn-whole (a ++ left) (broken index, drop (end + 1) a ++ left) (whole_turn-line a left end ends ∙ rw (bad, is) refl))

pub breaks_long : (a left : List ℕ) → line_end a ≡ None → line_limit < length a → BreaksAt (a ++ left) 0
breaks_long a left none long =
    (a ++ left, first_turn-whole (a ++ left) (broken 0, a ++ left) (rw (line_end-long a left none long, lt-ltb line_limit (length (a ++ left)) (omega (arith, length-append a left))) refl))

-- a text without a whole line that isn't too long
pub none_open : (a : List ℕ) → line_end a ≡ None → length a ≤ line_limit → whole_turn a ≡ None
none_open a none short = rw (none, le-ltb line_limit (length a) short) refl

pub last_turn-open : (text : List ℕ) (size : Option ℕ) → 0 < length text → line_end text ≡ None → payload_size (words_of text) ≡ size → last_turn text ≡ Some (turn_without_end (words_of text) size)
last_turn-open [] size some none sized = absurd (omega (arith, some))
last_turn-open (byte ∷ text) size some none sized = rw (none, sized) refl

-- the end of the source
ended_here : (a held : List ℕ) (next : Next) → whole_turn a ≡ None → IsLast a next held → IsCut a next held []
ended_here a held (Request asked) none last = absurd last
ended_here a held (Last asked) none last = (none, last.0, append-nil held ∙ last.1)
ended_here a held (Broken index) none last =
    let here : BreaksAt a index = ([], first_turn-last a (broken index) none last.0) in
    (append-nil held ∙ last.1, here, subst (λ (t : List ℕ). BreaksAt t index) (sym last.1) here)
ended_here a held End none last = (last.0, append-nil held ∙ last.1)
ended_here a held Failed none last = absurd last
ended_here a held NoMemory none last = append-nil held ∙ last

pub ended : (text a left held stalled : List ℕ) (next : Next) → text ≡ a ++ left → left ≡ [] → stalled ≡ [] → line_end a ≡ None → length a ≤ line_limit → IsLast a next held → IsCut text next (held ++ stalled) left
ended text a left held stalled next text_is left_is none unended short last =
    rw (text_is, left_is, none, append-nil a, append-nil held) (ended_here a held next (none_open a unended short) last)

-- what a last line says
pub last_request : (text bytes payload : List ℕ) (words : List (List ℕ)) (size : ℕ) → bytes ≡ text → 0 < length text → line_end text ≡ None → words ≡ asked_words (words_of bytes) → payload_size (words_of bytes) ≡ Some size → size ≡ 0 → payload ≡ []
    → last_turn text ≡ Some (request words payload)
last_request text bytes payload words size same some none words_are sized zero_is empty =
    last_turn-open text (Some 0) some none (rw (same, zero_is) at sized) ∙ rw (words_are, same, empty) refl

cut_at : (words : List (List ℕ)) (size : ℕ) → (size ≡ 0 → ⊥) → turn_without_end words (Some size) ≡ broken (last_index words)
cut_at words zero more = absurd (more refl)
cut_at words (suc size) more = refl

pub last_cut : (text bytes : List ℕ) (size index : ℕ) → bytes ≡ text → 0 < length text → line_end text ≡ None → payload_size (words_of bytes) ≡ Some size → (size ≡ 0 → ⊥) → index ≡ last_index (words_of bytes) → last_turn text ≡ Some (broken index)
last_cut text bytes size index same some none sized more is =
    last_turn-open text (Some size) some none (rw same at sized) ∙ rw (cut_at (words_of text) size more, is, same) refl

pub last_bad : (text bytes : List ℕ) (index : ℕ) → bytes ≡ text → 0 < length text → line_end text ≡ None → payload_size (words_of bytes) ≡ None → index ≡ last_index (words_of bytes) → last_turn text ≡ Some (broken index)
last_bad text bytes index same some none sized is =
    last_turn-open text None some none (rw same at sized) ∙ rw (is, same) refl

-- The turns of a text, one after another.
use Rattle.session_text.proofs.Common.{◌≡◌, ◌<◌, ◌≤◌, ◌+◌, ℕ, zero, suc, Bool, true, false, nat_lt, nat_le, if◌then◌else◌, List, [], ◌∷◌, ◌++◌, length, drop, Option, Some, None, option_map, refl, sym, ◌∙◌, ap, arith, length-drop, Turn, request, broken, line_limit, line_end, words_before, payload_size, cut_payload, turn_at, whole_turn, last_turn, first_turn, or_last, turns_from, turns_up_to, turns, turn_asked, IsNext, IsWhole, IsInTurn, IsCut}
use Rattle.session_text.specs.declared.session.Next.{Next}
use Rattle.session_text.specs.declared.session.Next.TheVariants.{Request, Last, Broken, End, Failed, NoMemory}
use Rattle.std.proofs.lemmas.Option.{same_Some}
use Rattle.session_text.proofs.Lines.{line_end-within}
use Rattle.session_text.proofs.Wholes.{first_turn-whole, first_turn-last}

-- a turn behind a test is the one that was taken
chosen_turn : (test : Bool) (x y : Turn × List ℕ) → (if test then Some x else None) ≡ Some y → (x.0 ≡ y.0) × (x.1 ≡ y.1)
chosen_turn true x y is = (ap (λ (p : Turn × List ℕ). p.0) (same_Some x y is), ap (λ (p : Turn × List ℕ). p.1) (same_Some x y is))
chosen_turn false x y is = absurd (cc is)

sized_shortens : (text : List ℕ) (words : List (List ℕ)) (payload rest : List ℕ) (end : ℕ) (size : Option ℕ) → end < length text → cut_payload (words_before end text) size (drop (end + 1) text) ≡ Some (request words payload, rest) → length rest < length text
sized_shortens text words payload rest end None within is = absurd (cc (ap (λ (p : Turn × List ℕ). p.0) (same_Some _ _ is)))
sized_shortens text words payload rest end (Some size) within is =
    let left : length (drop size (drop (end + 1) text)) ≡ length rest = ap (λ (l : List ℕ). length l) (chosen_turn (nat_le size (length (drop (end + 1) text))) _ (request words payload, rest) is).1 in
    omega (arith, within, left, length-drop size (drop (end + 1) text), length-drop (end + 1) text)

line_shortens : (text : List ℕ) (words : List (List ℕ)) (payload rest : List ℕ) (end : Option ℕ) → line_end text ≡ end → turn_at end text ≡ Some (request words payload, rest) → length rest < length text
line_shortens text words payload rest None ends is = absurd (cc (chosen_turn (nat_lt line_limit (length text)) _ (request words payload, rest) is).0)
line_shortens text words payload rest (Some end) ends is = sized_shortens text words payload rest end (payload_size (words_before end text)) (line_end-within text end ends) is

last_shortens : (text : List ℕ) (words : List (List ℕ)) (payload rest : List ℕ) → or_last None text ≡ Some (request words payload, rest) → length rest < length text
last_shortens [] words payload rest is = absurd (cc is)
last_shortens (byte ∷ text) words payload rest is =
    let none : [] ≡ rest = ap (λ (p : Turn × List ℕ). p.1) (same_Some _ _ is) in
    rw (← none) (omega arith)

first_shortens_at : (text : List ℕ) (words : List (List ℕ)) (payload rest : List ℕ) (turn : Option (Turn × List ℕ)) → whole_turn text ≡ turn → or_last turn text ≡ Some (request words payload, rest) → length rest < length text
first_shortens_at text words payload rest None whole is = last_shortens text words payload rest is
first_shortens_at text words payload rest (Some turn) whole is = line_shortens text words payload rest (line_end text) refl (whole ∙ is)

first_shortens : (text : List ℕ) (words : List (List ℕ)) (payload rest : List ℕ) → first_turn text ≡ Some (request words payload, rest) → length rest < length text
first_shortens text words payload rest is = first_shortens_at text words payload rest (whole_turn text) refl is

-- the turns behind a turn, where both ways give the same behind it
same_from : (turn : List ℕ → Option (Turn × List ℕ)) (more all : List ℕ → List Turn) (text : List ℕ) → ((words : List (List ℕ)) (payload rest : List ℕ) → turn text ≡ Some (request words payload, rest) → more rest ≡ all rest)
    → (o : Option (Turn × List ℕ)) → turn text ≡ o → turns_from more o ≡ turns_from all o
same_from turn more all text same None is = refl
same_from turn more all text same (Some (request words payload, rest)) is = ap (λ (l : List Turn). request words payload ∷ l) (same words payload rest is)
same_from turn more all text same (Some (broken index, rest)) is = refl

-- enough steps give all turns
same_turns : (turn : List ℕ → Option (Turn × List ℕ)) → ((text : List ℕ) (words : List (List ℕ)) (payload rest : List ℕ) → turn text ≡ Some (request words payload, rest) → length rest < length text) → turn [] ≡ None
    → (m n : ℕ) (text : List ℕ) → length text ≤ m → length text ≤ n → turns_up_to turn m text ≡ turns_up_to turn n text
same_turns turn shortens none zero zero text le le' = refl
same_turns turn shortens none zero (suc n) [] le le' = ap (λ (o : Option (Turn × List ℕ)). turns_from (turns_up_to turn n) o) (sym none)
same_turns turn shortens none zero (suc n) (byte ∷ text) le le' = absurd (omega arith)
same_turns turn shortens none (suc m) zero [] le le' = ap (λ (o : Option (Turn × List ℕ)). turns_from (turns_up_to turn m) o) none
same_turns turn shortens none (suc m) zero (byte ∷ text) le le' = absurd (omega arith)
same_turns turn shortens none (suc m) (suc n) text le le' =
    same_from turn (turns_up_to turn m) (turns_up_to turn n) text
    (λ words payload rest is.
    let fewer : length rest < length text = shortens text words payload rest is in
    same_turns turn shortens none m n rest (omega arith) (omega arith))
    (turn text) refl

-- the turns of a text are its first turn and those behind it
turns-unfolds : (text : List ℕ) → turns text ≡ turns_from turns (first_turn text)
turns-unfolds text =
    same_turns first_turn first_shortens refl (length text) (suc (length text)) text (omega arith) (omega arith)
    ∙ same_from first_turn (turns_up_to first_turn (length text)) turns text
    (λ words payload rest is.
    let fewer : length rest < length text = first_shortens text words payload rest is in
    same_turns first_turn first_shortens refl (length text) (length rest) rest (omega arith) (omega arith))
    (first_turn text) refl

pub turns-first : (text : List ℕ) (first : Option (Turn × List ℕ)) → first_turn text ≡ first → turns text ≡ turns_from turns first
turns-first text first is = turns-unfolds text ∙ ap (λ (o : Option (Turn × List ℕ)). turns_from turns o) is

-- what a call hands on
pub is_next : (text held left : List ℕ) (next : Next) → IsCut text next held left → IsNext text next held left
is_next text held left (Request asked) cut = first_turn-whole text (turn_asked asked, held ++ left) cut
is_next text held left (Last asked) cut = first_turn-last text (turn_asked asked) cut.0 cut.1 ∙ ap (λ (l : List ℕ). Some (turn_asked asked, l)) (sym cut.2)
is_next text held left (Broken index) cut = cut.1
is_next text held left End cut = cut
is_next text held left Failed cut = cut
is_next text held left NoMemory cut = tt

pub is_whole : (text held left : List ℕ) (next : Next) → IsCut text next held left → IsWhole text next held left
is_whole text held left (Request asked) cut = cut
is_whole text held left (Last asked) cut = (cut.0, cut.2)
is_whole text held left (Broken index) cut = (cut.0, cut.2)
is_whole text held left End cut = tt
is_whole text held left Failed cut = tt
is_whole text held left NoMemory cut = cut

pub is_in_turn : (text held left : List ℕ) (next : Next) → IsCut text next held left → IsInTurn text next (held ++ left)
is_in_turn text held left (Request asked) cut = turns-first text (Some (turn_asked asked, held ++ left)) (first_turn-whole text (turn_asked asked, held ++ left) cut)
is_in_turn text held left (Last asked) cut = turns-first text (Some (turn_asked asked, [])) (first_turn-last text (turn_asked asked) cut.0 cut.1)
is_in_turn text held left (Broken index) cut = turns-first text (Some (broken index, cut.1.0)) cut.1.1
is_in_turn text held left End cut = ap turns cut.0
is_in_turn text held left Failed cut = tt
is_in_turn text held left NoMemory cut = tt

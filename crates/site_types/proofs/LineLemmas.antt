-- A line is its form, and what each key adds to it.
use Rattle.site_types.proofs.Common.{◌≡◌, ◌≤◌, ℕ, List, [], ◌∷◌, ◌++◌, length, refl, ap, sym, ◌∙◌, append_assoc, arith, flat_map, join_with_byte, append-nil, form_of, words_behind, Field, words_with, fields_of, line_of, Request}
use Rattle.std.specs.Prelude.{Option, Some, None}
use Rattle.site_types.proofs.JoinedTextLemmas.{join_with_byte-spaced}
use Rattle.site_types.specs.LineTexts.{word_text, fields_text, form_text}

pub ruleset appends = (append_assoc, append-nil)

spaced_fields : (fields : List Field) → flat_map (λ t. 32 ∷ t) (words_with fields) ≡ fields_text fields
unfolding word_text
spaced_fields [] = refl
spaced_fields ((key, None) ∷ fields) = spaced_fields fields
spaced_fields ((key, Some value) ∷ fields) = ap (λ (l : List ℕ). word_text key value ++ l) (spaced_fields fields)

one_word : (form : List ℕ) (fields : List Field) → join_with_byte 32 (form ∷ words_with fields) ≡ form ++ fields_text fields
one_word form fields = join_with_byte-spaced 32 form (words_with fields) ∙ ap (λ (l : List ℕ). form ++ l) (spaced_fields fields)

two_words : (form action : List ℕ) (fields : List Field) → join_with_byte 32 (form ∷ action ∷ words_with fields) ≡ (form ++ 32 ∷ action) ++ fields_text fields
two_words form action fields = ap (λ (l : List ℕ). form ++ 32 ∷ l) (one_word action fields) ∙ sym (append_assoc form (32 ∷ action) (fields_text fields))

pub line_parts : (request : Request) → line_of request ≡ form_text request ++ fields_text (fields_of request)
line_parts request = at (form_of request).second
  where
    at : (second : Option (List ℕ)) → join_with_byte 32 (((form_of request).first ∷ words_behind second) ++ words_with (fields_of request)) ≡ join_with_byte 32 ((form_of request).first ∷ words_behind second) ++ fields_text (fields_of request)
    at None = one_word (form_of request).first (fields_of request)
    at (Some action) = two_words (form_of request).first action (fields_of request)

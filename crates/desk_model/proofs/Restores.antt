-- In a sound state each kept copy restores the bytes of its image.
use Rattle.desk_model.proofs.Common.{◌≡◌, ◌∙◌, ℕ, Bool, true, false, [], ◌∷◌, length, refl, ap, Option, Some, None, nat_lt, not, ◌==◌, if◌then◌else◌, Contains, nat_tests, arith, payload_limit, Answer, CopyRecord, State, Image, step_of, first_refusal, unless_refused, has_copy, wanted_number, restore_case, Sound, KeepsCopies, given_back}
use Rattle.std.specs.Prelude.{codes}
use Rattle.std.proofs.lemmas.List.Folds.{list_any_at}
use Rattle.site_types.specs.Ids.{copy_text}
use Rattle.site_types.specs.declared.answer.Answer.TheVariants.{Done, Unknown, TooMany}
use Rattle.desk_model.proofs.ImageLists.{named_in}

-- the copy that is wanted is kept
copy_kept : (s : State) (image : Image) (copy : Option ℕ) → has_copy (wanted_number copy (Some image)) (Some image) ≡ true → step_of s (restore_case (Some image) image.entry.id copy s) ≡ (given_back image.bytes, s)
copy_kept s image copy kept = (λ i. with_test (kept i)) ∙ at (nat_lt payload_limit (length image.bytes))
  where
    with_test : Bool → Answer × State
    with_test there = unless_refused s
        (first_refusal ((not there, Unknown (copy_text image.entry.id (wanted_number copy (Some image)))) ∷ (nat_lt payload_limit (length image.bytes), TooMany (codes "bytes") (length image.bytes) payload_limit) ∷ []))
        (Done image.bytes, s)

    at : (b : Bool) → unless_refused s (if b then Some (TooMany (codes "bytes") (length image.bytes) payload_limit) else None) (Done image.bytes, s) ≡ ((if b then TooMany (codes "bytes") (length image.bytes) payload_limit else Done image.bytes), s)
    at true = refl
    at false = refl

number_kept : (image : Image) (copy : CopyRecord) → Contains image.entry.copies copy → has_copy copy.number (Some image) ≡ true
number_kept image copy (k, lt, is) =
    let same : (copy.number == copy.number) ≡ true = grind (arith, nat_tests) in
    list_any_at (λ (c : CopyRecord). c.number == copy.number) image.entry.copies k copy lt (ap (λ (c : CopyRecord). c.number == copy.number) is ∙ same)

pub keeps_copies : (s : State) → Sound s → KeepsCopies s
keeps_copies s sound = record {
  copies = λ image among copy kept payload moment.
      ap (λ (o : Option Image). step_of s (restore_case o image.entry.id (Some copy.number) s)) (named_in s.images image sound.ids among)
      ∙ copy_kept s image (Some copy.number) (number_kept image copy kept);
  images = λ image among payload moment.
      ap (λ (o : Option Image). step_of s (restore_case o image.entry.id None s)) (named_in s.images image sound.ids among)
      ∙ copy_kept s image None (sound.images image among).primary;
}

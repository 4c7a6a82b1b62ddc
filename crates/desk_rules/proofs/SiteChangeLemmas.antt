-- Changes of the site that nothing refuses.
use Rattle.desk_rules.proofs.Common.{◌≡◌, ◌∙◌, Bool, true, false, List, Option, Some, None, Result, Ok, Err, sym, refl, inl, inr, ◌||◌, is_some, option_map, IfOk, AllocError, Answer, Request, is_of_book, first_refusal, is_setting, zone_set, Change, Nothing, Decision, DecidesAs, Passes, Refusal, Answered}
use Rattle.desk_model.proofs.ClassLemmas.{of_book_or_zone}

-- what changes the site and sets no zone changes the book
pub of_book : (request : Request) → is_setting request ≡ true → zone_set request ≡ None → is_of_book request ≡ true
of_book request setting none = or_false (is_of_book request) ∙ (λ j. is_of_book request || is_some (sym none j)) ∙ sym (of_book_or_zone request) ∙ setting
  where
    or_false : (b : Bool) → b ≡ (b || false)
    or_false true = refl
    or_false false = refl

pub made_decides : (o : Option Answer) (answer : Answer) (IsMade : Change → Type 0) (d : Decision) → o ≡ None → d.answer ≡ answer → IsMade d.change → DecidesAs o answer IsMade d
made_decides None answer IsMade d none said made = (said, made)
made_decides (Some refusal) answer IsMade d none said made = absurd (cc)

refusal_decides : (o : Option Answer) (r : Refusal) (d : Decision) (answer : Answer) (IsMade : Change → Type 0) → option_map Answered o ≡ Some r → r ≡ Answered d.answer → d.change ≡ Nothing → DecidesAs o answer IsMade d
refusal_decides None r d answer IsMade first is none = absurd (cc)
refusal_decides (Some a) r d answer IsMade first is none = let same : d.answer ≡ a = cc in (same, none)

pub refused_decides : {A : Type 0} (refusals : List (Bool × Answer)) (r : Refusal) (answer : Answer) (IsMade : Change → Type 0) (result : Result Decision AllocError) → Passes {A = A} refusals (Err r) → IfOk result (λ d. r ≡ Answered d.answer) → IfOk result (λ d. d.change ≡ Nothing) → IfOk result (DecidesAs (first_refusal refusals) answer IsMade)
refused_decides refusals r answer IsMade (Err e) passes is none = tt
refused_decides refusals r answer IsMade (Ok d) passes is none = elim passes.refused [ inl lacks ↦ absurd (cc) | inr first ↦ refusal_decides (first_refusal refusals) r d answer IsMade first is none ]

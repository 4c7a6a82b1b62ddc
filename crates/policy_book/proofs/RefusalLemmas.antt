-- The first refusal of a list.
use Rattle.policy_book.proofs.Common.{◌≡◌, Bool, true, false, cond, [], ◌∷◌, Some, None, Ok, Err, sym, ◌∙◌, ap, inr}
use Rattle.policy_book.specs.declared.fault.BookFault.{BookFault}
use Rattle.policy_book.specs.Refusals.{Allows}

pub passes : {A : Type 0} (b : Bool) (f : BookFault) (x : A) → b ≡ false → Allows ((b, f) ∷ []) (Ok x)
passes b f x apart = record { allowed = λ j. cond (apart j) (Some f) None; refused = tt }

pub refuses : {A : Type 0} (b : Bool) (f g : BookFault) → b ≡ true → g ≡ f → Allows {A = A} ((b, f) ∷ []) (Err g)
refuses b f g holds is = record { allowed = tt; refused = inr ((λ j. cond (holds j) (Some f) None) ∙ ap (λ (h : BookFault). Some h) (sym is)) }

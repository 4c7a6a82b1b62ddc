-- The first refusal of a list, and what a look for refusals and a change answer by it.
use Rattle.std.specs.Prelude.{◌≡◌, ◌⊎◌, Bool, if◌then◌else◌, List, [], ◌∷◌, Option, Some, None, Result, OnOk, IfErr}
use Rattle.policy_book.specs.declared.fault.BookFault.{BookFault}
use Rattle.policy_book.specs.declared.fault.BookFault.TheVariants.{NoMemory}
use Rattle.policy_book.specs.Book.{Book}

-- the first refusal that holds
abbrev pub first_refusal : {A : Type 0} → List (Bool × A) → Option A
first_refusal [] = None
first_refusal (r ∷ rs) = if r.0 then Some r.1 else first_refusal rs

-- nothing refuses, or this is the first refusal, or there was no memory to say so
pub record Allows {A : Type 0} (refusals : List (Bool × BookFault)) (result : Result A BookFault) : Type 0 where
  pub allowed : OnOk result (first_refusal refusals ≡ None)
  pub refused : IfErr result (λ fault. (fault ≡ NoMemory) ⊎ (first_refusal refusals ≡ Some fault))

-- A change is made where nothing refuses it. Else its first refusal is answered, and the book stays; want of memory may come in place of either.
pub record Applied (refusals : List (Bool × BookFault)) (changed_book old new : Book) (result : Result (Unit {0}) BookFault) : Type 0 where
  pub done : OnOk result ((first_refusal refusals ≡ None) × (new ≡ changed_book))
  pub refused : IfErr result (λ fault. (fault ≡ NoMemory) ⊎ (first_refusal refusals ≡ Some fault))
  pub unchanged : IfErr result (λ fault. new ≡ old)

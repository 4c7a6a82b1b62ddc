-- How the refusals of a request are looked for, and what is decided then.
use Rattle.std.specs.Prelude.{◌≡◌, ◌⊎◌, Bool, List, Option, Some, None, Result, OnOk, IfErr, option_map}
use Rattle.desk_rules.specs.Decisions.{Answer, Change, Nothing, Decision}
use Rattle.policy_book.specs.declared.fault.BookFault.{BookFault}
use Rattle.desk_model.specs.Refusals.{first_refusal}
use Rattle.desk_model.specs.Settings.{refusal_answer}
pub use Rattle.desk_rules.specs.declared.refusal.Refusal.{Refusal}
pub use Rattle.desk_rules.specs.declared.refusal.Refusal.TheVariants.{Answered, NoMemory}
use Rattle.policy_book.specs.declared.fault.BookFault.TheVariants as fault

-- nothing refuses, or this is the first refusal, or there was no memory to say so
pub record Passes {A : Type 0} (refusals : List (Bool × Answer)) (result : Result A Refusal) : Type 0 where
  pub passed : OnOk result (first_refusal refusals ≡ None)
  pub refused : IfErr result (λ r. (r ≡ NoMemory) ⊎ (option_map Answered (first_refusal refusals) ≡ Some r))

-- what a fault of the book refuses with
abbrev pub refusal_by : BookFault → Refusal
refusal_by fault.NoMemory = NoMemory
refusal_by f = Answered (refusal_answer f)

-- a refusal, which changes nothing, and where there is none this answer and this change
abbrev pub settled : Option Answer → Answer → Change → Decision
settled (Some refusal) answer change = record { answer = refusal; change = Nothing }
settled None answer change = record { answer = answer; change = change }

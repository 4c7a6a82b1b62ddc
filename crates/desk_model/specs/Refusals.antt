-- A case of the step, and requests that are refused.
use Rattle.std.specs.Prelude.{Bool, if◌then◌else◌, List, [], ◌∷◌, Option, Some, None}
use Rattle.site_types.specs.declared.answer.Answer.{Answer}
use Rattle.desk_model.specs.State.{State}

-- the first refusal that holds
abbrev pub first_refusal : List (Bool × Answer) → Option Answer
first_refusal [] = None
first_refusal (r ∷ rs) = if r.0 then Some r.1 else first_refusal rs

-- what a refusal leaves, or what is done where there is none
abbrev pub unless_refused : State → Option Answer → Answer × State → Answer × State
unless_refused s (Some answer) done = (answer, s)
unless_refused s None done = done

-- a request in a state: its refusals in the order of their table, those that only its payload's bytes show, which come behind the others, what it is answered where nothing refuses it, and the state afterwards
pub record Case : Type 0 where
  pub refusals : List (Bool × Answer)
  pub shown : List (Bool × Answer)
  pub answer : Answer
  pub after : State

abbrev pub step_of : State → Case → Answer × State
step_of s c = unless_refused s (first_refusal c.refusals) (unless_refused s (first_refusal c.shown) (c.answer, c.after))

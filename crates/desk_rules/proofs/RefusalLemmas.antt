-- The first refusal of a list.
use Rattle.desk_rules.proofs.Common.{◌≡◌, ◌∙◌, Bool, true, false, List, [], ◌∷◌, ◌++◌, Option, Some, None, Result, Ok, Err, map, sym, ap, refl, subst, inl, inr, ◌⊎◌, option_map, IfOk, IsErrAnd, AllocError, Answer, first_refusal, refusal_answer, Change, Nothing, Decision, Passes, refusal_by, settled, Refusal, Answered, NoMemory}
use Rattle.policy_book.specs.declared.fault.BookFault.{BookFault}
use Rattle.policy_book.specs.Refusals.{Allows, first_refusal as book_refusal}
use Rattle.policy_book.specs.declared.fault.BookFault.TheVariants as fault

-- what refuses before something refuses before it and what comes behind
first_behind : (xs ys : List (Bool × Answer)) → first_refusal xs ≡ None → first_refusal (xs ++ ys) ≡ first_refusal ys
first_behind [] ys none = refl
first_behind ((true, a) ∷ xs) ys none = absurd (cc)
first_behind ((false, a) ∷ xs) ys none = first_behind xs ys none

pub passes_behind : {A : Type 0} (xs ys : List (Bool × Answer)) (result : Result A Refusal) → first_refusal xs ≡ None → Passes ys result → Passes (xs ++ ys) result
passes_behind xs ys (Ok x) none passes = record { passed = first_behind xs ys none ∙ passes.passed; refused = tt }
passes_behind xs ys (Err r) none passes = record { passed = tt; refused = elim passes.refused [ inl lacks ↦ inl lacks | inr is ↦ inr (ap (option_map Answered) (first_behind xs ys none) ∙ is) ] }

pub passes_as : {A : Type 0} (xs ys : List (Bool × Answer)) (result : Result A Refusal) → xs ≡ ys → Passes ys result → Passes xs result
passes_as {A} xs ys result is passes = subst (λ (zs : List (Bool × Answer)). Passes {A = A} zs result) (sym is) passes

still_first : (xs ys : List (Bool × Answer)) (r : Refusal) → option_map Answered (first_refusal xs) ≡ Some r → option_map Answered (first_refusal (xs ++ ys)) ≡ Some r
still_first [] ys r first = absurd (cc)
still_first ((true, a) ∷ xs) ys r first = first
still_first ((false, a) ∷ xs) ys r first = still_first xs ys r first

-- the first part of a list refuses
pub passes_before : {A B : Type 0} (xs ys : List (Bool × Answer)) (r : Refusal) (result : Result A Refusal) → Passes {A = B} xs (Err r) → result ≡ Err r → Passes (xs ++ ys) result
passes_before {A} xs ys r result passes is =
    subst (λ (x : Result A Refusal). Passes (xs ++ ys) x) (sym is)
    (record { passed = tt; refused = elim passes.refused [ inl lacks ↦ inl lacks | inr first ↦ inr (still_first xs ys r first) ] })

-- its second part does
pub passes_after : {A B : Type 0} (xs ys : List (Bool × Answer)) (r : Refusal) (result : Result A Refusal) → first_refusal xs ≡ None → Passes {A = B} ys (Err r) → result ≡ Err r → Passes (xs ++ ys) result
passes_after {A} xs ys r result none passes is =
    subst (λ (x : Result A Refusal). Passes (xs ++ ys) x) (sym is)
    (passes_behind {A = A} xs ys (Err r) none (record { passed = tt; refused = passes.refused }))

-- neither does
pub both_pass : {A : Type 0} (xs ys : List (Bool × Answer)) (x : A) → first_refusal xs ≡ None → first_refusal ys ≡ None → Passes (xs ++ ys) (Ok x)
both_pass xs ys x none other = record { passed = first_behind xs ys none ∙ other; refused = tt }

-- What is decided.

refusal_settles : (o : Option Answer) (r : Refusal) (d : Decision) (answer : Answer) (change : Change) → option_map Answered o ≡ Some r → r ≡ Answered d.answer → d.change ≡ Nothing → d ≡ settled o answer change
refusal_settles None r d answer change first is none = absurd (cc)
refusal_settles (Some a) r d answer change first is none =
    let same : d.answer ≡ a = cc in
    λ j. record { answer = same j; change = none j }

pub refused_settles : {A : Type 0} (refusals : List (Bool × Answer)) (r : Refusal) (answer : Answer) (change : Change) (result : Result Decision AllocError) → Passes {A = A} refusals (Err r) → IfOk result (λ d. r ≡ Answered d.answer) → IfOk result (λ d. d.change ≡ Nothing) → IfOk result (λ d. d ≡ settled (first_refusal refusals) answer change)
refused_settles refusals r answer change (Err e) passes is none = tt
refused_settles refusals r answer change (Ok d) passes is none = elim passes.refused [ inl lacks ↦ absurd (cc) | inr first ↦ refusal_settles (first_refusal refusals) r d answer change first is none ]

-- The refusals of a book.

abbrev pub answered : List (Bool × BookFault) → List (Bool × Answer)
answered refusals = map (λ r. (r.0, refusal_answer r.1)) refusals

first_answered : (refusals : List (Bool × BookFault)) → first_refusal (answered refusals) ≡ option_map refusal_answer (book_refusal refusals)
first_answered [] = refl
first_answered ((true, f) ∷ refusals) = refl
first_answered ((false, f) ∷ refusals) = first_answered refusals

refused_by : (f : BookFault) → (refusal_by f ≡ NoMemory) ⊎ (Answered (refusal_answer f) ≡ refusal_by f)
refused_by (fault.Exists name) = inr refl
refused_by (fault.Unknown name) = inr refl
refused_by (fault.InUse name user) = inr refl
refused_by (fault.TooMany kind count limit) = inr refl
refused_by (fault.Rule rule) = inr refl
refused_by fault.NoMemory = inl refl

-- a fault of the book is handed on
pub book_refuses : {A B : Type 0} (refusals : List (Bool × BookFault)) (f : BookFault) (result : Result A Refusal) → Allows {A = B} refusals (Err f) → IsErrAnd result (λ r. r ≡ refusal_by f) → Passes (answered refusals) result
book_refuses refusals f (Ok x) allows is = absurd is
book_refuses refusals f (Err r) allows is = record {
  passed = tt;
  refused = elim allows.refused [
    | inl lacks ↦ inl (is ∙ ap refusal_by lacks)
    | inr first ↦ elim (refused_by f) [
      | inl lacks ↦ inl (is ∙ lacks)
      | inr same ↦ inr (ap (option_map Answered) (first_answered refusals ∙ ap (option_map refusal_answer) first) ∙ ap (λ (x : Refusal). Some x) (same ∙ sym is))
    ]
  ];
}

-- An image as the catalogue has it when its backup is sealed.
use Rattle.std.proofs.Common.{◌≡◌, ◌≤◌, ◌+◌, ◌-◌, ℕ, List, [], ◌∷◌, ◌++◌, length, replicate, map, Some, refl, sym, ◌∙◌, ap, arith}
use Rattle.std.specs.Prelude.{slice_get}
use Rattle.std.proofs.lemmas.List.{replicate_more}
use Rattle.site_types.specs.declared.lifecycle.Operation.{Operation}
use Rattle.site_types.specs.declared.lifecycle.OpState.{OpState}
use Rattle.site_types.specs.declared.lifecycle.OpState.TheVariants.{Waiting, Complete}
use Rattle.desk_model.specs.Backups.{states_of, unit_of}

all_wait : (operations : List Operation) → map (λ (o : Operation). Waiting) operations ≡ replicate (length operations) Waiting
all_wait [] = refl
all_wait (o ∷ os) = ap (λ (l : List OpState). Waiting ∷ l) (all_wait os)

pub waits_more : (n : ℕ) (states : List OpState) → 1 ≤ n → states ≡ Complete ∷ replicate (n - 1) Waiting → states ++ Waiting ∷ [] ≡ Complete ∷ replicate (n + 1 - 1) Waiting
waits_more n states some is =
    let count : n - 1 + 1 ≡ n + 1 - 1 = omega (arith, some) in
    ap (λ (l : List OpState). l ++ Waiting ∷ []) is ∙ ap (λ (l : List OpState). Complete ∷ l) (replicate_more (n - 1) Waiting ∙ ap (λ (k : ℕ). replicate k Waiting) count)

pub states_sealed : (operations : List Operation) (n : ℕ) (states : List OpState) → 1 ≤ length operations → n ≡ length operations → states ≡ Complete ∷ replicate (n - 1) Waiting → states ≡ states_of operations
states_sealed [] n states some count is = absurd (omega (arith, some))
states_sealed (o ∷ os) n states some count is =
    let rest : n - 1 ≡ length os = omega (arith, count) in
    is ∙ ap (λ (k : ℕ). Complete ∷ replicate k Waiting) rest ∙ ap (λ (l : List OpState). Complete ∷ l) (sym (all_wait os))

pub unit_found : (operations : List Operation) (unit : List ℕ) → slice_get (map (λ (o : Operation). o.unit) operations) 0 ≡ Some unit → unit_of operations ≡ unit
unit_found [] unit is = absurd (cc is)
unit_found (o ∷ os) unit is = cc is

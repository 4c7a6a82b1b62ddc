-- The requests of lines, one after another.
use Rattle.policy_book.proofs.Common.{◌≡◌, ◌∙◌, ◌<◌, ◌+◌, ℕ, length, get_or, drop, List, [], ◌∷◌, ◌++◌, Option, Some, None, refl, sym, ap, option_map, before, change_read, joined, requests_of, option_and_then}
use Rattle.std.proofs.lemmas.List.{drop_more}
use Rattle.site_types.specs.declared.request.Request.{Request}
use Rattle.policy_book.proofs.LineLemmas.{joined_before}

as_before : (r : Request) (rest : Option (List Request)) → option_map (λ rs. r ∷ rs) rest ≡ before r rest
as_before r None = refl
as_before r (Some rs) = refl

-- one line more is read
requests_more : (rs : List Request) (line : List (List ℕ)) (lines : List (List (List ℕ))) (r : Request) (all : Option (List Request)) → joined (Some rs) (requests_of (line ∷ lines)) ≡ all → change_read line ≡ Some r → joined (Some (rs ++ r ∷ [])) (requests_of lines) ≡ all
requests_more rs line lines r all so_far read =
    sym (joined_before rs r (requests_of lines))
    ∙ ap (joined (Some rs)) (sym (as_before r (requests_of lines)) ∙ sym (ap (λ o. option_and_then (λ request. option_map (λ requests. request ∷ requests) (requests_of lines)) o) read))
    ∙ so_far

-- the line at an index is read, and its request pushed behind the others
pub requests_step : (rs after : List Request) (lines : List (List (List ℕ))) (i : ℕ) (line : List (List ℕ)) (r : Request) (all : Option (List Request)) → i < length lines → line ≡ get_or lines i line → joined (Some rs) (requests_of (drop i lines)) ≡ all → change_read line ≡ Some r → after ≡ rs ++ r ∷ [] → joined (Some after) (requests_of (drop (i + 1) lines)) ≡ all
requests_step rs after lines i line r all inside at so_far read pushed =
    let left : drop i lines ≡ line ∷ drop (i + 1) lines = drop_more lines i line inside ∙ ap (λ l. l ∷ drop (i + 1) lines) (sym at) in
    ap (λ xs. joined (Some xs) (requests_of (drop (i + 1) lines))) pushed
    ∙ requests_more rs line (drop (i + 1) lines) r all (sym (ap (λ ls. joined (Some rs) (requests_of ls)) left) ∙ so_far) read

-- Lists that are read and joined piece by piece.
use Rattle.policy_book.proofs.Common.{ℕ, true, false, Result, Ok, Err, ◌≡◌, ◌∙◌, List, [], ◌∷◌, ◌++◌, Option, Some, None, refl, sym, ap, append_assoc, before, joined, is_among, text_of, word_of, words_of, Data, Members, member}
use Rattle.policy_book.specs.Loading.{Adds}
use Rattle.policy_book.specs.declared.fault.LoadFault.{LoadFault}
use Rattle.policy_book.specs.declared.fault.LoadFault.TheVariants.{NotASite}

module _ {A : Type 0} where
  pub joined_assoc : (xs ys zs : Option (List A)) → joined xs (joined ys zs) ≡ joined (joined xs ys) zs
  joined_assoc None ys zs = refl
  joined_assoc (Some xs) None zs = refl
  joined_assoc (Some xs) (Some ys) None = refl
  joined_assoc (Some xs) (Some ys) (Some zs) = ap Some (sym (append_assoc xs ys zs))

  pub joined_before : (xs : List A) (y : A) (zs : Option (List A)) → joined (Some xs) (before y zs) ≡ joined (Some (xs ++ y ∷ [])) zs
  joined_before xs y None = refl
  joined_before xs y (Some zs) = ap Some (sym (append_assoc xs (y ∷ []) zs))

  -- where the rest isn't there, nothing is
  pub joined_no_rest : (xs : Option (List A)) → joined xs None ≡ None
  joined_no_rest None = refl
  joined_no_rest (Some xs) = refl

  pub none_behind : (e : LoadFault) (xs ys : Option (List A)) → (e ≡ NotASite → ys ≡ None) → e ≡ NotASite → joined xs ys ≡ None
  none_behind e xs ys lacks is = ap (joined xs) (lacks is) ∙ joined_no_rest xs

  pub none_before : (e : LoadFault) (xs ys : Option (List A)) → (e ≡ NotASite → xs ≡ None) → e ≡ NotASite → joined xs ys ≡ None
  none_before e xs ys lacks is = ap (λ zs. joined zs ys) (lacks is)

  -- one piece was added, and then the rest
  pub adds_rest : {B : Type 0} (old middle new : List A) (piece rest : Option (List A)) (result : Result B LoadFault) → joined (Some old) piece ≡ Some middle → Adds rest middle new result → Adds (joined piece rest) old new result
  adds_rest old middle new piece rest (Ok x) added h = joined_assoc (Some old) piece rest ∙ ap (λ ys. joined ys rest) added ∙ h
  adds_rest old middle new piece rest (Err e) added h = none_behind e piece rest h

-- one word more of a table
pub words_more : (keys parts : List (List ℕ)) (key : List ℕ) (value : Data) (members : Members) (words : List (List ℕ)) (text : List ℕ) → is_among parts key ≡ false → is_among keys key ≡ true → text_of value ≡ Some text
    → joined (Some words) (words_of keys parts (member key value members)) ≡ joined (Some (words ++ word_of key text ∷ [])) (words_of keys parts members)
words_more keys parts key value members words text other known read = rw (other, known, read) (joined_before words (word_of key text) (words_of keys parts members))

-- Values that were read, written again, are the texts that were read.
use Rattle.site_types.proofs.Common.{◌≡◌, ℕ, List, true, if◌then◌else◌, Option, Some, None, option_map, is_some, refl, ap, ◌∙◌, option_and_then, decimal, name_of, is_name, number_between}
use Rattle.site_types.proofs.WordSpelling.{name_spelled, number_spelled}

-- a value, where there is one, is in this grammar
abbrev pub Spells : {A : Type 0} → (List ℕ → Option A) → Option (List ℕ) → Type 0
Spells spelled value = (t : List ℕ) → value ≡ Some t → is_some (spelled t) ≡ true

-- where a grammar has one text for each value, the text of a value that it reads is the one that was read
pub kept : {A : Type 0} (spelled : List ℕ → Option A) (text : A → List ℕ) → ((t : List ℕ) (x : A) → spelled t ≡ Some x → text x ≡ t) → (value : Option (List ℕ)) → Spells spelled value → option_map text (option_and_then spelled value) ≡ value
kept spelled text one None is = refl
kept {A} spelled text one (Some t) is = at (spelled t) refl (is t refl)
  where
    at : (o : Option A) → spelled t ≡ o → is_some o ≡ true → option_map text o ≡ Some t
    at None read some = absurd (cc some)
    at (Some x) read some = ap (λ (l : List ℕ). Some l) (one t x read)

-- the same of a grammar that gives the text as it stands
pub as_it_stands : (spelled : List ℕ → Option (List ℕ)) → ((t x : List ℕ) → spelled t ≡ Some x → x ≡ t) → (value : Option (List ℕ)) → Spells spelled value → option_and_then spelled value ≡ value
as_it_stands spelled one value is = same (option_and_then spelled value) ∙ kept spelled (λ x. x) one value is
  where
    same : (o : Option (List ℕ)) → o ≡ option_map (λ x. x) o
    same None = refl
    same (Some x) = refl

pub name_kept : (value : Option (List ℕ)) → ((t : List ℕ) → value ≡ Some t → is_name t ≡ true) → option_and_then name_of value ≡ value
name_kept value is = as_it_stands name_of name_spelled value (λ t given i. is_some (if is t given i then Some t else None))

pub number_kept : (least greatest : ℕ) (value : Option (List ℕ)) → Spells (number_between least greatest) value → option_map decimal (option_and_then (number_between least greatest) value) ≡ value
number_kept least greatest value is = kept (number_between least greatest) decimal (number_spelled least greatest) value is

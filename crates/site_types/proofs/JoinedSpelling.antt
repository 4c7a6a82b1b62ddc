-- Values that plus signs join are written as they are read.
use Rattle.site_types.proofs.Common.{◌≡◌, ◌≤◌, ℕ, List, [], ◌∷◌, length, map, sym, ◌∙◌, ap, ap₂, arith, nat_le, slice_split, join_with_byte, is_plus, each_of, joined_of}
use Rattle.std.specs.Prelude.{Some, Option, option_map}
use Rattle.std.proofs.lemmas.List.Splits.{join_with_byte-slice_split, length-slice_split}
use Rattle.site_types.proofs.OptionLemmas.{guarded, chained, same_value, mapped}

each_spelled : {A : Type 0} (spelled : List ℕ → Option A) (write : A → List ℕ) → ((t : List ℕ) (x : A) → spelled t ≡ Some x → write x ≡ t) → (texts : List (List ℕ)) (values : List A) → each_of spelled texts ≡ Some values → map write values ≡ texts
each_spelled {A} spelled write one [] values is = ap (λ (xs : List A). map write xs) (sym (same_value [] values is))
each_spelled {A} spelled write one (t ∷ ts) values is =
    let first = chained (λ (value : A). option_map (λ (values : List A). value ∷ values) (each_of spelled ts)) (spelled t) values is in
    let rest = mapped (λ (values : List A). first.0 ∷ values) (each_of spelled ts) values first.2 in
    ap (λ (xs : List A). map write xs) (sym rest.2) ∙ ap₂ (λ (x : List ℕ) (xs : List (List ℕ)). x ∷ xs) (one t first.0 first.1) (each_spelled spelled write one ts rest.0 rest.1)

-- the values, as they are written, are the parts of the text
pub parts_spelled : {A : Type 0} (spelled : List ℕ → Option A) (write : A → List ℕ) → ((t : List ℕ) (x : A) → spelled t ≡ Some x → write x ≡ t) → (most : ℕ) (t : List ℕ) (values : List A) → joined_of spelled most t ≡ Some values → map write values ≡ slice_split is_plus t
parts_spelled spelled write one most t values is = each_spelled spelled write one (slice_split is_plus t) values (guarded (nat_le (length (slice_split is_plus t)) most) (each_of spelled (slice_split is_plus t)) values is).1

pub parts_joined : (t : List ℕ) (parts : List (List ℕ)) → parts ≡ slice_split is_plus t → join_with_byte 43 parts ≡ t
parts_joined t parts is = ap (λ (ps : List (List ℕ)). join_with_byte 43 ps) is ∙ join_with_byte-slice_split 43 t

pub has_part : (t : List ℕ) → 1 ≤ length (slice_split is_plus t)
has_part t = omega (arith, length-slice_split is_plus t)

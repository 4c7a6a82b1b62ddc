-- Lists that are joined by a byte: the first, and each further one with that byte before it.
use Rattle.site_types.proofs.Common.{◌≡◌, ◌≤◌, ℕ, List, [], ◌∷◌, ◌++◌, length, take, map, ap, sym, ◌∙◌, append_assoc, flat_map, join_with_byte, append-nil, take_all, flat_map-map}

pub join_with_byte-spaced : (c : ℕ) (text : List ℕ) (texts : List (List ℕ)) → join_with_byte c (text ∷ texts) ≡ text ++ flat_map (λ t. c ∷ t) texts
join_with_byte-spaced c text [] = sym (append-nil text)
join_with_byte-spaced c text (t ∷ ts) = ap (λ (l : List ℕ). text ++ c ∷ l) (join_with_byte-spaced c t ts)

joined_values : {A : Type 0} (written : A → List ℕ) (c : ℕ) (value : A) (values : List A) → join_with_byte c (map written (value ∷ values)) ≡ written value ++ flat_map (λ v. c ∷ written v) values
joined_values written c value values = join_with_byte-spaced c (written value) (map written values) ∙ ap (λ (l : List ℕ). written value ++ l) (flat_map-map (λ t. c ∷ t) written values)

-- the text after the first value, and after so many of the others, where no more are left
pub all_joined : {A : Type 0} (written : A → List ℕ) (c : ℕ) (old first text : List ℕ) (value : A) (values list : List A) (count : ℕ) → list ≡ value ∷ values → first ≡ old ++ written value → text ≡ first ++ flat_map (λ v. c ∷ written v) (take count values) → length values ≤ count → text ≡ old ++ join_with_byte c (map written list)
all_joined {A} written c old first text value values list count whole begun is all =
    is
    ∙ ap (λ (vs : List A). first ++ flat_map (λ v. c ∷ written v) vs) (take_all count values all)
    ∙ ap (λ (l : List ℕ). l ++ flat_map (λ v. c ∷ written v) values) begun
    ∙ append_assoc old (written value) (flat_map (λ v. c ∷ written v) values)
    ∙ ap (λ (l : List ℕ). old ++ l) (sym (joined_values written c value values))
    ∙ ap (λ (vs : List A). old ++ join_with_byte c (map written vs)) (sym whole)

-- The id that a text is, is written as that text.
use Rattle.site_types.proofs.Common.{subst, ◌≡◌, ◌<◌, ◌≤◌, ◌-◌, ◌+◌, ℕ, List, ◌∷◌, ◌++◌, length, get_or, take, drop, reverse, true, false, refl, sym, ◌∙◌, ap, ap₂, arith, length-take, take-append-drop, nat_le, suffix_len, before_last, after_last, list_all, and_parts, leb-true, nat_tests, drop_more, get_or-reverse, length-reverse, id_text, is_underscore, id_made, id_of, is_name, is_name_byte, number_between}
use Rattle.std.specs.Prelude.{Some, None, Option, not, ◌&&◌}
use Rattle.std.proofs.lemmas.List.Sums.{prefix_len_stops, suffix_len-le-length}
use Rattle.site_types.specs.Limits.{last_moment}
use Rattle.site_types.specs.declared.id.BackupId.{BackupId}
use Rattle.site_types.proofs.OptionLemmas.{guarded, same_value}
use Rattle.site_types.proofs.WordSpelling.{number_spelled}

an_underscore : (c : ℕ) → not (is_underscore c) ≡ false → c ≡ 95
an_underscore c is = grind (arith, nat_tests)

behind_others : (t : List ℕ) (s : ℕ) → suffix_len (λ b. not (is_underscore b)) t ≡ s → s < length t → not (is_underscore (get_or (reverse t) s 0)) ≡ false
behind_others t s is inside =
    let long = length-reverse t in
    subst (λ (k : ℕ). not (is_underscore (get_or (reverse t) k 0)) ≡ false) is (prefix_len_stops (λ b. not (is_underscore b)) (reverse t) 0 (omega arith))

-- an underscore stands before the characters at the end that are none
underscore_at : (t : List ℕ) (s : ℕ) → suffix_len (λ b. not (is_underscore b)) t ≡ s → s < length t → get_or t (length t - s - 1) 0 ≡ 95
underscore_at t s is inside =
    let here : length t - 1 - s ≡ length t - s - 1 = omega arith in
    sym (ap (λ (k : ℕ). get_or t k 0) here) ∙ sym (get_or-reverse t s 0 inside) ∙ an_underscore _ (behind_others t s is inside)

-- what a text is cut into at its last underscore, where there is one
cut_at_last : (t : List ℕ) (s : ℕ) → suffix_len (λ b. not (is_underscore b)) t ≡ s → s < length t → take (length t - s - 1) t ++ 95 ∷ drop (length t - s) t ≡ t
cut_at_last t s is inside =
    let at = length t - s - 1 in
    let next : at + 1 ≡ length t - s = omega arith in
    let rest : drop at t ≡ 95 ∷ drop (length t - s) t = drop_more t at 0 (omega arith) ∙ ap₂ (λ (c : ℕ) (k : ℕ). c ∷ drop k t) (underscore_at t s is inside) next in
    ap (λ (l : List ℕ). take at t ++ l) (sym rest) ∙ take-append-drop at t

made : (client : List ℕ) (o : Option ℕ) (id : BackupId) → id_made client o ≡ Some id → (is_name client ≡ true) × (client ≡ id.client) × (o ≡ Some id.time)
made client None id is = absurd (cc is)
made client (Some time) id is =
    let parts = guarded (is_name client) (Some (record { client = client; time = time })) id is in
    let same = same_value _ id parts.1 in
    (parts.0, ap (λ (x : BackupId). x.client) same, ap (λ (x : BackupId). Some x.time) same)

has_byte : (bytes : List ℕ) → is_name bytes ≡ true → nat_le 1 (length bytes) ≡ true
has_byte bytes is = (and_parts (nat_le 1 (length bytes)) (nat_le (length bytes) 64) (and_parts (nat_le 1 (length bytes) && nat_le (length bytes) 64) (list_all is_name_byte bytes) is).0).0

-- a name has a character, and so stands before an underscore
before_one : (t : List ℕ) → is_name (before_last is_underscore t) ≡ true → suffix_len (λ b. not (is_underscore b)) t < length t
before_one t is =
    let s = suffix_len (λ b. not (is_underscore b)) t in
    let within = suffix_len-le-length (λ b. not (is_underscore b)) t in
    let some : 1 ≤ length (take (length t - s - 1) t) = leb-true 1 _ (has_byte (before_last is_underscore t) is) in
    omega (arith, length-take (length t - s - 1) t)

pub id_spelled : (t : List ℕ) (id : BackupId) → id_of t ≡ Some id → id_text id ≡ t
id_spelled t id is =
    let client = before_last is_underscore t in
    let time = after_last is_underscore t in
    let parts = made client (number_between 1 last_moment time) id is in
    ap₂ (λ (c : List ℕ) (d : List ℕ). c ++ 95 ∷ d) (sym parts.1) (number_spelled 1 last_moment time id.time parts.2) ∙ cut_at_last t _ refl (before_one t parts.0)

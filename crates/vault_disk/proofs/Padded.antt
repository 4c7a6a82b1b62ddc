-- A write over bytes that were made long enough.
use Rattle.std.proofs.Common.{◌≡◌, inl, inr, ℕ, ◌+◌, ◌-◌, ◌≤◌, List, ◌++◌, length, take, drop, replicate, sym, ◌∙◌, ap, arith, length-append, length-drop, append_assoc}
use Rattle.std.proofs.lemmas.Bool.{cases_lt}
use Rattle.std.proofs.lemmas.List.{take_all, take_at, length-take-le, take-append-le, drop_all, drop-drop, append-nil, length-replicate, take-replicate}
use Rattle.std.proofs.Math.Seq.{take-append-add}
use borrow.Rule.Slice.PartMut.{put_mid, post_of}
use Rattle.vault_disk.specs.Steps.{written}

no_more : (old : List ℕ) (n : ℕ) → n ≡ 0 → old ++ replicate n 0 ≡ old
no_more old n z = ap (λ (k : ℕ). old ++ replicate {A = ℕ} k 0) z ∙ append-nil old

take_padded : (old : List ℕ) (at n : ℕ) → at - length old ≤ n → take at (old ++ replicate n 0) ≡ take at old ++ replicate (at - length old) 0
take_padded old at n le =
    let pad : List ℕ = replicate n 0 in
    elim (cases_lt at (length old)) [
      | inl short ↦ take-append-le at old pad (omega arith) ∙ sym (no_more (take at old) (at - length old) (omega arith))
      | inr long ↦
          let split : at ≡ length old + (at - length old) = omega arith in
          ap (λ (k : ℕ). take k (old ++ pad)) split
          ∙ take-append-add old pad (at - length old)
          ∙ ap (λ (l : List ℕ). old ++ l) (take-replicate (at - length old) n 0 le)
          ∙ ap (λ (l : List ℕ). l ++ replicate (at - length old) 0) (sym (take_all at old long))
    ]

drop_padded : (old : List ℕ) (m : ℕ) → drop m (old ++ replicate (m - length old) 0) ≡ drop m old
drop_padded old m =
    let pad : List ℕ = replicate (m - length old) 0 in
    elim (cases_lt m (length old)) [
      | inl short ↦ ap (λ (l : List ℕ). drop m l) (no_more old (m - length old) (omega arith))
      | inr long ↦
          drop_all m (old ++ pad) (omega (arith, length-append old pad, length-replicate {A = ℕ} (m - length old) 0)) ∙ sym (drop_all m old long)
    ]

padded_written : (old padded bytes : List ℕ) (at k : ℕ) → padded ≡ old ++ replicate (at + k - length old) 0 → k ≡ length bytes → put_mid at k padded bytes ≡ written old at bytes
padded_written old padded bytes at k is long =
    let pad : List ℕ = replicate (at + k - length old) 0 in
    let front : take at padded ≡ take at old ++ replicate (at - length old) 0 = ap (λ (l : List ℕ). take at l) is ∙ take_padded old at (at + k - length old) (omega arith) in
    let back : post_of at k padded ≡ drop (at + length bytes) old =
    drop-drop k at padded ∙ ap (λ (l : List ℕ). drop (at + k) l) is ∙ drop_padded old (at + k) ∙ ap (λ (j : ℕ). drop (at + j) old) long
    in
    ap (λ (l : List ℕ). l ++ (bytes ++ post_of at k padded)) front
    ∙ ap (λ (l : List ℕ). (take at old ++ replicate (at - length old) 0) ++ (bytes ++ l)) back
    ∙ sym (append_assoc (take at old ++ replicate (at - length old) 0) bytes (drop (at + length bytes) old))

over_at : (old padded bytes part rest : List ℕ) (at k n : ℕ) → padded ≡ old ++ replicate (at + k - length old) 0 → k ≡ length bytes → part ≡ bytes → n ≡ length padded
    → take n (put_mid at k padded part ++ rest) ≡ written old at bytes
over_at old padded bytes part rest at k n is long same whole =
    let pad : List ℕ = replicate (at + k - length old) 0 in
    let total : length padded ≡ length old + (at + k - length old) = ap length is ∙ length-append old pad ∙ ap (λ (j : ℕ). length old + j) (length-replicate {A = ℕ} (at + k - length old) 0) in
    let room : at + k ≤ length padded = omega (arith, total) in
    let front : length (take at padded) ≡ at = length-take-le at padded (omega arith) in
    let post : length (post_of at k padded) ≡ length padded - (at + k) = ap length (drop-drop k at padded) ∙ length-drop (at + k) padded in
    let every : length (put_mid at k padded part) ≡ n =
    length-append (take at padded) (part ++ post_of at k padded) ∙ omega (arith, length-append part (post_of at k padded), front, post, ap length same, long, whole, room)
    in
    take_at (put_mid at k padded part) rest n every
    ∙ ap (λ (l : List ℕ). put_mid at k padded l) same
    ∙ padded_written old padded bytes at k is long

pub overwritten : (old padded bytes part rest : List ℕ) (at end n : ℕ) → padded ≡ old ++ replicate (end - length old) 0 → end ≡ at + length bytes → part ≡ bytes → n ≡ length padded
    → take n (put_mid at (end - at) padded part ++ rest) ≡ written old at bytes
overwritten old padded bytes part rest at end n is ends same whole =
    let long : end - at ≡ length bytes = omega arith in
    let reach : end ≡ at + (end - at) = omega arith in
    over_at old padded bytes part rest at (end - at) n (is ∙ ap (λ (k : ℕ). old ++ replicate {A = ℕ} (k - length old) 0) reach) long same whole

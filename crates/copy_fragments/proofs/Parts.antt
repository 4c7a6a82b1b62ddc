-- Parts of copies, and the bytes that they are.
use Rattle.std.proofs.Common.{◌≡◌, inl, inr, ⊎_elim, ℕ, ◌+◌, ◌-◌, ◌*◌, ◌<◌, ◌≤◌, max, List, [], ◌++◌, length, take, drop, Some, refl, sym, ◌∙◌, ap, subst, arith, length-append, length-drop, Ok, Err}
use Rattle.std.specs.Prelude.{Result, IfErr, IfOk, OnOk, ◌⊎◌, slice_get}
use Rattle.std.proofs.Math.Nat.{mul-le-mul_right, mul_comm}
use Rattle.std.proofs.Math.Seq.{take-add, take-append_seam}
use Rattle.std.proofs.lemmas.Bool.{cases_lt}
use Rattle.std.proofs.lemmas.List.{drop-drop, drop-take, length-take, take-take}
use Rattle.vault_disk.specs.Disk.{Image}
use Rattle.segment_pool.specs.Pieces.{pieces}
use Rattle.segment_pool.specs.Placing.{IsWhole, bytes_in}
use Rattle.segment_pool.specs.Slots.{PoolState, held}
use Rattle.segment_pool.specs.declared.fault.ReadTrouble.{ReadTrouble}
use Rattle.segment_pool.specs.declared.slot.Slot.{Slot}
use Rattle.segment_pool.proofs.PieceLemmas.{piece_at}
use Rattle.copy_fragments.specs.Copies.{Copy, HoldsCopy, IsPart, IsPlaced, Meets, SomePiece, Spells, StandsIn, piece_length}

pub one_more : (i size : ℕ) → (i + 1) * size ≡ i * size + size
one_more i size = omega (arith, mul_comm (i + 1) size, mul_comm i size)

-- a piece that begins before the next one ends is no later
no_later : (i j size : ℕ) → i * size < j * size + size → i ≤ j
no_later i j size before = ⊎_elim
    (λ later. let k : (j + 1) * size ≤ i * size = mul-le-mul_right size (let z : j + 1 ≤ i = omega arith in z) in absurd (omega (arith, before, k, one_more j size)))
    (λ le. le) (cases_lt j i)

-- the piece at an index
pub piece_of : (copy : Copy) (bytes : List ℕ) (index : ℕ) → 1 ≤ copy.size → length bytes ≡ copy.length → index * copy.size < copy.length → slice_get (pieces copy.size bytes) index ≡ Some (take copy.size (drop (index * copy.size) bytes))
piece_of copy bytes index some long begins = piece_at copy.size index bytes some (let z : index * copy.size < length bytes = omega (arith, long, begins) in z)

pub piece_long : (copy : Copy) (bytes : List ℕ) (index : ℕ) → length bytes ≡ copy.length → length (take copy.size (drop (index * copy.size) bytes)) ≡ piece_length copy index
piece_long copy bytes index long = omega (arith, long, length-take copy.size (drop (index * copy.size) bytes), length-drop (index * copy.size) bytes)

-- a part of nothing
pub no_part : (digest_of : List ℕ → List ℕ) (pool : PoolState) (image : Image) (copy : Copy) (at : ℕ) → IsPart digest_of pool image copy at []
no_part digest_of pool image copy at = record {
  whole = λ index slot what meets slot_is is_held. absurd (omega (arith, meets));
  bytes_are = λ bytes spells. refl;
}

-- a piece that meets a part meets its front or what follows
meets_one : (copy : Copy) (at n m index : ℕ) → Meets copy at (n + m) index → Meets copy at n index ⊎ Meets copy (at + n) m index
meets_one copy at n m index meets = ⊎_elim
    (λ before. inl (omega arith))
    (λ behind. inr (omega arith))
    (cases_lt (max at (index * copy.size)) (at + n))

-- a part and the one behind it
pub joined : (digest_of : List ℕ → List ℕ) (pool : PoolState) (image : Image) (copy : Copy) (at : ℕ) (a b : List ℕ) → IsPart digest_of pool image copy at a → IsPart digest_of pool image copy (at + length a) b → IsPart digest_of pool image copy at (a ++ b)
joined digest_of pool image copy at a b first second =
    let long = length-append a b in
    record {
      whole = λ index slot what meets slot_is is_held. ⊎_elim
          (λ one. first.whole index slot what one slot_is is_held)
          (λ other. second.whole index slot what other slot_is is_held)
          (meets_one copy at (length a) (length b) index (subst (λ (k : ℕ). Meets copy at k index) long meets));
      bytes_are = λ bytes spells.
          let front : a ≡ take (length a) (drop at bytes) =
          first.bytes_are bytes (record { length_is = spells.length_is; pieces_are = λ index slot meets slot_is. spells.pieces_are index slot (omega (arith, meets, long)) slot_is }) in
          let behind : b ≡ take (length b) (drop (at + length a) bytes) =
          second.bytes_are bytes (record { length_is = spells.length_is; pieces_are = λ index slot meets slot_is. spells.pieces_are index slot (omega (arith, meets, long)) slot_is }) in
          (λ i. front i ++ behind i)
          ∙ ap (λ (l : List ℕ). take (length a) (drop at bytes) ++ take (length b) l) (sym (drop-drop (length a) at bytes))
          ∙ sym (take-add (length a) (length b) (drop at bytes))
          ∙ ap (λ (k : ℕ). take k (drop at bytes)) (sym long);
    }

-- a part of a piece that starts before its end
of_front : (from count size : ℕ) (l : List ℕ) → from + count ≤ size → take count (drop from (take size l)) ≡ take count (drop from l)
of_front from count size l within =
    let size_is : size ≡ from + (size - from) = omega arith in
    ap (λ (k : ℕ). take count (drop from (take k l))) size_is
    ∙ ap (take count) (drop-take from (size - from) l)
    ∙ take-take count (size - from) (drop from l) (let z : count ≤ size - from = omega arith in z)

-- what is read of the piece in which an offset stands
module _ (pool : PoolState) (copy : Copy) (at slot from long : ℕ) (place : StandsIn copy at slot from long) (holds : HoldsCopy pool copy) where
  pub held_there : (n : ℕ) → from + n ≤ long → (what : Slot) × (held pool slot ≡ Some what) × (what.length ≡ long) × (from + n ≤ long)
  held_there n le = let there = holds place.index slot place.slot_is in (there.0, there.1, there.2 ∙ sym place.length_is, le)

  one_part : (digest_of : List ℕ → List ℕ) (image : Image) (part : List ℕ) → 1 ≤ length part → from + length part ≤ long → ((what : Slot) → held pool slot ≡ Some what → IsWhole digest_of what (bytes_in pool image slot long)) → part ≡ take (length part) (drop from (bytes_in pool image slot long)) → IsPart digest_of pool image copy at part
  one_part digest_of image part more within whole part_is = record {
    whole = λ i s w meets s_is w_is.
        let same : i ≡ place.index = omega (arith, meets, place.at_is, within, place.length_is, no_later i place.index copy.size, no_later place.index i copy.size) in
        let same_slot : s ≡ slot = cc (ap (λ (k : ℕ). slice_get copy.slots k) same, s_is, place.slot_is) in
        let w_is' : held pool slot ≡ Some w = ap (λ (k : ℕ). held pool k) (sym same_slot) ∙ w_is in
        let there = holds place.index slot place.slot_is in
        let long_is : w.length ≡ long = ap (λ (x : Slot). x.length) (let z : w ≡ there.0 = cc (w_is', there.1) in z) ∙ there.2 ∙ sym place.length_is in
        subst (λ (k : ℕ). IsWhole digest_of w (bytes_in pool image k w.length)) (sym same_slot)
        (subst (λ (k : ℕ). IsWhole digest_of w (bytes_in pool image slot k)) (sym long_is) (whole w w_is'));
    bytes_are = λ bytes spells.
        let meets : Meets copy at (length part) place.index = omega (arith, place.at_is, within, place.length_is, more) in
        let begins : place.index * copy.size < copy.length = omega (arith, place.at_is, within, place.length_is, more) in
        let told = spells.pieces_are place.index slot meets place.slot_is in
        let here = piece_of copy bytes place.index place.some spells.length_is begins in
        let equal : bytes_in pool image slot (piece_length copy place.index) ≡ take copy.size (drop (place.index * copy.size) bytes) = cc (told, here) in
        part_is
        ∙ ap (λ (k : ℕ). take (length part) (drop from (bytes_in pool image slot k))) place.length_is
        ∙ ap (λ (l : List ℕ). take (length part) (drop from l)) equal
        ∙ of_front from (length part) copy.size (drop (place.index * copy.size) bytes) (let z : from + length part ≤ copy.size = omega (arith, within, place.length_is) in z)
        ∙ ap (take (length part)) (drop-drop from (place.index * copy.size) bytes)
        ∙ ap (λ (k : ℕ). take (length part) (drop k bytes)) (sym place.at_is);
  }

  pub parts_there : {E : Type 0} (digest_of : List ℕ → List ℕ) (image : Image) (k : ℕ) (part rest : List ℕ) (r : Result ℕ E) → 1 ≤ k → from + k ≤ long → length part ≡ k → IfOk r (λ n. n ≡ k)
      → ((what : Slot) → held pool slot ≡ Some what → OnOk r (IsWhole digest_of what (bytes_in pool image slot long))) → OnOk r (part ≡ take k (drop from (bytes_in pool image slot long)))
      → IfOk r (λ n. IsPart digest_of pool image copy at (take n (part ++ rest)))
  parts_there digest_of image k part rest (Ok n) more within long_is n_is whole part_is =
      subst (λ (l : List ℕ). IsPart digest_of pool image copy at l) (sym (ap (λ (j : ℕ). take j (part ++ rest)) (n_is ∙ sym long_is) ∙ take-append_seam part rest))
      (one_part digest_of image part (let z : 1 ≤ length part = omega (arith, more, long_is) in z) (let z : from + length part ≤ long = omega (arith, within, long_is) in z) whole
      (part_is ∙ ap (λ (j : ℕ). take j (drop from (bytes_in pool image slot long))) (sym long_is)))
  parts_there digest_of image k part rest (Err e) more within long_is n_is whole part_is = tt

  pub trouble_there : {T : Type 0} (n : ℕ) (P : ℕ → Slot → ReadTrouble → Type 0) (r : Result T ReadTrouble) → 1 ≤ n → ((what : Slot) → held pool slot ≡ Some what → IfErr r (P slot what)) → IfErr r (λ t. SomePiece pool copy at n (λ s w. P s w t))
  trouble_there n P (Ok v) some all = tt
  trouble_there n P (Err t) some all =
      let there = holds place.index slot place.slot_is in
      record {
        index = place.index;
        slot = slot;
        what = there.0;
        meets = omega (arith, place.at_is, place.within, place.length_is, some);
        slot_is = place.slot_is;
        is_held = there.1;
        holds = all there.0 there.1;
      }

-- placed bytes are those that the pieces of a part spell
pub placed_spells : (digest_of : List ℕ → List ℕ) (pool : PoolState) (image : Image) (copy : Copy) (at n : ℕ) (bytes : List ℕ) → 1 ≤ copy.size → IsPlaced digest_of pool image copy bytes → Spells pool image copy at n bytes
placed_spells digest_of pool image copy at n bytes some placed = record {
  length_is = placed.length_is;
  pieces_are = λ index slot meets slot_is.
      let begins : index * copy.size < copy.length = omega (arith, meets) in
      let here = piece_of copy bytes index some placed.length_is begins in
      let has = placed.has_pieces index slot (take copy.size (drop (index * copy.size) bytes)) slot_is here in
      let piece : take copy.size (drop (index * copy.size) bytes) ≡ bytes_in pool image slot (piece_length copy index) = sym has.bytes_are ∙ ap (bytes_in pool image slot) (has.length_is ∙ piece_long copy bytes index placed.length_is) in
      here ∙ ap (λ (l : List ℕ). Some l) piece;
}

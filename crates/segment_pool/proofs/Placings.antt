-- What a placing leaves of a pool's file.
use Rattle.std.proofs.Common.{◌≡◌, ◌≢◌, ⊎_elim, ℕ, ◌+◌, ◌-◌, ◌*◌, ◌<◌, ◌≤◌, min, List, ◌++◌, length, take, drop, replicate, Some, None, refl, sym, ◌∙◌, ap, subst, arith, length-append, length-drop, append_assoc}
use Rattle.std.specs.Prelude.{is_some, Result}
use Rattle.std.proofs.Math.Nat.{mul_comm}
use Rattle.std.proofs.lemmas.Bool.{cases_eq, cases_order}
use Rattle.std.proofs.lemmas.List.{drop-take, take-take, drop-drop, length-take, length-replicate, take_at, drop_at}
use Rattle.std.proofs.lemmas.Nat.{mul-add-lt}
use Rattle.vault_disk.specs.Disk.{Image, Disk, IsSame, Now}
use Rattle.vault_disk.specs.Steps.{Changes, LookedAround, Torn, Wrote, written}
use Rattle.vault_disk.specs.MemoryLaws.{written_torn}
use Rattle.vault_disk.proofs.Moments.{goes_on, weaker}
use Rattle.segment_pool.specs.declared.slot.Slot.{Slot}
use Rattle.segment_pool.specs.Slots.{PoolState, held, AreSound, Becomes, IsLowestFree, PinnedAgain, Placed, pinned_piece}
use Rattle.segment_pool.specs.Placing.{bytes_in, HasOwnBytes, HasPiece, LacksPiece, IsTruePool, KeepsPieces, Touches, TornIn}

part_of_front : (j k m : ℕ) (xs : List ℕ) → j + k ≤ m → take k (drop j (take m xs)) ≡ take k (drop j xs)
part_of_front j k m xs le =
    ap (λ (n : ℕ). take k (drop j (take n xs))) (let z : m ≡ j + (m - j) = omega (arith, le) in z)
    ∙ ap (λ (l : List ℕ). take k l) (drop-take j (m - j) xs)
    ∙ take-take k (m - j) (drop j xs) (omega (arith, le))

behind : (j m : ℕ) (xs ys : List ℕ) → m ≤ j → drop m xs ≡ drop m ys → drop j xs ≡ drop j ys
behind j m xs ys le same =
    let split : j ≡ m + (j - m) = omega (arith, le) in
    ap (λ (n : ℕ). drop n xs) split ∙ sym (drop-drop (j - m) m xs) ∙ ap (λ (l : List ℕ). drop (j - m) l) same ∙ drop-drop (j - m) m ys ∙ ap (λ (n : ℕ). drop n ys) (sym split)

-- the slots lie one behind another
slot_before : (size s t n : ℕ) → s < t → 1 ≤ n → n ≤ size → s * size + n ≤ t * size
slot_before size s t n lt some short = omega (arith, mul-add-lt s size (n - 1) t lt (omega (arith, some, short)), mul_comm t size, some)

-- a torn write into one slot keeps the whole piece of another
piece_kept : (size s t n k : ℕ) (d c : List ℕ) → s ≢ t → 1 ≤ n → n ≤ size → 1 ≤ k → k ≤ size → Torn (s * size) n d c → length (take k (drop (t * size) d)) ≡ k → take k (drop (t * size) c) ≡ take k (drop (t * size) d)
piece_kept size s t n k d c ne some short some' short' torn whole =
    ⊎_elim (λ same. absurd (ne same))
    (λ other. ⊎_elim
    (λ lt. ap (λ (l : List ℕ). take k l) (behind (t * size) (s * size + n) c d (slot_before size s t n lt some short) torn.after))
    (λ gt.
    let long : t * size + k ≤ length d = omega (arith, whole, length-take k (drop (t * size) d), length-drop (t * size) d, some') in
    let before : t * size + k ≤ s * size = slot_before size t s k gt some' short' in
    sym (part_of_front (t * size) k (min (s * size) (length d)) c (omega (arith, long, before)))
    ∙ ap (λ (l : List ℕ). take k (drop (t * size) l)) torn.before
    ∙ part_of_front (t * size) k (s * size) d before)
    other)
    (cases_order s t)

other_slot : (pool : PoolState) (s t : ℕ) (x : Slot) → held pool s ≡ None → held pool t ≡ Some x → s ≢ t
other_slot pool s t x free is eq = let none : held pool t ≡ None = ap (λ (k : ℕ). held pool k) (sym eq) ∙ free in absurd (cc (none, is))

pub kept_self : (pool : PoolState) (end : ℕ) (c : Image) → KeepsPieces pool end c c
kept_self pool end c = record { others = λ f ne. refl; pieces = λ s x is whole. refl; no_shorter = omega arith; no_longer = omega arith }

pub torn_keeps : (pool : PoolState) (s n : ℕ) (d c : Image) → AreSound pool.size pool.table → held pool s ≡ None → 1 ≤ n → n ≤ pool.size → Changes pool.file (Torn (s * pool.size) n) d c → KeepsPieces pool (s * pool.size + n) d c
torn_keeps pool s n d c sound free some short changes = record {
  others = changes.others;
  pieces = λ t x is whole.
      let bounds = sound t x is in
      piece_kept pool.size s t n x.length (d pool.file) (c pool.file) (other_slot pool s t x free is) some short bounds.0 bounds.1 changes.inside whole;
  no_shorter = changes.inside.no_shorter;
  no_longer = changes.inside.no_longer;
}

pub as_torn : (file at : ℕ) (bytes : List ℕ) (old new : Image) → Changes file (λ o n. n ≡ written o at bytes) old new → Changes file (Torn at (length bytes)) old new
as_torn file at bytes old new changes = record {
  inside = subst (λ (l : List ℕ). Torn at (length bytes) (old file) l) (sym changes.inside) (written_torn (old file) at bytes);
  others = changes.others;
}

pub torn_wrote : {T E : Type 0} (file at : ℕ) (bytes : List ℕ) (a b : Disk) (result : Result T E) → IsSame a b → Wrote file at bytes a b result → TornIn file at (length bytes) a b
torn_wrote file at bytes a b result same wrote = record {
  left = wrote.left;
  during = weaker a b (Now b) _ (λ c sent now. (wrote.left c now.0, now.1 ∙ same.sent)) wrote.time.during;
}

pub touches_looked : (pool : PoolState) (end : ℕ) (a b : Disk) → LookedAround a b → Touches pool end a b
touches_looked pool end a b looked = record {
  left = λ c left. (c, looked.rests.left c left, kept_self pool end c);
  during = weaker a b (Now a) _ (λ c sent now. ((c, now.0, kept_self pool end c), now.1)) looked.during;
}

-- a look around, and then a write that a stop may cut short
pub touches_torn : (pool : PoolState) (s n : ℕ) (a b e : Disk) → AreSound pool.size pool.table → held pool s ≡ None → 1 ≤ n → n ≤ pool.size → LookedAround a b → IsSame a b → TornIn pool.file (s * pool.size) n b e → Touches pool (s * pool.size + n) a e
touches_torn pool s n a b e sound free some short looked same torn =
    let keeps : (d c : Image) → Changes pool.file (Torn (s * pool.size) n) d c → KeepsPieces pool (s * pool.size + n) d c = λ d c changes. torn_keeps pool s n d c sound free some short changes in
    record {
      left = λ c left. let from = torn.left c left in (from.0, looked.rests.left from.0 from.1, keeps from.0 c from.2);
      during = goes_on a b e _ (touches_looked pool (s * pool.size + n) a b looked).during
          (weaker b e _ _ (λ c sent now. ((now.0.0, looked.rests.left now.0.0 now.0.1, keeps now.0.0 c now.0.2), now.1 ∙ same.sent)) torn.during);
    }

-- what was written is read again
written_read : (old : List ℕ) (at : ℕ) (bytes : List ℕ) → take (length bytes) (drop at (written old at bytes)) ≡ bytes
written_read old at bytes =
    let front : List ℕ = take at old ++ replicate (at - length old) 0 in
    let long : length front ≡ at = omega (arith, length-append (take at old) (replicate (at - length old) 0), length-take at old, length-replicate {A = ℕ} (at - length old) 0) in
    ap (λ (l : List ℕ). take (length bytes) l) (ap (λ (l : List ℕ). drop at l) (append_assoc front bytes (drop (at + length bytes) old)) ∙ drop_at front (bytes ++ drop (at + length bytes) old) at long)
    ∙ take_at bytes (drop (at + length bytes) old) (length bytes) refl

pub placed_bytes : (old new : PoolState) (slot : ℕ) (piece : List ℕ) (c d : Image) → new.file ≡ old.file → new.size ≡ old.size → Changes old.file (λ o n. n ≡ written o (slot * old.size) piece) c d → bytes_in new d slot (length piece) ≡ piece
placed_bytes old new slot piece c d file size changes =
    (λ i. take (length piece) (drop (slot * size i) (d (file i))))
    ∙ ap (λ (l : List ℕ). take (length piece) (drop (slot * old.size) l)) changes.inside
    ∙ written_read (c old.file) (slot * old.size) piece

module _ (digest_of : List ℕ → List ℕ) (old new : PoolState) (slot : ℕ) (piece digest : List ℕ) (is : digest_of piece ≡ digest) where
  pub placed_has : (c d : Image) → Placed old new slot (length piece) digest → Changes old.file (λ o n. n ≡ written o (slot * old.size) piece) c d → HasPiece digest_of new d slot piece
  placed_has c d placed changes = record {
    what = pinned_piece (length piece) digest;
    is_held = placed.now.here;
    length_is = refl;
    digest_is = sym is;
    bytes_are = placed_bytes old new slot piece c d placed.now.file placed.now.size changes;
  }

  pub again_has : (c d : Image) → ((f : ℕ) → d f ≡ c f) → PinnedAgain old new slot (length piece) digest → HasPiece digest_of old c slot piece → HasPiece digest_of new d slot piece
  again_has c d same again has =
      let what : Slot = again.was.what in
      let equal : has.what ≡ what = let e = again.was.is_held in let f = has.is_held in cc (e, f) in
      record {
        what = record what { pins = what.pins + 1 };
        is_held = again.now.here;
        length_is = again.was.length_is;
        digest_is = again.was.digest_is ∙ sym is;
        bytes_are = (λ i. take what.length (drop (slot * again.now.size i) (d (again.now.file i)))) ∙ ap (λ (l : List ℕ). take what.length (drop (slot * old.size) l)) (same old.file) ∙ ap (λ (k : ℕ). bytes_in old c slot k) (ap (λ (x : Slot). x.length) (sym equal)) ∙ has.bytes_are;
      }

  -- a pin changes no piece
  pub again_true : (c d : Image) → ((f : ℕ) → d f ≡ c f) → PinnedAgain old new slot (length piece) digest → IsTruePool digest_of old c → IsTruePool digest_of new d
  again_true c d same again true_pool =
      let bytes : (t k : ℕ) → bytes_in new d t k ≡ bytes_in old c t k = λ t k. (λ i. take k (drop (t * again.now.size i) (d (again.now.file i)))) ∙ ap (λ (l : List ℕ). take k (drop (t * old.size) l)) (same old.file) in
      let before : (t : ℕ) (x : Slot) → held new t ≡ Some x → (y : Slot) × (held old t ≡ Some y) × (x.length ≡ y.length) × (x.digest ≡ y.digest) = λ t x here. ⊎_elim
      (λ eq.
      let what : Slot = again.was.what in
      let now : record what { pins = what.pins + 1 } ≡ x = let e = again.now.here in let f = ap (λ (k : ℕ). held new k) (sym eq) ∙ here in cc (e, f) in
      (what, ap (λ (k : ℕ). held old k) eq ∙ again.was.is_held, ap (λ (y : Slot). y.length) (sym now), ap (λ (y : Slot). y.digest) (sym now)))
      (λ ne. (x, sym (again.now.elsewhere t ne) ∙ here, refl, refl)) (cases_eq t slot) in
      record {
        whole = λ t x here.
            let b = before t x here in
            let w = true_pool.whole t b.0 b.1 in
            let all : bytes_in new d t x.length ≡ bytes_in old c t b.0.length = bytes t x.length ∙ ap (λ (k : ℕ). bytes_in old c t k) b.2 in
            record { length_is = ap length all ∙ w.length_is ∙ sym b.2; digest_is = ap digest_of all ∙ w.digest_is ∙ sym b.3 };
        distinct = λ s t x y at_s at_t equal.
            let b = before s x at_s in
            let e = before t y at_t in
            true_pool.distinct s t b.0 e.0 b.1 e.1
            (ap (λ (k : ℕ). bytes_in old c s k) (sym b.2) ∙ sym (bytes s x.length) ∙ equal ∙ bytes t y.length ∙ ap (λ (k : ℕ). bytes_in old c t k) e.2);
      }

  -- a placed piece is like no other
  pub placed_true : (c d : Image) → AreSound old.size old.table → 1 ≤ length piece → length piece ≤ old.size → Placed old new slot (length piece) digest → Changes old.file (λ o n. n ≡ written o (slot * old.size) piece) c d
      → LacksPiece digest_of old c piece → IsTruePool digest_of old c → IsTruePool digest_of new d
  placed_true c d sound some short placed changes lacks true_pool =
      let keeps = torn_keeps old slot (length piece) c d sound placed.lowest.free some short (as_torn old.file (slot * old.size) piece c d changes) in
      let here = placed_bytes old new slot piece c d placed.now.file placed.now.size changes in
      let elsewhere : (t : ℕ) (x : Slot) → held new t ≡ Some x → t ≢ slot → held old t ≡ Some x = λ t x is_held ne. sym (placed.now.elsewhere t ne) ∙ is_held in
      let bytes : (t : ℕ) (x : Slot) → held old t ≡ Some x → bytes_in new d t x.length ≡ bytes_in old c t x.length = λ t x was.
      (λ i. take x.length (drop (t * placed.now.size i) (d (placed.now.file i)))) ∙ keeps.pieces t x was (true_pool.whole t x was).length_is in
      let own : (t : ℕ) (x : Slot) → held new t ≡ Some x → t ≡ slot → x ≡ pinned_piece (length piece) digest = λ t x is_held eq. let e = placed.now.here in let f = ap (λ (k : ℕ). held new k) (sym eq) ∙ is_held in cc (e, f) in
      let own_bytes : (t : ℕ) (x : Slot) → held new t ≡ Some x → t ≡ slot → bytes_in new d t x.length ≡ piece = λ t x is_held eq.
      (λ i. bytes_in new d (eq i) (own t x is_held eq i).length) ∙ here in
      let unlike : (t : ℕ) (x : Slot) → held old t ≡ Some x → bytes_in old c t x.length ≢ piece = λ t x was equal.
      let w = true_pool.whole t x was in
      lacks t (record { what = x; is_held = was; length_is = sym w.length_is ∙ ap length equal; digest_is = sym w.digest_is ∙ ap digest_of equal; bytes_are = equal }) in
      record {
        whole = λ t x is_held. ⊎_elim
            (λ eq.
            let x_is = own t x is_held eq in
            let all = own_bytes t x is_held eq in
            record { length_is = ap length all ∙ ap (λ (y : Slot). y.length) (sym x_is); digest_is = ap digest_of all ∙ is ∙ ap (λ (y : Slot). y.digest) (sym x_is) })
            (λ ne.
            let was = elsewhere t x is_held ne in
            let w = true_pool.whole t x was in
            record { length_is = ap length (bytes t x was) ∙ w.length_is; digest_is = ap digest_of (bytes t x was) ∙ w.digest_is })
            (cases_eq t slot);
        distinct = λ s t x y at_s at_t equal. ⊎_elim
            (λ s_is. ⊎_elim (λ t_is. s_is ∙ sym t_is)
            (λ t_ne. let was = elsewhere t y at_t t_ne in absurd (unlike t y was (sym (bytes t y was) ∙ sym equal ∙ own_bytes s x at_s s_is))) (cases_eq t slot))
            (λ s_ne. let was = elsewhere s x at_s s_ne in ⊎_elim
            (λ t_is. absurd (unlike s x was (sym (bytes s x was) ∙ equal ∙ own_bytes t y at_t t_is)))
            (λ t_ne. let was' = elsewhere t y at_t t_ne in true_pool.distinct s t x y was was' (sym (bytes s x was) ∙ equal ∙ bytes t y was')) (cases_eq t slot))
            (cases_eq s slot);
      }

-- a slot of its own bytes becomes held
pub own_true : (digest_of : List ℕ → List ℕ) (old new : PoolState) (image : Image) (slot : ℕ) (what : Slot) → Becomes old new slot (Some what) → IsTruePool digest_of old image → HasOwnBytes digest_of old image slot what → IsTruePool digest_of new image
own_true digest_of old new image slot what now true_pool own =
    let bytes : (t k : ℕ) → bytes_in new image t k ≡ bytes_in old image t k = λ t k. (λ i. take k (drop (t * now.size i) (image (now.file i)))) in
    let here : (t : ℕ) (x : Slot) → held new t ≡ Some x → t ≡ slot → x ≡ what = λ t x is_held eq. let e = now.here in let f = ap (λ (k : ℕ). held new k) (sym eq) ∙ is_held in cc (e, f) in
    let here_bytes : (t : ℕ) (x : Slot) → held new t ≡ Some x → t ≡ slot → bytes_in new image t x.length ≡ bytes_in old image slot what.length = λ t x is_held eq.
    (λ i. bytes_in new image (eq i) (here t x is_held eq i).length) ∙ bytes slot what.length in
    let elsewhere : (t : ℕ) (x : Slot) → held new t ≡ Some x → t ≢ slot → held old t ≡ Some x = λ t x is_held ne. sym (now.elsewhere t ne) ∙ is_held in
    record {
      whole = λ t x is_held. ⊎_elim
          (λ eq.
          let x_is = here t x is_held eq in
          let all = here_bytes t x is_held eq in
          record { length_is = ap length all ∙ own.whole.length_is ∙ ap (λ (y : Slot). y.length) (sym x_is); digest_is = ap digest_of all ∙ own.whole.digest_is ∙ ap (λ (y : Slot). y.digest) (sym x_is) })
          (λ ne.
          let w = true_pool.whole t x (elsewhere t x is_held ne) in
          record { length_is = ap length (bytes t x.length) ∙ w.length_is; digest_is = ap digest_of (bytes t x.length) ∙ w.digest_is })
          (cases_eq t slot);
      distinct = λ s t x y at_s at_t equal. ⊎_elim
          (λ s_is. ⊎_elim (λ t_is. s_is ∙ sym t_is)
          (λ t_ne. absurd (own.alone t y (elsewhere t y at_t t_ne) (sym (bytes t y.length) ∙ sym equal ∙ here_bytes s x at_s s_is))) (cases_eq t slot))
          (λ s_ne. ⊎_elim
          (λ t_is. absurd (own.alone s x (elsewhere s x at_s s_ne) (sym (bytes s x.length) ∙ equal ∙ here_bytes t y at_t t_is)))
          (λ t_ne. true_pool.distinct s t x y (elsewhere s x at_s s_ne) (elsewhere t y at_t t_ne) (sym (bytes s x.length) ∙ equal ∙ bytes t y.length)) (cases_eq t slot))
          (cases_eq s slot);
    }

-- there is one lowest free slot
pub one_lowest : (pool : PoolState) (s t : ℕ) → IsLowestFree pool s → IsLowestFree pool t → s ≡ t
one_lowest pool s t a b = ⊎_elim (λ same. same)
    (λ other. ⊎_elim (λ lt. absurd (let none = ap is_some a.free in cc (none, b.lowest s lt))) (λ gt. absurd (let none = ap is_some b.free in cc (none, a.lowest t gt))) other)
    (cases_order s t)

-- what reads give stayed
pub keeps_same : (pool : PoolState) (end : ℕ) (c d : Image) → ((f : ℕ) → d f ≡ c f) → KeepsPieces pool end c d
keeps_same pool end c d same = record {
  others = λ f ne. same f;
  pieces = λ s x is whole. ap (λ (l : List ℕ). take x.length (drop (s * pool.size) l)) (same pool.file);
  no_shorter = omega (arith, ap length (same pool.file));
  no_longer = omega (arith, ap length (same pool.file));
}

pub torn_as : (file file' at at' n : ℕ) (a b : Disk) → file ≡ file' → at ≡ at' → TornIn file at n a b → TornIn file' at' n a b
torn_as file file' at at' n a b file_is at_is torn = subst (λ (k : ℕ). TornIn file' k n a b) at_is (subst (λ (k : ℕ). TornIn k at n a b) file_is torn)

pub looked_after : (a b c : Disk) → LookedAround a b → LookedAround b c → IsSame a b → LookedAround a c
looked_after a b c first second same = record {
  rests = record { seen = λ f. second.rests.seen f ∙ first.rests.seen f; left = λ i left. first.rests.left i (second.rests.left i left) };
  during = goes_on a b c (Now a) first.during (weaker b c (Now b) (Now a) (λ i sent now. (first.rests.left i now.0, now.1 ∙ same.sent)) second.during);
}

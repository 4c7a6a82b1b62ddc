-- Reading all of a copy.
use Rattle.std.proofs.Common.{◌≡◌, ⊎_elim, ℕ, ◌+◌, ◌*◌, ◌<◌, ◌≤◌, List, length, get_or, Some, Ok, Err, sym, ◌∙◌, ap, subst, arith}
use Rattle.std.specs.Prelude.{Result, IfErr, slice_get}
use Rattle.std.specs.Result.{IsErrAnd}
use Rattle.std.proofs.Math.Nat.{mul-le-mul_right}
use Rattle.std.proofs.lemmas.Bool.{cases_lt}
use Rattle.std.proofs.lemmas.Option.{slice_get-get_or, slice_get_within}
use Rattle.vault_disk.specs.Disk.{Image}
use Rattle.segment_pool.specs.Faults.{TroubleHolds}
use Rattle.segment_pool.specs.Placing.{IsWhole, bytes_in}
use Rattle.segment_pool.specs.Slots.{PoolState, held}
use Rattle.segment_pool.specs.declared.fault.ReadTrouble.{ReadTrouble}
use Rattle.segment_pool.specs.declared.fault.ReadTrouble.TheVariants as trouble
use Rattle.segment_pool.specs.declared.slot.Slot.{Slot}
use Rattle.copy_fragments.specs.Copies.{Copy, HoldsCopy, IsPieceCount, SomePiece}
use Rattle.copy_fragments.specs.WholeCopies.{AreWholeBefore, FirstTrouble, OfTrouble, fault_of_trouble}
use Rattle.copy_fragments.specs.declared.whole_copy.CopyFault.{CopyFault}
use Rattle.copy_fragments.proofs.Parts.{one_more}

-- what holds of a trouble holds of it as a fault
of_trouble : (P : ReadTrouble → Type 0) (t : ReadTrouble) → P t → OfTrouble P (fault_of_trouble t)
of_trouble P trouble.DiskFault holds = holds
of_trouble P (trouble.Damaged recorded found) holds = holds

pub as_fault : {T : Type 0} (P : ReadTrouble → Type 0) (t : ReadTrouble) (r : Result T CopyFault) → IsErrAnd r (λ e. e ≡ fault_of_trouble t) → P t → IfErr r (OfTrouble P)
as_fault P t (Ok v) is holds = tt
as_fault P t (Err e) is holds = subst (λ (f : CopyFault). OfTrouble P f) (sym is) (of_trouble P t holds)

-- a turn's slot
pub slot_there : (items slots : List ℕ) (index : ℕ) → items ≡ slots → index < length items → slice_get slots index ≡ Some (get_or items index 0)
slot_there items slots index same within = ap (λ (l : List ℕ). slice_get l index) (sym same) ∙ slice_get-get_or items index 0 within

-- each piece begins before the copy's end
begins : (count size long index : ℕ) → IsPieceCount count size long → index < count → index * size < long
begins count size long index counts within =
    let le : (index + 1) * size ≤ count * size = mul-le-mul_right size (let z : index + 1 ≤ count = omega arith in z) in
    omega (arith, le, one_more index size, counts.none_empty)

some_size : (count size long : ℕ) → IsPieceCount count size long → 1 ≤ size
some_size count size long counts = omega (arith, counts.none_empty, counts.enough)

-- a trouble of one piece is one of the copy
pub trouble_at : {T : Type 0} (pool : PoolState) (copy : Copy) (index slot : ℕ) (P : ℕ → Slot → ReadTrouble → Type 0) (t : ReadTrouble) (r : Result T ReadTrouble) → IsPieceCount (length copy.slots) copy.size copy.length → HoldsCopy pool copy → slice_get copy.slots index ≡ Some slot
    → IsErrAnd r (λ e. e ≡ t) → ((what : Slot) → held pool slot ≡ Some what → P slot what t) → IfErr r (λ e. SomePiece pool copy 0 copy.length (λ s w. P s w e))
trouble_at pool copy index slot P t (Ok v) counts holds slot_is is all = tt
trouble_at pool copy index slot P t (Err e) counts holds slot_is is all =
    let there = holds index slot slot_is in
    record {
      index = index;
      slot = slot;
      what = there.0;
      meets = omega (arith, begins (length copy.slots) copy.size copy.length index counts (slice_get_within copy.slots index slot slot_is), some_size (length copy.slots) copy.size copy.length counts);
      slot_is = slot_is;
      is_held = there.1;
      holds = subst (λ (x : ReadTrouble). P slot there.0 x) (sym is) (all there.0 there.1);
    }

pub first_at : {T : Type 0} (digest_of : List ℕ → List ℕ) (pool : PoolState) (image : Image) (copy : Copy) (index slot : ℕ) (t : ReadTrouble) (r : Result T ReadTrouble) → slice_get copy.slots index ≡ Some slot → AreWholeBefore digest_of pool image copy index
    → IsErrAnd r (λ e. e ≡ t) → TroubleHolds digest_of pool image slot t → IfErr r (FirstTrouble digest_of pool image copy)
first_at digest_of pool image copy index slot t (Ok v) slot_is before is holds = tt
first_at digest_of pool image copy index slot t (Err e) slot_is before is holds = record {
  index = index;
  slot = slot;
  slot_is = slot_is;
  before = before;
  holds = subst (λ (x : ReadTrouble). TroubleHolds digest_of pool image slot x) (sym is) holds;
}

-- one piece more is whole
pub whole_on : (digest_of : List ℕ → List ℕ) (pool now_pool : PoolState) (old now : Image) (copy : Copy) (end slot : ℕ) → now_pool ≡ pool → now ≡ old → slice_get copy.slots end ≡ Some slot → AreWholeBefore digest_of pool old copy end
    → ((what : Slot) → held now_pool slot ≡ Some what → IsWhole digest_of what (bytes_in now_pool now slot what.length)) → AreWholeBefore digest_of pool old copy (end + 1)
whole_on digest_of pool now_pool old now copy end slot same_pool same slot_is before here = λ i s w within s_is w_is. ⊎_elim
    (λ lt. before i s w lt s_is w_is)
    (λ ge.
    let at : i ≡ end = omega (arith, within, ge) in
    let same_slot : s ≡ slot = cc (ap (λ (k : ℕ). slice_get copy.slots k) at, s_is, slot_is) in
    let is : held now_pool slot ≡ Some w = ap (λ (p : PoolState). held p slot) same_pool ∙ ap (λ (k : ℕ). held pool k) (sym same_slot) ∙ w_is in
    subst (λ (k : ℕ). IsWhole digest_of w (bytes_in pool old k w.length)) (sym same_slot)
    (subst (λ (i : Image). IsWhole digest_of w (bytes_in pool i slot w.length)) same
    (subst (λ (p : PoolState). IsWhole digest_of w (bytes_in p now slot w.length)) same_pool (here w is))))
    (cases_lt i end)

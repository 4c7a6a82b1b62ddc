-- Reading a part of a copy piece by piece.
use Rattle.std.proofs.Common.{◌≡◌, ⊎_elim, ℕ, ◌+◌, ◌*◌, ◌<◌, ◌≤◌, List, ◌++◌, length, take, drop, Ok, Err, refl, sym, ◌∙◌, ap, subst, arith}
use Rattle.std.specs.Prelude.{Result, IfOk, IfErr, OnOk, MatchResult}
use Rattle.std.proofs.lemmas.List.{length-take-le, take-take}
use Rattle.std.proofs.lemmas.Slice.{take-put_mid}
use Rattle.std.proofs.Math.Seq.{take-append-add, take-append_seam}
use borrow.Rule.Slice.PartMut.{put_mid}
use Rattle.vault_disk.specs.Disk.{Image}
use Rattle.segment_pool.specs.Faults.{TroubleHolds, TroubleOf}
use Rattle.segment_pool.specs.Placing.{HasPiece, IsTruePool, bytes_in}
use Rattle.segment_pool.specs.Slots.{PoolState}
use Rattle.segment_pool.specs.declared.fault.ReadTrouble.{ReadTrouble}
use Rattle.segment_pool.specs.declared.fault.ReadTrouble.TheVariants as trouble
use Rattle.segment_pool.specs.declared.slot.Slot.{Slot}
use Rattle.segment_pool.proofs.Troubles.{undamaged}
use Rattle.copy_fragments.specs.Copies.{Copy, IsPart, IsPlaced, SomePiece}
use Rattle.copy_fragments.proofs.Parts.{joined, piece_of, placed_spells}

-- what reads give is the same after a look
pub same_image : (old new : Image) → ((f : ℕ) → new f ≡ old f) → new ≡ old
same_image old new same = λ i f. same f i

-- what a part was replaced by
filled : (done n k : ℕ) (into part : List ℕ) → done ≤ length into → n ≤ length part → take (done + n) (put_mid done k into part) ≡ take done into ++ take n part
filled done n k into part le fits =
    sym (take-take (done + n) (done + length part) (put_mid done k into part) (let z : done + n ≤ done + length part = omega arith in z))
    ∙ ap (take (done + n)) (take-put_mid done k into part (done + length part) refl le)
    ∙ ap (λ (j : ℕ). take (j + n) (take done into ++ part)) (sym (length-take-le done into le))
    ∙ take-append-add (take done into) part n

-- one turn more
pub part_on : (digest_of : List ℕ → List ℕ) (pool now_pool : PoolState) (old now : Image) (copy : Copy) (at done n k next : ℕ) (into part : List ℕ) → now_pool ≡ pool → now ≡ old → next ≡ at + done → done ≤ length into → n ≤ length part
    → IsPart digest_of pool old copy at (take done into) → IsPart digest_of now_pool now copy next (take n part) → IsPart digest_of pool old copy at (take (done + n) (put_mid done k into part))
part_on digest_of pool now_pool old now copy at done n k next into part same_pool same next_is le fits first second =
    let front = length-take-le done into le in
    let from : next ≡ at + length (take done into) = omega (arith, next_is, front) in
    subst (λ (l : List ℕ). IsPart digest_of pool old copy at l) (sym (filled done n k into part le fits))
    (joined digest_of pool old copy at (take done into) (take n part) first
    (subst (λ (j : ℕ). IsPart digest_of pool old copy j (take n part)) from (subst (λ (i : Image). IsPart digest_of pool i copy next (take n part)) same (subst (λ (p : PoolState). IsPart digest_of p now copy next (take n part)) same_pool second))))

-- a trouble behind is one of the whole part
pub some_later : (pool : PoolState) (copy : Copy) (at a n m next : ℕ) (P Q : ℕ → Slot → Type 0) → next ≡ at + a → a + m ≤ n → ((slot : ℕ) (what : Slot) → P slot what → Q slot what) → SomePiece pool copy next m P → SomePiece pool copy at n Q
some_later pool copy at a n m next P Q next_is within so some = record {
  index = some.index;
  slot = some.slot;
  what = some.what;
  meets = omega (arith, some.meets, next_is, within);
  slot_is = some.slot_is;
  is_held = some.is_held;
  holds = so some.slot some.what some.holds;
}

-- a slot's trouble, where the pool and what reads give are as they were
pub held_before : (digest_of : List ℕ → List ℕ) (pool now_pool : PoolState) (old now : Image) (slot : ℕ) (t : ReadTrouble) → now_pool ≡ pool → now ≡ old → TroubleHolds digest_of now_pool now slot t → TroubleHolds digest_of pool old slot t
held_before digest_of pool now_pool old now slot t same_pool same holds = subst (λ (i : Image). TroubleHolds digest_of pool i slot t) same (subst (λ (p : PoolState). TroubleHolds digest_of p now slot t) same_pool holds)

pub later_cause : (digest : List ℕ) (before mid now : ℕ) (t : ReadTrouble) → before ≤ mid → TroubleOf digest mid now t → TroubleOf digest before now t
later_cause digest before mid now trouble.DiskFault le rose = omega (arith, le, rose)
later_cause digest before mid now (trouble.Damaged recorded found) le same = same

pub undamaged_part : {T : Type 0} (digest_of : List ℕ → List ℕ) (pool : PoolState) (image : Image) (copy : Copy) (at n : ℕ) (r : Result T ReadTrouble) → IsTruePool digest_of pool image → IfErr r (λ t. SomePiece pool copy at n (λ slot _. TroubleHolds digest_of pool image slot t)) → IfErr r (λ t. t ≡ trouble.DiskFault)
undamaged_part digest_of pool image copy at n (Ok v) true_pool some = tt
undamaged_part digest_of pool image copy at n (Err t) true_pool some = undamaged digest_of pool image some.slot t true_pool some.holds

-- a slot that has the piece isn't damaged
pub has_undamaged : (digest_of : List ℕ → List ℕ) (pool : PoolState) (image : Image) (slot : ℕ) (piece : List ℕ) (t : ReadTrouble) → HasPiece digest_of pool image slot piece → TroubleHolds digest_of pool image slot t → t ≡ trouble.DiskFault
has_undamaged digest_of pool image slot piece trouble.DiskFault has holds = refl
has_undamaged digest_of pool image slot piece (trouble.Damaged recorded found) has damage =
    let same : has.what ≡ damage.what = cc (has.is_held, damage.is_held) in
    let bytes : bytes_in pool image slot damage.what.length ≡ piece = ap (λ (x : Slot). bytes_in pool image slot x.length) (sym same) ∙ has.bytes_are in
    absurd (⊎_elim
    (λ few. omega (arith, few, ap length bytes, has.length_is, ap (λ (x : Slot). x.length) same))
    (λ other. other (damage.found_is ∙ ap digest_of bytes ∙ sym has.digest_is ∙ ap (λ (x : Slot). x.digest) same ∙ sym damage.recorded_is))
    damage.differ)

pub placed_result : (digest_of : List ℕ → List ℕ) (pool : PoolState) (image : Image) (copy : Copy) (at n : ℕ) (into bytes : List ℕ) (r : Result ℕ ReadTrouble) → 1 ≤ copy.size → IsPlaced digest_of pool image copy bytes
    → IfOk r (λ k. k ≡ n) → n ≤ length into → IfOk r (λ k. IsPart digest_of pool image copy at (take k into)) → IfErr r (λ t. SomePiece pool copy at n (λ slot _. TroubleHolds digest_of pool image slot t))
    → MatchResult r (λ k. take k into ≡ take k (drop at bytes)) (λ t. t ≡ trouble.DiskFault)
placed_result digest_of pool image copy at n into bytes (Ok k) some placed is within part told =
    part.bytes_are bytes (placed_spells digest_of pool image copy at (length (take k into)) bytes some placed) ∙ ap (λ (j : ℕ). take j (drop at bytes)) (length-take-le k into (let z : k ≤ length into = omega (arith, is, within) in z))
placed_result digest_of pool image copy at n into bytes (Err t) some placed is within part told =
    let begins : told.index * copy.size < copy.length = omega (arith, told.meets) in
    let has = placed.has_pieces told.index told.slot (take copy.size (drop (told.index * copy.size) bytes)) told.slot_is (piece_of copy bytes told.index some placed.length_is begins) in
    has_undamaged digest_of pool image told.slot (take copy.size (drop (told.index * copy.size) bytes)) t has told.holds

-- what was filled is the front of the slice, whose rest is as before
pub front_part : {E : Type 0} (digest_of : List ℕ → List ℕ) (pool : PoolState) (image : Image) (copy : Copy) (at k : ℕ) (part rest : List ℕ) (r : Result ℕ E) → length part ≡ k → IfOk r (λ n. n ≡ k) → OnOk r (IsPart digest_of pool image copy at part) → IfOk r (λ n. IsPart digest_of pool image copy at (take n (part ++ rest)))
front_part digest_of pool image copy at k part rest (Ok n) long is whole = subst (λ (l : List ℕ). IsPart digest_of pool image copy at l) (sym (ap (λ (j : ℕ). take j (part ++ rest)) (is ∙ sym long) ∙ take-append_seam part rest)) whole
front_part digest_of pool image copy at k part rest (Err e) long is whole = tt

-- a trouble in a turn is one of the whole part
pub turn_trouble : {T : Type 0} (pool now_pool : PoolState) (copy : Copy) (at a n m next : ℕ) (P Q : ℕ → Slot → ReadTrouble → Type 0) (t : ReadTrouble) (r : Result T ReadTrouble) → now_pool ≡ pool → IfErr r (λ e. e ≡ t) → next ≡ at + a → a + m ≤ n → ((slot : ℕ) (what : Slot) → P slot what t → Q slot what t) → SomePiece now_pool copy next m (λ s w. P s w t) → IfErr r (λ e. SomePiece pool copy at n (λ s w. Q s w e))
turn_trouble pool now_pool copy at a n m next P Q t (Ok v) same is next_is within so some = tt
turn_trouble pool now_pool copy at a n m next P Q t (Err e) same is next_is within so some =
    some_later pool copy at a n m next (λ s w. P s w t) (λ s w. Q s w e) next_is within (λ s w p. subst (λ (x : ReadTrouble). Q s w x) (sym is) (so s w p))
    (subst (λ (p : PoolState). SomePiece p copy next m (λ s w. P s w t)) same some)

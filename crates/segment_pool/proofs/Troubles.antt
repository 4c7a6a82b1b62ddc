-- What a read of a slot tells.
use Rattle.std.proofs.Common.{◌≡◌, ◌≢◌, ⊎_elim, ℕ, List, length, Some, refl, sym, ◌∙◌, ap, subst, arith}
use Rattle.std.proofs.Common.{Ok, Err, true, false}
use Rattle.std.specs.Prelude.{Bool}
use Rattle.std.specs.Str.{bytes_eq}
use Rattle.std.proofs.lemmas.Slice.Eq.{bytes_eq-Decides}
use Rattle.std.specs.Prelude.{Result, IfErr}
use Rattle.vault_disk.specs.Disk.{Image}
use Rattle.segment_pool.specs.declared.fault.PoolFault.{PoolFault}
use Rattle.segment_pool.specs.declared.fault.ReadTrouble.{ReadTrouble}
use Rattle.segment_pool.specs.declared.fault.ReadTrouble.TheVariants as trouble
use Rattle.segment_pool.specs.declared.slot.Slot.{Slot}
use Rattle.segment_pool.specs.Slots.{PoolState, held}
use Rattle.segment_pool.specs.Placing.{bytes_in, HasPiece, IsDamaged, IsTruePool}
use Rattle.segment_pool.specs.Faults.{TroubleHolds, TroubleOf, TroubleSomewhere, FaultHolds, FaultTold, fault_of_trouble, IsDamage}

pub one_known : (pool : PoolState) (slot : ℕ) (x y : Slot) → held pool slot ≡ Some x → held pool slot ≡ Some y → x ≡ y
one_known pool slot x y a b = cc (a, b)

-- a true pool isn't damaged
not_damaged : (digest_of : List ℕ → List ℕ) (pool : PoolState) (image : Image) (slot : ℕ) (recorded found : List ℕ) → IsTruePool digest_of pool image → IsDamaged digest_of pool image slot recorded found → ⊥
not_damaged digest_of pool image slot recorded found true_pool damage =
    let w = true_pool.whole slot damage.what damage.is_held in
    ⊎_elim (λ few. omega (arith, few, w.length_is)) (λ other. other (damage.found_is ∙ w.digest_is ∙ sym damage.recorded_is)) damage.differ

pub undamaged : (digest_of : List ℕ → List ℕ) (pool : PoolState) (image : Image) (slot : ℕ) (t : ReadTrouble) → IsTruePool digest_of pool image → TroubleHolds digest_of pool image slot t → t ≡ trouble.DiskFault
undamaged digest_of pool image slot trouble.DiskFault true_pool holds = refl
undamaged digest_of pool image slot (trouble.Damaged recorded found) true_pool holds = absurd (not_damaged digest_of pool image slot recorded found true_pool holds)

pub no_damage : (digest_of : List ℕ → List ℕ) (pool : PoolState) (image : Image) (t : ReadTrouble) → IsTruePool digest_of pool image → TroubleSomewhere digest_of pool image t → IsDamage (fault_of_trouble t) → ⊥
no_damage digest_of pool image trouble.DiskFault true_pool holds damage = damage
no_damage digest_of pool image (trouble.Damaged recorded found) true_pool holds damage = not_damaged digest_of pool image holds.0 recorded found true_pool holds.1

pub fault_holds : (pool : PoolState) (digest : List ℕ) (before now : ℕ) (t : ReadTrouble) → TroubleOf digest before now t → FaultHolds pool digest before now (fault_of_trouble t)
fault_holds pool digest before now trouble.DiskFault cause = cause
fault_holds pool digest before now (trouble.Damaged recorded found) cause = cause

pub fault_told : (digest_of : List ℕ → List ℕ) (pool : PoolState) (image : Image) (piece : List ℕ) (t : ReadTrouble) → TroubleSomewhere digest_of pool image t → FaultTold digest_of pool image piece (fault_of_trouble t)
fault_told digest_of pool image piece trouble.DiskFault holds = tt
fault_told digest_of pool image piece (trouble.Damaged recorded found) holds = holds

pub undamaged_result : {T : Type 0} (digest_of : List ℕ → List ℕ) (pool : PoolState) (image : Image) (slot : ℕ) (r : Result T ReadTrouble) → IsTruePool digest_of pool image → IfErr r (TroubleHolds digest_of pool image slot) → IfErr r (λ t. t ≡ trouble.DiskFault)
undamaged_result digest_of pool image slot (Ok v) true_pool holds = tt
undamaged_result digest_of pool image slot (Err t) true_pool holds = undamaged digest_of pool image slot t true_pool holds

-- a trouble of the search, as the fault that is answered
pub cause_of : {T : Type 0} (pool : PoolState) (digest : List ℕ) (before now : ℕ) (r : Result T PoolFault) (t : ReadTrouble) → IfErr r (λ e. e ≡ fault_of_trouble t) → TroubleOf digest before now t → IfErr r (FaultHolds pool digest before now)
cause_of pool digest before now (Ok v) t is cause = tt
cause_of pool digest before now (Err e) t is cause = subst (λ (f : PoolFault). FaultHolds pool digest before now f) (sym is) (fault_holds pool digest before now t cause)

pub told_of : {T : Type 0} (digest_of : List ℕ → List ℕ) (pool : PoolState) (image : Image) (piece : List ℕ) (r : Result T PoolFault) (t : ReadTrouble) → IfErr r (λ e. e ≡ fault_of_trouble t) → TroubleSomewhere digest_of pool image t → IfErr r (FaultTold digest_of pool image piece)
told_of digest_of pool image piece (Ok v) t is holds = tt
told_of digest_of pool image piece (Err e) t is holds = subst (λ (f : PoolFault). FaultTold digest_of pool image piece f) (sym is) (fault_told digest_of pool image piece t holds)

pub undamaged_of : {T : Type 0} (digest_of : List ℕ → List ℕ) (pool : PoolState) (image : Image) (r : Result T PoolFault) (t : ReadTrouble) → IfErr r (λ e. e ≡ fault_of_trouble t) → IsTruePool digest_of pool image → TroubleSomewhere digest_of pool image t → IfErr r (λ e. IsDamage e → ⊥)
undamaged_of digest_of pool image (Ok v) t is true_pool holds = tt
undamaged_of digest_of pool image (Err e) t is true_pool holds = subst (λ (f : PoolFault). IsDamage f → ⊥) (sym is) (no_damage digest_of pool image t true_pool holds)

-- the bytes that were read are the piece, or aren't
pub has_so : (digest_of : List ℕ → List ℕ) (pool : PoolState) (image : Image) (slot : ℕ) (what : Slot) (piece digest bytes : List ℕ) → held pool slot ≡ Some what → what.length ≡ length piece → what.digest ≡ digest → digest_of piece ≡ digest
    → bytes_in pool image slot what.length ≡ bytes → bytes ≡ piece → HasPiece digest_of pool image slot piece
has_so digest_of pool image slot what piece digest bytes is long digest_is told here equal = record {
  what = what;
  is_held = is;
  length_is = long;
  digest_is = digest_is ∙ sym told;
  bytes_are = here ∙ equal;
}

pub lacks_so : (digest_of : List ℕ → List ℕ) (pool : PoolState) (image : Image) (slot : ℕ) (what : Slot) (piece bytes : List ℕ) → held pool slot ≡ Some what → bytes_in pool image slot what.length ≡ bytes → bytes ≢ piece → HasPiece digest_of pool image slot piece → ⊥
lacks_so digest_of pool image slot what piece bytes is here other has =
    let same : has.what ≡ what = one_known pool slot has.what what has.is_held is in
    other (sym here ∙ ap (λ (x : Slot). bytes_in pool image slot x.length) (sym same) ∙ has.bytes_are)

pub equal_bytes : (xs ys : List ℕ) (b : Bool) → b ≡ bytes_eq xs ys → b ≡ true → xs ≡ ys
equal_bytes xs ys b is yes_it_is = (bytes_eq-Decides xs ys).0 (sym is ∙ yes_it_is)

pub other_bytes : (xs ys : List ℕ) (b : Bool) → b ≡ bytes_eq xs ys → b ≡ false → xs ≢ ys
other_bytes xs ys b is not_so equal = let same : b ≡ true = is ∙ (bytes_eq-Decides xs ys).1 equal in absurd (cc (same, not_so))

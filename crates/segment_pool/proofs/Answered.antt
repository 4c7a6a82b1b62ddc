-- What a placing answers, where the search found no slot, and where it found one.
use Rattle.std.proofs.Common.{◌≡◌, inr, ℕ, ◌+◌, ◌*◌, ◌≤◌, List, length, Some, Ok, Err, sym, ◌∙◌, ap, subst, arith}
use Rattle.std.specs.Prelude.{Result, IfOk, IfErr, OnOk, OnErr, ◌⊎◌}
use Rattle.vault_disk.specs.Disk.{Image, Disk, IsSame}
use Rattle.vault_disk.specs.Steps.{Changes, LookedAround, written}
use Rattle.segment_pool.specs.declared.fault.PoolFault.{PoolFault}
use Rattle.segment_pool.specs.declared.fault.PoolFault.TheVariants as fault
use Rattle.segment_pool.specs.declared.slot.Slot.{Slot}
use Rattle.segment_pool.specs.Slots.{PoolState, AreSound, Becomes, IsLowestFree, Matches, PinnedAgain, Placed, held}
use Rattle.segment_pool.specs.Placing.{HasPiece, IsTruePool, KeepsPieces, LacksPiece}
use Rattle.segment_pool.specs.Faults.{FaultHolds, FaultTold, IsDamage, IsDiskFault}
use Rattle.segment_pool.proofs.Placings.{as_torn, looked_after, one_lowest, placed_has, placed_true, torn_keeps}

-- a slot that the search found was pinned
pub pinned_again : (old mid new : PoolState) (slot n : ℕ) (digest : List ℕ) (was : Matches old slot n digest) → mid ≡ old → ((what : Slot) → held mid slot ≡ Some what → Becomes mid new slot (Some (record what { pins = what.pins + 1 }))) → PinnedAgain old new slot n digest
pinned_again old mid new slot n digest was same pin = record {
  was = was;
  now = subst (λ (p : PoolState). Becomes p new slot (Some (record was.what { pins = was.what.pins + 1 }))) same (pin was.what (ap (λ (p : PoolState). held p slot) same ∙ was.is_held));
}

-- a true pool has a piece once
pub same_holder : (digest_of : List ℕ → List ℕ) (pool : PoolState) (image : Image) (s t : ℕ) (piece : List ℕ) → IsTruePool digest_of pool image → HasPiece digest_of pool image s piece → HasPiece digest_of pool image t piece → s ≡ t
same_holder digest_of pool image s t piece true_pool a b = true_pool.distinct s t a.what b.what a.is_held b.is_held (a.bytes_are ∙ sym b.bytes_are)

changed_since : (file at : ℕ) (bytes : List ℕ) (b c d : Image) → ((f : ℕ) → c f ≡ b f) → Changes file (λ o n. n ≡ written o at bytes) c d → Changes file (λ o n. n ≡ written o at bytes) b d
changed_since file at bytes b c d same changes = record {
  inside = changes.inside ∙ ap (λ (l : List ℕ). written l at bytes) (same file);
  others = λ g ne. changes.others g ne ∙ same g;
}

pub place_pinned : {E : Type 0} (old new : PoolState) (n : ℕ) (digest : List ℕ) (r : Result ℕ E) → IfOk r (λ s. Placed old new s n digest) → IfOk r (λ s. PinnedAgain old new s n digest ⊎ Placed old new s n digest)
place_pinned old new n digest (Ok s) placed = inr placed
place_pinned old new n digest (Err e) placed = tt

pub place_ways : {E : Type 0} (old new : PoolState) (n : ℕ) (digest : List ℕ) (Q : ℕ → Type 0) (r : Result ℕ E) → IfOk r (λ s. Placed old new s n digest) → IfOk r (λ s. Q s ⊎ Placed old new s n digest)
place_ways old new n digest Q (Ok s) placed = inr placed
place_ways old new n digest Q (Err e) placed = tt

fault_lacks : (digest_of : List ℕ → List ℕ) (pool : PoolState) (image : Image) (piece : List ℕ) (e : PoolFault) → LacksPiece digest_of pool image piece → (IsDamage e → ⊥) → FaultTold digest_of pool image piece e
fault_lacks digest_of pool image piece fault.NoMemory lacks undamaged = lacks
fault_lacks digest_of pool image piece fault.DiskFault lacks undamaged = tt
fault_lacks digest_of pool image piece (fault.Damaged recorded found) lacks undamaged = absurd (undamaged tt)
fault_lacks digest_of pool image piece (fault.Full count) lacks undamaged = lacks

pub place_told : (digest_of : List ℕ → List ℕ) (pool : PoolState) (image : Image) (piece : List ℕ) (r : Result ℕ PoolFault) → LacksPiece digest_of pool image piece → IfErr r (λ e. IsDamage e → ⊥) → IfErr r (FaultTold digest_of pool image piece)
place_told digest_of pool image piece (Ok s) lacks undamaged = tt
place_told digest_of pool image piece (Err e) lacks undamaged = fault_lacks digest_of pool image piece e lacks undamaged

module _ {E : Type 0} (digest_of : List ℕ → List ℕ) (old new : PoolState) (piece digest : List ℕ) (is : digest_of piece ≡ digest) (b c d : Image) (same : (f : ℕ) → c f ≡ b f) where
  pub place_piece : (r : Result ℕ E) → IfOk r (λ s. Placed old new s (length piece) digest) → IfOk r (λ s. Changes old.file (λ o n. n ≡ written o (s * old.size) piece) c d) → IfOk r (λ s. HasPiece digest_of new d s piece)
  place_piece (Ok s) placed changes = placed_has digest_of old new s piece digest is c d placed changes
  place_piece (Err e) placed changes = tt

  pub place_true : (r : Result ℕ E) → AreSound old.size old.table → 1 ≤ length piece → length piece ≤ old.size → LacksPiece digest_of old b piece → IsTruePool digest_of old b
      → IfOk r (λ s. Placed old new s (length piece) digest) → IfOk r (λ s. Changes old.file (λ o n. n ≡ written o (s * old.size) piece) c d) → OnOk r (IsTruePool digest_of new d)
  place_true (Ok s) sound some short lacks true_pool placed changes =
      placed_true digest_of old new s piece digest is b d sound some short placed (changed_since old.file (s * old.size) piece b c d same changes) lacks true_pool
  place_true (Err e) sound some short lacks true_pool placed changes = tt

  pub place_seen : (r : Result ℕ E) (slot : ℕ) → AreSound old.size old.table → 1 ≤ length piece → length piece ≤ old.size → IsLowestFree old slot
      → IfOk r (λ s. Placed old new s (length piece) digest) → IfOk r (λ s. Changes old.file (λ o n. n ≡ written o (s * old.size) piece) c d) → OnOk r (KeepsPieces old (slot * old.size + length piece) b d)
  place_seen (Ok s) slot sound some short lowest placed changes =
      subst (λ (k : ℕ). KeepsPieces old (k * old.size + length piece) b d) (one_lowest old s slot placed.lowest lowest)
      (torn_keeps old s (length piece) b d sound placed.lowest.free some short (as_torn old.file (s * old.size) piece b d (changed_since old.file (s * old.size) piece b c d same changes)))
  place_seen (Err e) slot sound some short lowest placed changes = tt

pub always_err : {T E : Type 0} {P : Type 0} (r : Result T E) → P → OnErr r P
always_err (Ok v) p = tt
always_err (Err e) p = p

pub looked_err : {T : Type 0} (a b : Disk) (r : Result T PoolFault) → LookedAround a b → IfErr r (λ f. (IsDiskFault f → ⊥) → LookedAround a b)
looked_err a b (Ok v) looked = tt
looked_err a b (Err e) looked = λ _. looked

pub looked_later : {T : Type 0} (a b c : Disk) (r : Result T PoolFault) → LookedAround a b → IsSame a b → IfErr r (λ f. (IsDiskFault f → ⊥) → LookedAround b c) → IfErr r (λ f. (IsDiskFault f → ⊥) → LookedAround a c)
looked_later a b c (Ok v) first same second = tt
looked_later a b c (Err e) first same second = λ other. looked_after a b c first (second other) same

fault_since : (pool : PoolState) (digest : List ℕ) (before mid now : ℕ) (e : PoolFault) → before ≤ mid → FaultHolds pool digest mid now e → FaultHolds pool digest before now e
fault_since pool digest before mid now fault.NoMemory le holds = holds
fault_since pool digest before mid now fault.DiskFault le holds = omega (arith, le, holds)
fault_since pool digest before mid now (fault.Damaged recorded found) le holds = holds
fault_since pool digest before mid now (fault.Full count) le holds = holds

pub cause_since : {T : Type 0} (pool : PoolState) (digest : List ℕ) (before mid now : ℕ) (r : Result T PoolFault) → before ≤ mid → IfErr r (FaultHolds pool digest mid now) → IfErr r (FaultHolds pool digest before now)
cause_since pool digest before mid now (Ok v) le holds = tt
cause_since pool digest before mid now (Err e) le holds = fault_since pool digest before mid now e le holds

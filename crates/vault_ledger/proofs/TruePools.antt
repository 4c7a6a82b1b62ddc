-- A pool that holds what a ledger says of its unit is true where the unit is, and the other way round.
use Rattle.desk_model.proofs.Common.{◌≡◌, ◌≢◌, ◌∙◌, ℕ, zero, suc, Bool, true, false, List, [], ◌∷◌, length, get_or, take, drop, map, not, ◌&&◌, ◌==◌, sym, refl, ap, arith, Option, Some, Contains, option_map_or, and_parts, false≢true, bytes_eq, bytes_eq-Decides, get_or-map, get_or_default, length-map, nat_tests, text_is}
use Rattle.std.proofs.Common.{◌*◌, ◌<◌}
use Rattle.std.proofs.lemmas.List.Folds.{Any-from_list_any, list_any_at, list_any_none}
use Rattle.sha2.specs.Sha256.{sha256}
use Rattle.vault_disk.specs.Disk.{Image as DiskImage}
use Rattle.pool_journal.specs.declared.segments.NewSegment.{NewSegment}
use Rattle.segment_pool.specs.Placing.{IsTruePool, bytes_in}
use Rattle.segment_pool.specs.Slots.{PoolState, held}
use Rattle.segment_pool.specs.declared.slot.Slot.{Slot}
use Rattle.copy_fragments.specs.Placings.{times}
use Rattle.vault_ledger.specs.Ledger.{are_distinct, are_whole, has_slot, is_whole, piece_in}
use Rattle.vault_ledger.specs.Pools.{HoldsLive, live_slot}
use Rattle.vault_ledger.specs.Wellformed.{AreSlots}
use Rattle.vault_ledger.proofs.SlotPieces.{own_segment, piece_at, slots_apart}

-- each slot that is held now was held, with its length and digest
pub record HasSlotsOf (old new : PoolState) : Type 0 where
  pub file : new.file ≡ old.file
  pub size : new.size ≡ old.size
  pub was : (slot : ℕ) (x : Slot) → held new slot ≡ Some x → (y : Slot) × (held old slot ≡ Some y) × (y.length ≡ x.length) × (y.digest ≡ x.digest)

-- so it is true where that pool was
pub true_as : (old new : PoolState) (image : DiskImage) → HasSlotsOf old new → IsTruePool sha256 old image → IsTruePool sha256 new image
true_as old new image has true_pool = record {
  whole = λ slot x is_held.
      let was = has.was slot x is_held in
      let whole = true_pool.whole slot was.0 was.1 in
      record {
        length_is = ap length (sym (place slot was.0 x was.2)) ∙ whole.length_is ∙ was.2;
        digest_is = ap sha256 (sym (place slot was.0 x was.2)) ∙ whole.digest_is ∙ was.3;
      };
  distinct = λ s t x y s_held t_held same.
      let s_was = has.was s x s_held in
      let t_was = has.was t y t_held in
      true_pool.distinct s t s_was.0 t_was.0 s_was.1 t_was.1 (place s s_was.0 x s_was.2 ∙ same ∙ sym (place t t_was.0 y t_was.2));
}
  where
    place : (slot : ℕ) (y x : Slot) → y.length ≡ x.length → bytes_in old image slot y.length ≡ bytes_in new image slot x.length
    place slot y x long = λ i. take (long i) (drop (slot * sym has.size i) (image (sym has.file i)))

module _ (known : List NewSegment) (apart : AreSlots known) (named : List ℕ) (pool : PoolState) (holds : HoldsLive known named pool) (image : DiskImage) (file : List ℕ) (file_is : image pool.file ≡ file) (size : ℕ) (size_is : pool.size ≡ size) where
  place : (s : NewSegment) → bytes_in pool image s.slot s.length ≡ piece_in file size s
  place s = λ i. take s.length (drop (s.slot * size_is i) (file_is i))

  -- a held slot is that of a known segment
  known_slot : (slot : ℕ) (x : Slot) → held pool slot ≡ Some x → (s : NewSegment) × Contains known s × (s.slot ≡ slot) × (x ≡ live_slot s (times s.slot named))
  known_slot slot x is_held = at (has_slot slot known) refl
    where
      at : (b : Bool) → has_slot slot known ≡ b → (s : NewSegment) × Contains known s × (s.slot ≡ slot) × (x ≡ live_slot s (times s.slot named))
      at false none = absurd (cc (is_held, holds.others slot none))
      at true has =
          let one = Any-from_list_any (λ (s : NewSegment). s.slot == slot) known has in
          let test : (one.1.slot == slot) ≡ true = one.4 in
          let same : one.1.slot ≡ slot = grind (arith, nat_tests, test) in
          let there = holds.here one.1 (one.0, one.2, one.3) in
          let here : Some x ≡ Some (live_slot one.1 (times one.1.slot named)) = sym is_held ∙ ap (held pool) (sym same) ∙ there in
          (one.1, (one.0, one.2, one.3), same, cc here)

  whole_parts : (more : List NewSegment) → are_whole file size more ≡ true → (s : NewSegment) → Contains more s → is_whole file size s ≡ true
  whole_parts [] whole s (k, lt, is) = absurd (omega arith)
  whole_parts (t ∷ more) whole s (zero, lt, is) = ap (λ (u : NewSegment). is_whole file size u) (sym is) ∙ (and_parts (is_whole file size t) (are_whole file size more) whole).0
  whole_parts (t ∷ more) whole s (suc k, lt, is) = whole_parts more (and_parts (is_whole file size t) (are_whole file size more) whole).1 s (k, omega arith, is)

  pub true_pool : are_whole file size known ≡ true → are_distinct (map (piece_in file size) known) ≡ true → IsTruePool sha256 pool image
  true_pool whole distinct = record {
    whole = λ slot x is_held.
        let s = known_slot slot x is_held in
        let parts = and_parts (length (piece_in file size s.0) == s.0.length) (bytes_eq (sha256 (piece_in file size s.0)) s.0.digest) (whole_parts known whole s.0 s.1) in
        let test = parts.0 in
        let long : length (piece_in file size s.0) ≡ s.0.length = grind (arith, nat_tests, test) in
        let bytes_are = found slot x s in
        record {
          length_is = ap length bytes_are ∙ long ∙ sym (ap (λ (y : Slot). y.length) s.3);
          digest_is = ap sha256 bytes_are ∙ text_is (sha256 (piece_in file size s.0)) s.0.digest parts.1 ∙ sym (ap (λ (y : Slot). y.digest) s.3);
        };
    distinct = λ a b x y a_held b_held same.
        let s = known_slot a x a_held in
        let t = known_slot b y b_held in
        sym s.2 ∙ slots_apart file size known distinct s.0.slot t.0.slot (there s.0 s.1) (there t.0 t.1) (of_slot s.0 s.1 ∙ sym (found a x s) ∙ same ∙ found b y t ∙ sym (of_slot t.0 t.1)) ∙ t.2;
  }
    where
      found : (slot : ℕ) (x : Slot) (s : (s : NewSegment) × Contains known s × (s.slot ≡ slot) × (x ≡ live_slot s (times s.slot named))) → bytes_in pool image slot x.length ≡ piece_in file size s.0
      found slot x s = (λ i. bytes_in pool image (sym s.2 i) (s.3 i).length) ∙ place s.0

      of_slot : (s : NewSegment) → Contains known s → piece_at file size known s.slot ≡ piece_in file size s
      of_slot s among = ap (λ (o : Option NewSegment). option_map_or (piece_in file size) o []) (own_segment known s apart among)

      there : (s : NewSegment) → Contains known s → has_slot s.slot known ≡ true
      there s among =
          let same : (s.slot == s.slot) ≡ true = grind (arith, nat_tests) in
          list_any_at (λ (t : NewSegment). t.slot == s.slot) known among.0 s among.1 (ap (λ (t : NewSegment). t.slot == s.slot) among.2 ∙ same)

  module _ (true_pool : IsTruePool sha256 pool image) where
    whole_one : (s : NewSegment) → Contains known s → is_whole file size s ≡ true
    whole_one s among =
        let whole = true_pool.whole s.slot (live_slot s (times s.slot named)) (holds.here s among) in
        let long : length (piece_in file size s) ≡ s.length = ap length (sym (place s)) ∙ whole.length_is in
        let digest : sha256 (piece_in file size s) ≡ s.digest = ap sha256 (sym (place s)) ∙ whole.digest_is in
        let first : (length (piece_in file size s) == s.length) ≡ true = grind (arith, nat_tests, long) in
        let second = (bytes_eq-Decides (sha256 (piece_in file size s)) s.digest).1 digest in
        λ i. first i && second i

    whole_more : (more : List NewSegment) → ((s : NewSegment) → Contains more s → Contains known s) → are_whole file size more ≡ true
    whole_more [] among = refl
    whole_more (s ∷ more) among =
        let first = whole_one s (among s (zero, omega arith, refl)) in
        let rest = whole_more more (λ t later. among t (suc later.0, omega (arith, later.1), later.2)) in
        λ i. first i && rest i

    -- its live slots are whole
    pub pool_whole : are_whole file size known ≡ true
    pool_whole = whole_more known (λ s among. among)

    other_piece : (s t : NewSegment) → Contains known s → Contains known t → s.slot ≢ t.slot → bytes_eq (piece_in file size t) (piece_in file size s) ≡ false
    other_piece s t s_among t_among differs = at (bytes_eq (piece_in file size t) (piece_in file size s)) refl
      where
        at : (b : Bool) → bytes_eq (piece_in file size t) (piece_in file size s) ≡ b → b ≡ false
        at false is = refl
        at true same =
            let equal = sym (text_is (piece_in file size t) (piece_in file size s) same) in
            absurd (differs (true_pool.distinct s.slot t.slot (live_slot s (times s.slot named)) (live_slot t (times t.slot named)) (holds.here s s_among) (holds.here t t_among) (place s ∙ equal ∙ sym (place t))))

    distinct_more : (more : List NewSegment) → AreSlots more → ((s : NewSegment) → Contains more s → Contains known s) → are_distinct (map (piece_in file size) more) ≡ true
    distinct_more [] more_apart among = refl
    distinct_more (s ∷ more) more_apart among =
        let none = list_any_none (λ p. bytes_eq p (piece_in file size s)) (map (piece_in file size) more) (λ k d lt.
        let inside : k < length more = omega (arith, lt, length-map more (piece_in file size)) in
        let t = get_or more k s in
        ap (λ (p : List ℕ). bytes_eq p (piece_in file size s)) (get_or-map (piece_in file size) more k s d inside)
        ∙ other_piece s t (among s (zero, omega arith, refl)) (among t (suc k, omega (arith, inside), get_or_default more k t s inside)) (λ same. let test : (t.slot == s.slot) ≡ true = grind (arith, nat_tests, same) in false≢true (sym more_apart.0 ∙ list_any_at (λ (u : NewSegment). u.slot == s.slot) more k s inside test))) in
        let rest = distinct_more more more_apart.1 (λ t later. among t (suc later.0, omega (arith, later.1), later.2)) in
        λ i. not (none i) && rest i

    -- and no two have equal bytes
    pub pool_distinct : are_distinct (map (piece_in file size) known) ≡ true
    pool_distinct = distinct_more known apart (λ s among. among)

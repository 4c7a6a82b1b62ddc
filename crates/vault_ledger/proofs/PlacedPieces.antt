-- Pieces that were placed in a pool and kept there: their segments fit, and they spell the bytes.
use Rattle.std.proofs.Common.{◌≡◌, ◌∙◌, get_or, ◌-◌, ◌*◌, ◌<◌, ◌≤◌, ⊎_elim, ℕ, zero, suc, Bool, true, false, List, [], ◌∷◌, ◌++◌, length, take, drop, min, refl, sym, ap, subst, arith, Some, length-drop}
use Rattle.std.specs.Prelude.{◌&&◌, ◌==◌, cond, nat_le, nat_lt, not, slice_get, Contains}
use Rattle.std.specs.List.{list_any}
use Rattle.std.proofs.lemmas.Bool.{cases_lt, cond-true, cond-false, eq-eqb}
use Rattle.std.proofs.lemmas.Bool.Decides.{nat_tests}
use Rattle.std.proofs.lemmas.List.{length-take, map-append, take-append-drop}
use Rattle.std.proofs.lemmas.List.Elements.{Contains-append_cases}
use Rattle.std.proofs.lemmas.List.Sums.{sum_by-append, sum_by-cons}
use Rattle.std.proofs.lemmas.Option.{slice_get-get_or, slice_get_within}
use Rattle.sha2.specs.Sha256.{sha256}
use Rattle.vault_disk.specs.Disk.{Image as DiskImage}
use Rattle.pool_journal.specs.declared.segments.NewSegment.{NewSegment}
use Rattle.segment_pool.specs.Pieces.{pieces}
use Rattle.segment_pool.specs.Placing.{IsTruePool}
use Rattle.segment_pool.specs.Slots.{PoolState, held}
use Rattle.segment_pool.specs.declared.slot.Slot.{Slot}
use Rattle.segment_pool.proofs.PieceLemmas.{first_piece, none_pieces}
use Rattle.copy_fragments.specs.Copies.{Copy, IsPlaced}
use Rattle.copy_fragments.specs.Placings.{FitPieces, PinnedEach, copy_in, times}
use Rattle.copy_fragments.proofs.Kept.{piece_bounds}
use Rattle.copy_fragments.proofs.Taking.{free_held, times_at}
use Rattle.vault_ledger.specs.Following.{IsPlacedSegment}
use Rattle.vault_ledger.specs.Ledger.{added_fit, has_piece, has_slot, pieces_fit, segments_fit, slot_limit, spelled}
use Rattle.vault_ledger.specs.Pools.{HoldsLive, live_slot, slots_in, unrecorded}
use Rattle.vault_ledger.proofs.Kept.{any_slot, recorded_slot}
use Rattle.vault_ledger.proofs.LiveSlots.{found_slot, held_segment, piece_tells}
use Rattle.vault_ledger.proofs.TruePools.{HasSlotsOf, true_as}

-- New segments.

-- segments whose slots are those that weren't known, each once, fit where each is one that the unit may have
fit_added : (size : ℕ) (slots : List ℕ) (known added : List NewSegment) → slots_in added ≡ unrecorded (slots_in known) slots → ((s : NewSegment) → Contains added s → (s.slot < slot_limit) × (1 ≤ s.length) × (s.length ≤ size)) → added_fit size known added ≡ true
fit_added size slots known [] order each = refl
fit_added size [] known (s ∷ added) order each = absurd (cc order)
fit_added size (slot ∷ slots) known (s ∷ added) order each = at (has_slot slot known) refl (fit_added size slots known (s ∷ added)) (fit_added size slots (known ++ s ∷ []) added)
  where
    Bounded : NewSegment → Type 0
    Bounded t = (t.slot < slot_limit) × (1 ≤ t.length) × (t.length ≤ size)

    at : (b : Bool) → has_slot slot known ≡ b → (slots_in (s ∷ added) ≡ unrecorded (slots_in known) slots → ((t : NewSegment) → Contains (s ∷ added) t → Bounded t) → added_fit size known (s ∷ added) ≡ true)
        → (slots_in added ≡ unrecorded (slots_in (known ++ s ∷ [])) slots → ((t : NewSegment) → Contains added t → Bounded t) → added_fit size (known ++ s ∷ []) added ≡ true) → added_fit size known (s ∷ added) ≡ true
    at true there skipped later = skipped (order ∙ recorded_slot slot known slots there) each
    at false none skipped later =
        let split : s.slot ∷ slots_in added ≡ slot ∷ unrecorded (slots_in known ++ slot ∷ []) slots = order ∙ cond-false (list_any (λ (t : ℕ). t == slot) (slots_in known)) _ _ (any_slot slot known ∙ none) in
        let slot_is : s.slot ≡ slot = ap (λ (l : List ℕ). get_or l 0 0) split in
        let rest : slots_in added ≡ unrecorded (slots_in (known ++ s ∷ [])) slots = ap (λ (l : List ℕ). drop 1 l) split ∙ ap (λ (l : List ℕ). unrecorded l slots) (ap (λ (t : ℕ). slots_in known ++ t ∷ []) (sym slot_is) ∙ sym (map-append (λ (r : NewSegment). r.slot) known (s ∷ []))) in
        let one = each s (zero, omega arith, refl) in
        let below = one.0 in
        let some = one.1 in
        let short = one.2 in
        let a : nat_lt s.slot slot_limit ≡ true = grind (arith, nat_tests, below) in
        let b : nat_le 1 s.length ≡ true = grind (arith, nat_tests, some) in
        let c : nat_le s.length size ≡ true = grind (arith, nat_tests, short) in
        let d : not (has_slot s.slot known) ≡ true = ap not (ap (λ (k : ℕ). has_slot k known) slot_is ∙ none) in
        let e = later rest (λ t among. each t (suc among.0, omega (arith, among.1), among.2)) in
        λ i. a i && b i && c i && d i && e i

-- The pieces of bytes, one by one, with their slots.

times_there : (slots : List ℕ) (k slot : ℕ) → slice_get slots k ≡ Some slot → 1 ≤ times slot slots
times_there [] k slot is = absurd (cc is)
times_there (x ∷ slots) zero slot is =
    let same : x ≡ slot = cc is in
    omega (arith, sum_by-cons (λ (s : ℕ). cond (s == slot) 1 0) x slots, cond-true {A = ℕ} (x == slot) 1 0 (eq-eqb x slot same))
times_there (x ∷ slots) (suc k) slot is = omega (arith, sum_by-cons (λ (s : ℕ). cond (s == slot) 1 0) x slots, times_there slots k slot is)

-- this holds of each piece and its slot
abbrev pub AtEach : (ℕ → List ℕ → Type 0) → List ℕ → List (List ℕ) → Type 0
AtEach P slots all = (index slot : ℕ) (piece : List ℕ) → slice_get slots index ≡ Some slot → slice_get all index ≡ Some piece → P slot piece

none_left : (bytes : List ℕ) → length bytes ≤ 0 → [] ≡ bytes
none_left [] none = refl
none_left (b ∷ bytes) none = absurd (omega (arith, none))

module _ (size : ℕ) (some : 1 ≤ size) where
  -- bytes without pieces are none
  no_bytes : (bytes : List ℕ) → 0 ≡ length (pieces size bytes) → length bytes ≤ 0
  no_bytes bytes none = ⊎_elim (λ more. absurd (omega (arith, none, ap length (first_piece size bytes some more)))) (λ le. le) (cases_lt 0 (length bytes))

  fit_slots : (known : List NewSegment) (slots bytes : List ℕ) → length slots ≡ length (pieces size bytes) → AtEach (λ slot piece. has_piece slot (length piece) known ≡ true) slots (pieces size bytes) → pieces_fit size known (length bytes) slots ≡ true
  fit_slots known [] bytes long each = let none = no_bytes bytes long in grind (arith, nat_tests, none)
  fit_slots known (slot ∷ slots) bytes long each = ⊎_elim
      (λ more.
      let next = first_piece size bytes some more in
      let first : nat_lt 0 (length bytes) ≡ true = grind (arith, nat_tests, more) in
      let here : has_piece slot (min size (length bytes)) known ≡ true = ap (λ (k : ℕ). has_piece slot k known) (sym (length-take size bytes)) ∙ each 0 slot (take size bytes) refl (ap (λ (l : List (List ℕ)). slice_get l 0) next) in
      let rest : pieces_fit size known (length bytes - size) slots ≡ true =
      subst (λ (n : ℕ). pieces_fit size known n slots ≡ true) (length-drop size bytes)
      (fit_slots known slots (drop size bytes) (omega (arith, long, ap length next)) (λ k t p t_is p_is. each (suc k) t p t_is (ap (λ (l : List (List ℕ)). slice_get l (suc k)) next ∙ p_is))) in
      λ i. first i && here i && rest i)
      (λ none. absurd (omega (arith, long, ap length (none_pieces size bytes none))))
      (cases_lt 0 (length bytes))

  spell_slots : (file slots bytes : List ℕ) → length slots ≡ length (pieces size bytes) → AtEach (λ slot piece. take (length piece) (drop (slot * size) file) ≡ piece) slots (pieces size bytes) → spelled file size (length bytes) slots ≡ bytes
  spell_slots file [] bytes long each = none_left bytes (no_bytes bytes long)
  spell_slots file (slot ∷ slots) bytes long each = ⊎_elim
      (λ more.
      let next = first_piece size bytes some more in
      let here : take (min size (length bytes)) (drop (slot * size) file) ≡ take size bytes = ap (λ (k : ℕ). take k (drop (slot * size) file)) (sym (length-take size bytes)) ∙ each 0 slot (take size bytes) refl (ap (λ (l : List (List ℕ)). slice_get l 0) next) in
      let rest : spelled file size (length bytes - size) slots ≡ drop size bytes =
      ap (λ (n : ℕ). spelled file size n slots) (sym (length-drop size bytes))
      ∙ spell_slots file slots (drop size bytes) (omega (arith, long, ap length next)) (λ k t p t_is p_is. each (suc k) t p t_is (ap (λ (l : List (List ℕ)). slice_get l (suc k)) next ∙ p_is)) in
      (λ i. here i ++ rest i) ∙ take-append-drop size bytes)
      (λ none. absurd (omega (arith, long, ap length (none_pieces size bytes none))))
      (cases_lt 0 (length bytes))

-- placed pieces spell their bytes
pub placed_spell : (pool : PoolState) (image : DiskImage) (copy : Copy) (bytes : List ℕ) → 1 ≤ copy.size → pool.size ≡ copy.size → length copy.slots ≡ length (pieces copy.size bytes) → IsPlaced sha256 pool image copy bytes → spelled (image pool.file) copy.size (length bytes) copy.slots ≡ bytes
placed_spell pool image copy bytes some size_is long placed = spell_slots copy.size some (image pool.file) copy.slots bytes long (λ index slot piece slot_is piece_is.
    let has = placed.has_pieces index slot piece slot_is piece_is in
    (λ i. take (sym has.length_is i) (drop (slot * sym size_is i) (image pool.file))) ∙ has.bytes_are)

-- A pool that kept the placed pieces.

module _ (before placed after : PoolState) (known added : List NewSegment) (named slots : List ℕ) (holds : HoldsLive known named before) (pins : PinnedEach before placed slots) (new : (s : NewSegment) → Contains added s → IsPlacedSegment before placed s) (now : HoldsLive (known ++ added) (named ++ slots) after) where
  -- each segment has the length and the digest of its slot
  held_placed : (s : NewSegment) → Contains (known ++ added) s → (what : Slot) × (held placed s.slot ≡ Some what) × (what.length ≡ s.length) × (what.digest ≡ s.digest)
  held_placed s among = ⊎_elim
      (λ was. (_, pins.again s.slot (live_slot s (times s.slot named)) (holds.here s was), refl, refl))
      (λ is_new. let one = new s is_new in (one.what, one.is_held, sym one.length_is, sym one.digest_is))
      (Contains-append_cases known added s among)

  kept_slots : after.file ≡ placed.file → after.size ≡ placed.size → HasSlotsOf placed after
  kept_slots file_is size_is = record {
    file = file_is;
    size = size_is;
    was = λ slot x is.
        let one = held_segment (known ++ added) (named ++ slots) after now slot x is in
        let was = held_placed one.0 one.1 in
        (was.0, ap (λ (t : ℕ). held placed t) (sym one.2) ∙ was.1, was.2 ∙ sym (ap (λ (w : Slot). w.length) one.3), was.3 ∙ sym (ap (λ (w : Slot). w.digest) one.3));
  }

  -- it is true where the pool was, once they were placed
  pub kept_true : (image : DiskImage) → after.file ≡ placed.file → after.size ≡ placed.size → IsTruePool sha256 placed image → IsTruePool sha256 after image
  kept_true image file_is size_is is_true = true_as placed after image (kept_slots file_is size_is) is_true

  has_one : (k slot : ℕ) (what : Slot) → slice_get slots k ≡ Some slot → held placed slot ≡ Some what → has_piece slot what.length (known ++ added) ≡ true
  has_one k slot what slot_is is = at (has_slot slot (known ++ added)) refl
    where
      at : (b : Bool) → has_slot slot (known ++ added) ≡ b → has_piece slot what.length (known ++ added) ≡ true
      at true there =
          let found = found_slot slot (known ++ added) there in
          let was = held_placed found.0 found.1 in
          let same : was.0 ≡ what = let e = ap (λ (t : ℕ). held placed t) (sym found.2) ∙ was.1 in cc (e, is) in
          (piece_tells (known ++ added) (named ++ slots) after now slot what.length).1
          (live_slot found.0 (times found.0.slot (named ++ slots)), ap (λ (t : ℕ). held after t) (sym found.2) ∙ now.here found.0 found.1, refl, sym was.2 ∙ ap (λ (w : Slot). w.length) same)
      at false none = absurd (omega (arith, now.only slot none, sum_by-append (λ (s : ℕ). cond (s == slot) 1 0) named slots, times_there slots k slot slot_is))

  module _ (bytes : List ℕ) (some : 1 ≤ before.size) (fit : FitPieces before placed (pieces before.size bytes) slots) (long : length slots ≡ length (pieces before.size bytes)) (few : before.slots ≤ slot_limit) (order : slots_in added ≡ unrecorded (slots_in known) slots) where
    new_bounds : (s : NewSegment) → Contains added s → (s.slot < slot_limit) × (1 ≤ s.length) × (s.length ≤ before.size)
    new_bounds s among =
        let one = new s among in
        let stands : 1 ≤ times s.slot slots = ⊎_elim (λ lt. omega (arith, lt)) (λ none. absurd (free_held (held placed s.slot) one.what (pins.others s.slot one.was_free (omega (arith, none))) one.is_held)) (cases_lt 0 (times s.slot slots)) in
        let at = times_at slots s.slot stands in
        let piece : List ℕ = get_or (pieces before.size bytes) at.0 [] in
        let piece_is : slice_get (pieces before.size bytes) at.0 ≡ Some piece = slice_get-get_or (pieces before.size bytes) at.0 [] (omega (arith, long, slice_get_within slots at.0 s.slot at.1)) in
        let own = fit.lengths at.0 s.slot piece at.1 piece_is in
        let same : own.0 ≡ one.what = let e = own.1 in let f = one.is_held in cc (e, f) in
        let length_is : s.length ≡ length piece = one.length_is ∙ sym (ap (λ (w : Slot). w.length) same) ∙ own.2 in
        let bounds = piece_bounds before.size at.0 bytes piece some piece_is in
        (omega (arith, fit.below s.slot one.what one.was_free one.is_held, few), omega (arith, bounds.0, length_is), omega (arith, bounds.1, length_is))

    -- the segments fit
    pub placed_fit : segments_fit before.size known (length bytes) (record { added = added; pieces = slots }) ≡ true
    placed_fit =
        let first = fit_added before.size slots known added order new_bounds in
        let second = fit_slots before.size some (known ++ added) slots bytes long (λ index slot piece slot_is piece_is.
        let own = fit.lengths index slot piece slot_is piece_is in
        ap (λ (n : ℕ). has_piece slot n (known ++ added)) (sym own.2) ∙ has_one index slot own.0 slot_is own.1) in
        λ i. first i && second i

-- Bytes whose pieces were placed in these slots and kept there, where the slots are given under other names.
module _ (before placed after : PoolState) (added : List NewSegment) (slots read : List ℕ) (same : read ≡ slots) (pins : PinnedEach before placed slots) (known : List NewSegment) (named : List ℕ) (holds : HoldsLive known named before)
    (kept : PinnedEach before placed read → HoldsLive (known ++ added) (named ++ read) after) (new : PinnedEach before placed read → (s : NewSegment) → Contains added s → IsPlacedSegment before placed s) where
  pins_read : PinnedEach before placed read
  pins_read = subst (λ (l : List ℕ). PinnedEach before placed l) (sym same) pins

  now : HoldsLive (known ++ added) (named ++ slots) after
  now = subst (λ (l : List ℕ). HoldsLive (known ++ added) (named ++ l) after) same (kept pins_read)

  pub stored_true : (image : DiskImage) → after.file ≡ placed.file → after.size ≡ placed.size → IsTruePool sha256 placed image → IsTruePool sha256 after image
  stored_true = kept_true before placed after known added named slots holds pins (new pins_read) now

  pub stored_fit : (bytes : List ℕ) (size : ℕ) → size ≡ before.size → 1 ≤ before.size → FitPieces before placed (pieces size bytes) slots → length slots ≡ length (pieces size bytes) → before.slots ≤ slot_limit → (PinnedEach before placed read → slots_in added ≡ unrecorded (slots_in known) read)
      → (named_so : List ℕ) → named_so ≡ slots → segments_fit before.size known (length bytes) (record { added = added; pieces = named_so }) ≡ true
  stored_fit bytes size size_is some fit long few order named_so named_is =
      subst (λ (l : List ℕ). segments_fit before.size known (length bytes) (record { added = added; pieces = l }) ≡ true) (sym named_is)
      (placed_fit before placed after known added named slots holds pins (new pins_read) now bytes some
      (subst (λ (n : ℕ). FitPieces before placed (pieces n bytes) slots) size_is fit) (long ∙ ap (λ (n : ℕ). length (pieces n bytes)) size_is) few (order pins_read ∙ ap (unrecorded (slots_in known)) same))

pub stored_spell : (before placed : PoolState) (image : DiskImage) (slots bytes : List ℕ) (size : ℕ) → size ≡ before.size → 1 ≤ before.size → PinnedEach before placed slots → length slots ≡ length (pieces size bytes) → IsPlaced sha256 placed image (copy_in slots (record { bytes = bytes; size = size })) bytes
    → (named_so : List ℕ) → named_so ≡ slots → spelled (image before.file) before.size (length bytes) named_so ≡ bytes
stored_spell before placed image slots bytes size size_is some pins long is_placed named_so named_is =
    (λ i. spelled (image (sym pins.file i)) (sym size_is i) (length bytes) (named_is i))
    ∙ placed_spell placed image (copy_in slots (record { bytes = bytes; size = size })) bytes (omega (arith, some, size_is)) (pins.size ∙ sym size_is) long is_placed

-- What is known of where the bytes of images stand follows a ledger's backup: the unit's pool has its segments, and there is one copy more.
use Rattle.desk_model.proofs.Common.{◌≡◌, ◌≢◌, ◌≤◌, ◌+◌, ◌-◌, ◌∙◌, ⊎_elim, ℕ, zero, suc, min, Bool, true, false, List, [], ◌∷◌, ◌++◌, length, refl, sym, ap, subst, arith, Option, Some, None, unwrap_or, if◌then◌else◌, cond, ◌&&◌, ◌==◌, nat_lt, slice_get, Contains, bytes_eq, bytes_eq-Decides, and_parts, nat_tests, length-set, BackupId, CopyRecord, StorageUnit, has, Book, unit_name, disk0, same_id, piece_count, piece_limit, Image, image_named, unit_at, text_is}
use Rattle.std.specs.Prelude.{◌*◌, ◌/◌, ◌%◌, filter, flat_map, slice_set}
use Rattle.std.proofs.lemmas.Bool.{cases_eq, cases_lt}
use Rattle.std.proofs.lemmas.Grind.{div_ceil_times}
use Rattle.std.proofs.lemmas.List.{get_or-set_other, get_or-set_same, length-append}
use Rattle.std.proofs.lemmas.List.Sums.{sum_by-append}
use Rattle.std.proofs.lemmas.Option.{slice_get-get_or, slice_get_past, slice_get_within}
use Rattle.site_types.proofs.OptionLemmas.{guarded}
use Rattle.site_types.specs.declared.image.Expiry.TheVariants as expiry
use Rattle.site_types.specs.declared.image.ImageRecord.{ImageRecord}
use Rattle.segment_pool.specs.Slots.{PoolState}
use Rattle.copy_fragments.specs.Copies.{Copy}
use Rattle.copy_fragments.specs.Placings.{times}
use Rattle.pool_journal.specs.declared.entry.Entry.TheVariants as entry
use Rattle.pool_journal.specs.declared.entry.WholeImage.{WholeImage}
use Rattle.pool_journal.specs.declared.segments.NewSegment.{NewSegment}
use Rattle.pool_journal.specs.declared.segments.Segments.{Segments}
use Rattle.desk_model.proofs.ImageLists.{length-image}
use Rattle.desk_model.proofs.NamedLemmas.{has-contained, named-contained}
use Rattle.vault_ledger.specs.Copies.{Sets, copy_of}
use Rattle.vault_ledger.specs.Fitting.{whole_entry, whole_unit}
use Rattle.vault_ledger.specs.Following.{IsSamePool}
use Rattle.vault_ledger.specs.Ledger.{Ledger, Placement, backup_fits, has_piece, live_on, named_on, pieces_fit, recorded, segment_of, slots_of, with_backup}
use Rattle.vault_ledger.specs.Pools.{HoldsLive, live_slot}
use Rattle.vault_ledger.specs.Storage.{AreCopies, ArePools, Follows, IsCopyIn, IsUnitPool, StorageState, copy_for}
use Rattle.vault_ledger.proofs.KeptBackups.{backup_kept, here, segments_so, slots_other, slots_own, unit_there}
use Rattle.vault_ledger.proofs.LedgerUnits.{number_own, some_segment}
use Rattle.vault_ledger.proofs.NamedImages.{at_same, named_id, named_with}
use Rattle.vault_ledger.proofs.SealedStates.{live_grown, live_same}

-- the copy of an image that is sealed in these slots
abbrev pub sealed_copy : Ledger → WholeImage → List ℕ → Copy
sealed_copy l w slots = record {
  slots = slots;
  size = segment_of (whole_unit l.outline w) l.outline;
  per_fragment = (unit_at (whole_unit l.outline w) l.outline.site.book).fragment;
  length = w.length;
}

-- the number of its unit
abbrev pub sealed_number : Ledger → WholeImage → ℕ
sealed_number l w = (unit_at (whole_unit l.outline w) l.outline.site.book).number

-- A list with one element changed.

pub set_here : {A : Type 0} (xs : List A) (i : ℕ) (was x : A) → slice_get xs i ≡ Some was → slice_get (slice_set xs i x) i ≡ Some x
set_here xs i was x is =
    let lt = slice_get_within xs i was is in
    slice_get-get_or (slice_set xs i x) i x (omega (arith, lt, length-set xs i x)) ∙ ap Some (get_or-set_same xs i x x lt)

pub set_elsewhere : {A : Type 0} (xs : List A) (i j : ℕ) (x : A) → j ≢ i → slice_get (slice_set xs i x) j ≡ slice_get xs j
set_elsewhere xs i j x ne = ⊎_elim
    (λ lt. slice_get-get_or (slice_set xs i x) j x (omega (arith, lt, length-set xs i x)) ∙ ap Some (get_or-set_other xs i j x x ne) ∙ sym (slice_get-get_or xs j x lt))
    (λ past. slice_get_past (slice_set xs i x) j (omega (arith, past, length-set xs i x)) ∙ sym (slice_get_past xs j past))
    (cases_lt j (length xs))

-- Slots that are named.

times_swapped : (slot : ℕ) (a b : List ℕ) → times slot (a ++ b) ≡ times slot (b ++ a)
times_swapped slot a b = omega (arith, sum_by-append (λ (s : ℕ). cond (s == slot) 1 0) a b, sum_by-append (λ (s : ℕ). cond (s == slot) 1 0) b a)

-- a pool counts them whatever their order
holds_swapped : (known : List NewSegment) (a b : List ℕ) (pool : PoolState) → HoldsLive known (a ++ b) pool → HoldsLive known (b ++ a) pool
holds_swapped known a b pool h = record {
  here = λ s among. h.here s among ∙ ap (λ (k : ℕ). Some (live_slot s k)) (times_swapped s.slot a b);
  others = h.others;
  only = λ slot none. times_swapped slot b a ∙ h.only slot none;
}

named_more : (b : Bool) (unit : List ℕ) (new : Placement) (placements : List Placement) → bytes_eq new.unit unit ≡ b → named_on unit (new ∷ placements) ≡ (if b then new.slots ++ named_on unit placements else named_on unit placements)
named_more true unit new placements is =
    ap (λ (d : Bool). flat_map (λ (p : Placement). p.slots) (if d then new ∷ filter (λ p. bytes_eq p.unit unit) placements else filter (λ p. bytes_eq p.unit unit) placements)) is
named_more false unit new placements is =
    ap (λ (d : Bool). flat_map (λ (p : Placement). p.slots) (if d then new ∷ filter (λ p. bytes_eq p.unit unit) placements else filter (λ p. bytes_eq p.unit unit) placements)) is

-- pieces of so many bytes are no more than these have room for
few_pieces : (size : ℕ) (known : List NewSegment) (n : ℕ) (slots : List ℕ) (k : ℕ) → pieces_fit size known n slots ≡ true → n ≤ k * size → length slots ≤ k
few_pieces size known n [] k fits few = omega arith
few_pieces size known n (slot ∷ slots) k fits few =
    let last = and_parts (nat_lt 0 n && has_piece slot (min size n) known) (pieces_fit size known (n - size) slots) fits in
    let first = and_parts (nat_lt 0 n) (has_piece slot (min size n) known) last.0 in
    let some_so = first.0 in
    let some : 1 ≤ n = grind (arith, nat_tests, some_so) in
    at k (few_pieces size known (n - size) slots) last.1 some few
  where
    at : (k : ℕ) → ((j : ℕ) → pieces_fit size known (n - size) slots ≡ true → n - size ≤ j * size → length slots ≤ j) → pieces_fit size known (n - size) slots ≡ true → 1 ≤ n → n ≤ k * size → suc (length slots) ≤ k
    at zero later rest some room = absurd (omega (arith, some, room))
    at (suc j) later rest some room =
        let behind = later j rest (omega (arith, room)) in
        omega (arith, behind)

pub count_room : (size n : ℕ) → 1 ≤ size → piece_count size n ≤ piece_limit → n ≤ piece_limit * size
count_room size n some few =
    let full : (size == 0) ≡ false = grind (arith, nat_tests, some) in
    let count : piece_count size n ≡ n / size + min 1 (n % size) = λ i. if full i then 0 else (n / size + min 1 (n % size)) in
    let bound = (div_ceil_times n size some).0 in
    nat_room (n / size + min 1 (n % size)) (omega (arith, few, count)) bound
  where
    nat_room : (c : ℕ) → c ≤ piece_limit → n ≤ c * size → n ≤ piece_limit * size
    nat_room c low room = grind (arith, low, room)

-- The law.

module _ (l : Ledger) (w : WholeImage) (segments : Segments) (storage storage' : StorageState) (was pool : PoolState) (follows : Follows l storage) (is_recorded : recorded l (entry.BackupSealed w segments) ≡ Some (with_backup w segments l))
    (was_there : slice_get storage.pools (sealed_number l w) ≡ Some was) (pools_are : storage'.pools ≡ slice_set storage.pools (sealed_number l w) pool) (same : IsSamePool was pool)
    (holds : HoldsLive (live_on (whole_unit l.outline w) l.live ++ segments.added) (named_on (whole_unit l.outline w) l.placements ++ segments.pieces) pool)
    (sets : Sets w.id (Some (sealed_copy l w segments.pieces)) storage.copies storage'.copies) where
  abbrev unit : List ℕ
  unit = whole_unit l.outline w

  abbrev book : Book
  book = l.outline.site.book

  abbrev number : ℕ
  number = sealed_number l w

  abbrev new : Ledger
  new = with_backup w segments l

  abbrev placed : Placement
  placed = record { id = w.id; copy = 1; unit = unit; slots = segments.pieces }

  fits : backup_fits l w segments ≡ true
  fits = (guarded (backup_fits l w segments) (Some (with_backup w segments l)) (with_backup w segments l) is_recorded).0

  there : has unit_name unit book.units ≡ true
  there = unit_there l follows.order w segments fits

  -- The pools.

  own : (u : StorageUnit) → Contains book.units u → unit_at u.name book ≡ u
  own u among = ap (λ (o : Option StorageUnit). unwrap_or o disk0) (named-contained unit_name book.units u follows.order.shape.sound.site.ordered.units among)

  same_unit : (u : StorageUnit) → Contains book.units u → u.number ≡ number → unit ≡ u.name
  same_unit u among is =
      sym (text_is u.name unit (number_own l follows.order u.name unit (has-contained unit_name book.units u follows.order.shape.sound.site.ordered.units among) there (ap (λ (v : StorageUnit). v.number) (own u among) ∙ is)))

  other_unit : (u : StorageUnit) → Contains book.units u → u.number ≢ number → bytes_eq unit u.name ≡ false
  other_unit u among differs = at (bytes_eq unit u.name) refl
    where
      at : (b : Bool) → bytes_eq unit u.name ≡ b → b ≡ false
      at true equal = absurd (differs (ap (λ (v : StorageUnit). v.number) (sym (own u among)) ∙ ap (λ (name : List ℕ). (unit_at name book).number) (sym (text_is unit u.name equal))))
      at false is = refl

  here_now : slice_get storage'.pools number ≡ Some pool
  here_now = ap (λ (l : List PoolState). slice_get l number) pools_are ∙ set_here storage.pools number was pool was_there

  others_now : (n : ℕ) → n ≢ number → slice_get storage'.pools n ≡ slice_get storage.pools n
  others_now n differs = ap (λ (l : List PoolState). slice_get l n) pools_are ∙ set_elsewhere storage.pools number n pool differs

  own_holds : HoldsLive (live_on unit new.live) (named_on unit new.placements) pool
  own_holds =
      subst (λ (known : List NewSegment). HoldsLive known (named_on unit new.placements) pool) (sym (live_grown unit l.live segments.added))
      (subst (λ (named : List ℕ). HoldsLive (live_on unit l.live ++ segments.added) named pool) (sym (named_more true unit placed l.placements ((bytes_eq-Decides unit unit).1 refl)))
      (holds_swapped (live_on unit l.live ++ segments.added) (named_on unit l.placements) segments.pieces pool holds))

  own_pool : (u : StorageUnit) → Contains book.units u → u.number ≡ number → IsUnitPool new u pool
  own_pool u among is =
      let had = follows.pools.have.each u among in
      let first = had.1 in
      let equal : had.0 ≡ was = let e = sym first ∙ ap (λ (n : ℕ). slice_get storage.pools n) is ∙ was_there in cc e in
      record {
        file = same.file ∙ ap (λ (p : PoolState). p.file) (sym equal) ∙ had.2.file;
        size = same.size ∙ ap (λ (p : PoolState). p.size) (sym equal) ∙ had.2.size;
        holds = subst (λ (name : List ℕ). HoldsLive (live_on name new.live) (named_on name new.placements) pool) (same_unit u among is) own_holds;
      }

  other_pool : (u : StorageUnit) → bytes_eq unit u.name ≡ false → (p : PoolState) → IsUnitPool l u p → IsUnitPool new u p
  other_pool u differs p is = record {
    file = is.file;
    size = is.size;
    holds = subst (λ (known : List NewSegment). HoldsLive known (named_on u.name new.placements) p) (sym (live_same unit u.name l.live segments.added differs))
        (subst (λ (named : List ℕ). HoldsLive (live_on u.name l.live) named p) (sym (named_more false u.name placed l.placements differs)) is.holds);
  }

  each_pool : (u : StorageUnit) → Contains book.units u → (p : PoolState) × (slice_get storage'.pools u.number ≡ Some p) × IsUnitPool new u p
  each_pool u among = ⊎_elim
      (λ is. (pool, ap (λ (n : ℕ). slice_get storage'.pools n) is ∙ here_now, own_pool u among is))
      (λ differs. let had = follows.pools.have.each u among in (had.0, others_now u.number differs ∙ had.1, other_pool u (other_unit u among differs) had.0 had.2))
      (cases_eq u.number number)

  as_many : (u : StorageUnit) (p : PoolState) → Contains book.units u → slice_get storage'.pools u.number ≡ Some p → p.slots ≡ u.slots
  as_many u p among is = ⊎_elim
      (λ at_number.
      let equal : p ≡ pool = let e = sym is ∙ ap (λ (n : ℕ). slice_get storage'.pools n) at_number ∙ here_now in cc e in
      ap (λ (q : PoolState). q.slots) equal ∙ same.slots ∙ follows.pools.slots u was among (ap (λ (n : ℕ). slice_get storage.pools n) at_number ∙ was_there))
      (λ differs. follows.pools.slots u p among (sym (others_now u.number differs) ∙ is))
      (cases_eq u.number number)

  long : length storage'.pools ≡ length storage.pools
  long = ap (λ (l : List PoolState). length l) pools_are ∙ length-set storage.pools number pool

  pools_new : ArePools new storage'.pools
  pools_new = record {
    have = record { long = omega (arith, follows.pools.have.long, long); each = each_pool };
    slots = as_many;
    count = long ∙ follows.pools.count;
  }

  -- The copies.

  abbrev outlined : Image
  outlined = record { entry = whole_entry book w; bytes = [] }

  other_copy : (image : ImageRecord) (of : CopyRecord) → same_id w.id image.id ≡ false → copy_for l image of ≡ copy_for new image of
  other_copy image of differs =
      let slots_are : slots_of image.id of.number l.placements ≡ slots_of image.id of.number new.placements = sym (slots_other placed image.id of.number l.placements differs) in
      λ i. record {
        slots = slots_are i;
        size = segment_of of.unit l.outline;
        per_fragment = (unit_at of.unit book).fragment;
        length = image.length;
      }

  others_copy : (id : BackupId) → same_id w.id id ≡ false → (c : Option Copy) (o : Option Image) → image_named id l.outline.images ≡ o → IsCopyIn l c o → IsCopyIn new c o
  others_copy id differs None None is kept = tt
  others_copy id differs None (Some image) is kept = absurd kept
  others_copy id differs (Some copy) None is kept = absurd kept
  others_copy id differs (Some copy) (Some image) is kept =
      let apart : same_id w.id image.entry.id ≡ false = ap (same_id w.id) (named_id id l.outline.images image is) ∙ differs in
      (kept.0, kept.1, kept.2 ∙ other_copy image.entry kept.0 apart)

  own_copy : sealed_copy l w segments.pieces ≡ copy_for new outlined.entry (record { number = 1; unit = unit; completed = w.completed; expiry = expiry.Rule })
  own_copy =
      let slots_are : segments.pieces ≡ slots_of w.id 1 new.placements = sym (slots_own placed l.placements) in
      λ i. record {
        slots = slots_are i;
        size = segment_of unit l.outline;
        per_fragment = (unit_at unit book).fragment;
        length = w.length;
      }

  copies_new : AreCopies new storage'.copies
  copies_new id =
      subst (λ (o : Option Image). IsCopyIn new (copy_of id storage'.copies) o) (sym (named_with outlined l.outline.images (here l follows.order w segments fits).fresh id))
      (subst (λ (c : Option Copy). IsCopyIn new c (if same_id w.id id then Some outlined else image_named id l.outline.images))
      (sym (sets id ∙ ap (λ (b : Bool). cond b (Some (sealed_copy l w segments.pieces)) (copy_of id storage.copies)) (at_same w.id id)))
      (at (same_id w.id id) refl))
    where
      at : (b : Bool) → same_id w.id id ≡ b → IsCopyIn new (cond b (Some (sealed_copy l w segments.pieces)) (copy_of id storage.copies)) (if b then Some outlined else image_named id l.outline.images)
      at true equal = (record { number = 1; unit = unit; completed = w.completed; expiry = expiry.Rule }, refl, own_copy)
      at false differs = others_copy id differs (copy_of id storage.copies) (image_named id l.outline.images) refl (follows.copies id)

  -- The number of slots that are named.

  few_slots : length segments.pieces ≤ piece_limit
  few_slots =
      let size = segment_of unit l.outline in
      few_pieces size (live_on unit l.live ++ segments.added) w.length segments.pieces piece_limit (segments_so l follows.order w segments fits).1
      (count_room size w.length (some_segment l follows.order unit there) (here l follows.order w segments fits).few)

  few_new : (other : List ℕ) → length (named_on other new.placements) ≤ length new.outline.images * piece_limit
  few_new other = subst (λ (named : List ℕ). length named ≤ length new.outline.images * piece_limit) (sym (named_more (bytes_eq unit other) other placed l.placements refl)) (at (bytes_eq unit other))
    where
      more : length new.outline.images ≡ 1 + length l.outline.images
      more = length-image outlined l.outline.images

      at : (b : Bool) → length (if b then segments.pieces ++ named_on other l.placements else named_on other l.placements) ≤ length new.outline.images * piece_limit
      at true = omega (arith, more, length-append segments.pieces (named_on other l.placements), few_slots, follows.few other)
      at false = omega (arith, more, follows.few other)

  -- The units of placements.

  placed_new : (p : Placement) → Contains new.placements p → has unit_name p.unit book.units ≡ true
  placed_new p (zero, lt, is) = subst (λ (q : Placement). has unit_name q.unit book.units ≡ true) is there
  placed_new p (suc k, lt, is) = follows.placed p (k, omega (arith, lt), is)

  -- what is known follows the ledger's step
  pub backup_followed : Follows new storage'
  backup_followed = record { order = backup_kept l follows.order w segments fits; pools = pools_new; copies = copies_new; few = few_new; placed = placed_new }

-- What a read of a whole copy tells of the ledger that its pool follows.
use Rattle.desk_model.proofs.Common.{◌≡◌, ◌≢◌, ◌≤◌, ◌<◌, ◌+◌, ◌-◌, ◌∙◌, ⊎_elim, ℕ, zero, suc, min, Bool, true, false, List, [], ◌∷◌, length, get_or, take, drop, refl, sym, ap, subst, arith, Option, Some, None, unwrap_or, ◌&&◌, ◌==◌, nat_lt, slice_get, Contains, bytes_eq, bytes_eq-Decides, and_parts, nat_tests, text_is, BackupId, CopyRecord, StorageUnit, has, unit_name, disk0, Image, image_named, same_id, if◌then◌else◌}
use Rattle.std.proofs.Common.{◌*◌, Result, Ok, Err}
use Rattle.std.specs.Prelude.{IfErr, IfOk, OnOk}
use Rattle.std.proofs.lemmas.Bool.{eq-eqb}
use Rattle.std.proofs.lemmas.List.{take_all}
use Rattle.std.proofs.lemmas.Option.{slice_get-get_or, slice_get_within}
use Rattle.sha2.specs.Sha256.{sha256}
use Rattle.site_types.specs.declared.image.ImageRecord.{ImageRecord}
use Rattle.vault_disk.specs.Disk.{Image as DiskImage}
use Rattle.vault_disk.specs.Steps.{Rose}
use Rattle.pool_journal.specs.declared.segments.NewSegment.{NewSegment}
use Rattle.segment_pool.specs.Faults.{TroubleHolds, TroubleOf}
use Rattle.segment_pool.specs.Placing.{IsDamaged, bytes_in}
use Rattle.segment_pool.specs.Slots.{PoolState}
use Rattle.segment_pool.specs.Pieces as cut
use Rattle.segment_pool.specs.declared.slot.Slot.{Slot}
use Rattle.copy_fragments.specs.Copies.{Copy, HoldsCopy, IsPart, Meets, SomePiece, Spells, piece_length}
use Rattle.copy_fragments.specs.Placings.{times}
use Rattle.copy_fragments.specs.WholeCopies.{OfTrouble}
use Rattle.copy_fragments.specs.declared.whole_copy.CopyFault.{CopyFault}
use Rattle.copy_fragments.specs.declared.whole_copy.CopyFault.TheVariants as fault
use Rattle.desk_model.proofs.NamedLemmas.{found_named, some_named}
use Rattle.desk_model.proofs.RuleLemmas.{get_contains}
use Rattle.vault_ledger.specs.Copies.{copy_of}
use Rattle.vault_ledger.specs.Ledger.{Ledger, bytes_by, has_piece, image_over, is_whole, live_on, named_on, piece_in, pieces_fit, pool_file, segment_of, slots_of, spelled}
use Rattle.vault_ledger.specs.Pools.{HoldsLive, live_slot}
use Rattle.vault_ledger.specs.Storage.{Follows, IsCopyIn, IsCopyOn, IsWholeOn, ReadingFails, StorageState, copy_for}
use Rattle.vault_ledger.specs.Wellformed.{IsPlaced}
use Rattle.vault_ledger.proofs.HeldSlots.{blocks_one}
use Rattle.vault_ledger.proofs.LedgerUnits.{some_segment}
use Rattle.vault_ledger.proofs.LiveSlots.{held_segment, piece_tells}
use Rattle.vault_ledger.proofs.SyncedStorage.{pool_at}
use Rattle.vault_ledger.proofs.Spelling.{AreFull, cuts, spelled_length, spelled_pieces}

-- A piece of some bytes stands at its index.

later_piece : (size n k : ℕ) → min size (n - size - k * size) ≡ min size (n - suc k * size)
later_piece size n k = omega arith

module _ (size : ℕ) (known : List NewSegment) where
  -- a piece that fits has bytes, and its slot is a live one's with as many
  piece_fits : (n : ℕ) (slots : List ℕ) → pieces_fit size known n slots ≡ true → (index slot : ℕ) → slice_get slots index ≡ Some slot → (index * size < n) × (has_piece slot (min size (n - index * size)) known ≡ true)
  piece_fits n [] fits index slot is = absurd (cc is)
  piece_fits n (first ∷ slots) fits zero slot is =
      let last = and_parts (nat_lt 0 n && has_piece first (min size n) known) (pieces_fit size known (n - size) slots) fits in
      let here = and_parts (nat_lt 0 n) (has_piece first (min size n) known) last.0 in
      let some = here.0 in
      let none : n ≡ n - 0 * size = omega arith in
      let same : first ≡ slot = cc is in
      (grind (arith, nat_tests, some), (λ i. has_piece (sym same i) (min size (sym none i)) known) ∙ here.1)
  piece_fits n (first ∷ slots) fits (suc k) slot is =
      let last = and_parts (nat_lt 0 n && has_piece first (min size n) known) (pieces_fit size known (n - size) slots) fits in
      let rest = piece_fits (n - size) slots last.1 k slot is in
      (omega (arith, rest.0), ap (λ (m : ℕ). has_piece slot m known) (sym (later_piece size n k)) ∙ rest.1)

module _ (file : List ℕ) (size : ℕ) where
  -- the part of a file that is cut out for an index
  pub cut_at : (n : ℕ) (slots : List ℕ) (index slot : ℕ) → slice_get slots index ≡ Some slot → slice_get (cuts file size n slots) index ≡ Some (take (min size (n - index * size)) (drop (slot * size) file))
  cut_at n [] index slot is = absurd (cc is)
  cut_at n (first ∷ slots) zero slot is =
      let same : first ≡ slot = cc is in
      let none : n ≡ n - 0 * size = omega arith in
      λ i. Some (take (min size (none i)) (drop (same i * size) file))
  cut_at n (first ∷ slots) (suc k) slot is = cut_at (n - size) slots k slot is ∙ ap (λ (m : ℕ). Some (take m (drop (slot * size) file))) (later_piece size n k)

  -- the parts are full where each is
  full_each : (known : List NewSegment) (n : ℕ) (slots : List ℕ) → pieces_fit size known n slots ≡ true → ((index slot : ℕ) → slice_get slots index ≡ Some slot → length (take (min size (n - index * size)) (drop (slot * size) file)) ≡ min size (n - index * size)) → AreFull file size n slots
  full_each known n [] fits each = grind (arith, nat_tests, fits)
  full_each known n (first ∷ slots) fits each =
      let last = and_parts (nat_lt 0 n && has_piece first (min size n) known) (pieces_fit size known (n - size) slots) fits in
      let here = and_parts (nat_lt 0 n) (has_piece first (min size n) known) last.0 in
      let some = here.0 in
      let none : n - 0 * size ≡ n = omega arith in (
        grind (arith, nat_tests, some),
        subst (λ (m : ℕ). length (take (min size m) (drop (first * size) file)) ≡ min size m) none (each 0 first refl),
        full_each known (n - size) slots last.1 (λ k slot is. subst (λ (m : ℕ). length (take m (drop (slot * size) file)) ≡ m) (sym (later_piece size n k)) (each (suc k) slot is)),
      )

-- A copy whose pieces stand in live slots of a pool that follows a ledger.

module _ (known : List NewSegment) (named_slots : List ℕ) (pool : PoolState) (holds : HoldsLive known named_slots pool) (size : ℕ) (size_is : pool.size ≡ size) (copy : Copy) (copy_size : copy.size ≡ size) (some : 1 ≤ size) (fits : pieces_fit size known copy.length copy.slots ≡ true) where
  own_piece : (index slot : ℕ) → slice_get copy.slots index ≡ Some slot → (index * size < copy.length) × (has_piece slot (piece_length copy index) known ≡ true)
  own_piece index slot is =
      let one = piece_fits size known copy.length copy.slots fits index slot is in
      (one.0, (λ i. has_piece slot (min (copy_size i) (copy.length - index * copy_size i)) known) ∙ one.1)

  pub holds_copy : HoldsCopy pool copy
  holds_copy index slot is =
      let one = (piece_tells known named_slots pool holds slot (piece_length copy index)).0 (own_piece index slot is).1 in
      (one.0, one.1, one.3)

  meets_whole : (index slot n : ℕ) → n ≡ copy.length → slice_get copy.slots index ≡ Some slot → Meets copy 0 n index
  meets_whole index slot n whole is =
      let inside = (own_piece index slot is).0 in
      subst (λ (s : ℕ). Meets (record copy { size = s }) 0 n index) (sym copy_size) (omega (arith, inside, some, whole))

  module _ (image : DiskImage) (file : List ℕ) (file_is : image pool.file ≡ file) where
    block_is : (slot n : ℕ) → bytes_in pool image slot n ≡ take n (drop (slot * size) file)
    block_is slot n = λ i. take n (drop (slot * size_is i) (file_is i))

    piece_is : (s : NewSegment) → bytes_in pool image s.slot s.length ≡ piece_in file size s
    piece_is s = block_is s.slot s.length

    module _ (part : List ℕ) (long : length part ≡ copy.length) (is_part : IsPart sha256 pool image copy 0 part) where
      part_full : AreFull file size copy.length copy.slots
      part_full = full_each file size known copy.length copy.slots fits (λ index slot is.
          let one = holds_copy index slot is in
          let whole = is_part.whole index slot one.0 (meets_whole index slot (length part) long is) is one.1 in
          let length_is : one.0.length ≡ min size (copy.length - index * size) = one.2 ∙ (λ i. min (copy_size i) (copy.length - index * copy_size i)) in
          (λ i. length (take (sym length_is i) (drop (slot * sym size_is i) (sym file_is i)))) ∙ whole.length_is ∙ length_is)

      part_spells : Spells pool image copy 0 (length part) (spelled file size copy.length copy.slots)
      part_spells = record {
        length_is = spelled_length file size copy.length copy.slots part_full;
        pieces_are = λ index slot meets is.
            (λ i. slice_get (cut.pieces (copy_size i) (spelled file size copy.length copy.slots)) index)
            ∙ ap (λ (l : List (List ℕ)). slice_get l index) (blocks_one (length (spelled file size copy.length copy.slots)) size (spelled file size copy.length copy.slots) ∙ spelled_pieces file size copy.length copy.slots some part_full)
            ∙ cut_at file size copy.length copy.slots index slot is
            ∙ (λ i. Some (take (min (sym copy_size i) (copy.length - index * sym copy_size i)) (drop (slot * sym size_is i) (sym file_is i))));
      }

      -- the part is what the slots spell
      pub part_is : part ≡ spelled file size copy.length copy.slots
      part_is = is_part.bytes_are (spelled file size copy.length copy.slots) part_spells ∙ take_all (length part) (spelled file size copy.length copy.slots) (omega (arith, long, part_spells.length_is))

      -- and each live slot of the copy is whole
      pub part_whole : (s : NewSegment) → Contains known s → Contains copy.slots s.slot → is_whole file size s ≡ true
      part_whole s among (index, lt, at) =
          let slot_is : slice_get copy.slots index ≡ Some s.slot = slice_get-get_or copy.slots index s.slot lt ∙ ap (λ (k : ℕ). Some k) at in
          let whole = is_part.whole index s.slot (live_slot s (times s.slot named_slots)) (meets_whole index s.slot (length part) long slot_is) slot_is (holds.here s among) in
          let length_is : (length (piece_in file size s) == s.length) ≡ true = eq-eqb (length (piece_in file size s)) s.length (ap length (sym (piece_is s)) ∙ whole.length_is) in
          let digest_is : bytes_eq (sha256 (piece_in file size s)) s.digest ≡ true = (bytes_eq-Decides (sha256 (piece_in file size s)) s.digest).1 (ap sha256 (sym (piece_is s)) ∙ whole.digest_is) in
          λ i. length_is i && digest_is i

    -- bytes that are fewer than recorded or have another digest are those of a live slot
    pub damaged_segment : (slot : ℕ) (recorded found : List ℕ) → IsDamaged sha256 pool image slot recorded found → (s : NewSegment) × Contains known s × (s.slot ≡ slot) × (is_whole file size s ≡ false) × (recorded ≡ s.digest) × (found ≡ sha256 (piece_in file size s))
    damaged_segment slot recorded found damaged =
        let one = held_segment known named_slots pool holds slot damaged.what damaged.is_held in
        let s = one.0 in
        let length_is : damaged.what.length ≡ s.length = ap (λ (w : Slot). w.length) one.3 in
        let bytes : bytes_in pool image slot damaged.what.length ≡ piece_in file size s = (λ i. bytes_in pool image (sym one.2 i) (length_is i)) ∙ piece_is s in
        let recorded_is : recorded ≡ s.digest = damaged.recorded_is ∙ ap (λ (w : Slot). w.digest) one.3 in
        let found_is : found ≡ sha256 (piece_in file size s) = damaged.found_is ∙ ap sha256 bytes in (
          s,
          one.1,
          one.2,
          ⊎_elim
              (λ fewer. short s (length (piece_in file size s) == s.length) refl (let long = ap length bytes in omega (arith, fewer, long, length_is)))
              (λ differ. other s (bytes_eq (sha256 (piece_in file size s)) s.digest) refl (λ same. differ (found_is ∙ same ∙ sym recorded_is)))
              damaged.differ,
          recorded_is,
          found_is,
        )
      where
        both : (a b : Bool) → b ≡ false → (a && b) ≡ false
        both true b is = is
        both false b is = refl

        short : (s : NewSegment) (b : Bool) → (length (piece_in file size s) == s.length) ≡ b → length (piece_in file size s) < s.length → is_whole file size s ≡ false
        short s true is fewer = absurd (grind (arith, nat_tests, is, fewer))
        short s false is fewer = ap (λ (b : Bool). b && bytes_eq (sha256 (piece_in file size s)) s.digest) is

        other : (s : NewSegment) (b : Bool) → bytes_eq (sha256 (piece_in file size s)) s.digest ≡ b → sha256 (piece_in file size s) ≢ s.digest → is_whole file size s ≡ false
        other s true is differ = absurd (differ (text_is (sha256 (piece_in file size s)) s.digest is))
        other s false is differ = both (length (piece_in file size s) == s.length) (bytes_eq (sha256 (piece_in file size s)) s.digest) is

-- The copy of an image of the ledger, on its unit.

named_there : (id : BackupId) (images : List Image) (image : Image) → image_named id images ≡ Some image → Contains images image
named_there id [] image is = absurd (cc is)
named_there id (i ∷ images) image is = at (same_id i.entry.id id) (named_there id images image) is
  where
    at : (b : Bool) → (image_named id images ≡ Some image → Contains images image) → (if b then Some i else image_named id images) ≡ Some image → Contains (i ∷ images) image
    at true later here = let found : i ≡ image = cc here in (zero, omega arith, found)
    at false later there = let one = later there in (suc one.0, omega (arith, one.1), one.2)

-- the pool is that of the copy's unit, and the copy's pieces fit its live slots
pub record IsPoolOfCopy (l : Ledger) (image : ImageRecord) (copy : CopyRecord) (pool : PoolState) : Type 0 where
  pub file : pool.file ≡ pool_file copy.unit l.outline
  pub size : pool.size ≡ segment_of copy.unit l.outline
  pub holds : HoldsLive (live_on copy.unit l.live) (named_on copy.unit l.placements) pool
  pub some : 1 ≤ segment_of copy.unit l.outline
  pub fits : pieces_fit (segment_of copy.unit l.outline) (live_on copy.unit l.live) image.length (slots_of image.id copy.number l.placements) ≡ true

module _ (l : Ledger) (storage : StorageState) (follows : Follows l storage) (id : BackupId) (unit : StorageUnit) (image : Image) (copy : CopyRecord) (on : IsCopyOn l id unit image copy) where
  one_copy : (a b : CopyRecord) → a ∷ [] ≡ b ∷ [] → a ≡ b
  one_copy a b same = cc same

  -- the copy at the image's id
  pub copy_there : copy_of id storage.copies ≡ Some (copy_for l image.entry copy)
  copy_there = at (copy_of id storage.copies) (subst (λ (o : Option Image). IsCopyIn l (copy_of id storage.copies) o) on.image_is (follows.copies id))
    where
      at : (c : Option Copy) → IsCopyIn l c (Some image) → c ≡ Some (copy_for l image.entry copy)
      at None none = absurd none
      at (Some c) is = ap (λ (x : Copy). Some x) (is.2 ∙ ap (copy_for l image.entry) (one_copy is.0 copy (sym is.1 ∙ on.only)))

  placed : IsPlaced l image.entry
  placed = follows.order.images image (named_there id l.outline.images image on.image_is)

  same_copy : placed.copy ≡ copy
  same_copy = one_copy placed.copy copy (sym placed.only ∙ on.only)

  there : has unit_name copy.unit l.outline.site.book.units ≡ true
  there = subst (λ (c : CopyRecord). has unit_name c.unit l.outline.site.book.units ≡ true) same_copy placed.unit

  -- its unit is in the book
  unit_found : (unit.name ≡ copy.unit) × Contains l.outline.site.book.units unit
  unit_found =
      let one = some_named unit_name copy.unit l.outline.site.book.units there in
      let found = found_named unit_name copy.unit l.outline.site.book.units one.0 one.1 in
      let same : one.0 ≡ unit = sym (on.unit_is ∙ ap (λ (o : Option StorageUnit). unwrap_or o disk0) one.1) in
      subst (λ (u : StorageUnit). (u.name ≡ copy.unit) × Contains l.outline.site.book.units u) same found

  -- and so the pool at the unit's number is that of the copy
  pub pool_there : (pool : PoolState) × (slice_get storage.pools unit.number ≡ Some pool) × IsPoolOfCopy l image.entry copy pool
  pool_there =
      let own = follows.pools.have.each unit unit_found.1 in (
        own.0,
        own.1,
        record {
          file = own.2.file ∙ ap (λ (u : StorageUnit). 2 + u.number) on.unit_is;
          size = own.2.size ∙ ap (λ (u : StorageUnit). u.segment) on.unit_is;
          holds = subst (λ (name : List ℕ). HoldsLive (live_on name l.live) (named_on name l.placements) own.0) unit_found.0 own.2.holds;
          some = some_segment l follows.order copy.unit there;
          fits = subst (λ (c : CopyRecord). pieces_fit (segment_of c.unit l.outline) (live_on c.unit l.live) image.entry.length (slots_of image.entry.id c.number l.placements) ≡ true) same_copy placed.pieces;
        },
      )

  pub pool_is : (pool : PoolState) → slice_get storage.pools unit.number ≡ Some pool → IsPoolOfCopy l image.entry copy pool
  pool_is pool is =
      let same : pool_there.0 ≡ pool = let e = sym pool_there.1 ∙ is in cc e in
      subst (λ (p : PoolState). IsPoolOfCopy l image.entry copy p) same pool_there.2

-- What a read of that copy from that pool tells.

module _ (l : Ledger) (image : Image) (copy : CopyRecord) (pool : PoolState) (own : IsPoolOfCopy l image.entry copy pool) (only : image.entry.copies ≡ copy ∷ []) where
  abbrev whole_copy : Copy
  whole_copy = copy_for l image.entry copy

  abbrev size : ℕ
  size = segment_of copy.unit l.outline

  abbrev known : List NewSegment
  known = live_on copy.unit l.live

  abbrev naming : List ℕ
  naming = named_on copy.unit l.placements

  held_over : HoldsCopy pool whole_copy
  held_over = holds_copy known naming pool own.holds size own.size whole_copy refl own.some own.fits

  module _ (c : DiskImage) where
    abbrev file : List ℕ
    file = c (pool_file copy.unit l.outline)

    file_over : c pool.file ≡ file
    file_over = ap c own.file

    bytes_over : (part : List ℕ) → length part ≡ whole_copy.length → IsPart sha256 pool c whole_copy 0 part → part ≡ (image_over c l image).bytes
    bytes_over part long is_part =
        part_is known naming pool own.holds size own.size whole_copy refl own.some own.fits c file file_over part long is_part
        ∙ ap (bytes_by c l image.entry) (sym only)

    whole_over : (part : List ℕ) → length part ≡ whole_copy.length → IsPart sha256 pool c whole_copy 0 part → IsWholeOn c l image.entry copy
    whole_over part long is_part s piece = part_whole known naming pool own.holds size own.size whole_copy refl own.some own.fits c file file_over part long is_part s piece.live piece.named

    fails_over : (f : CopyFault) → OfTrouble (λ t. SomePiece pool whole_copy 0 whole_copy.length (λ slot _. TroubleHolds sha256 pool c slot t)) f → ReadingFails c l image.entry copy f
    fails_over fault.NoMemory told = tt
    fails_over fault.DiskFault told = tt
    fails_over (fault.Damaged recorded found) told =
        let one = damaged_segment known naming pool own.holds size own.size whole_copy refl own.some own.fits c file file_over told.slot recorded found told.holds in
        record {
          segment = one.0;
          piece = record { live = one.1; named = subst (λ (k : ℕ). Contains (slots_of image.entry.id copy.number l.placements) k) (sym one.2) (get_contains whole_copy.slots told.index told.slot told.slot_is) };
          broken = one.3;
          recorded_is = one.4;
          found_is = one.5;
        }

module _ (l : Ledger) (storage : StorageState) (follows : Follows l storage) (id : BackupId) (unit : StorageUnit) (image : Image) (copy : CopyRecord) (on : IsCopyOn l id unit image copy)
    (read : Copy) (found : Some read ≡ copy_of id storage.copies) (pool : PoolState) (is : slice_get storage.pools unit.number ≡ Some pool) where
  own_pool : IsPoolOfCopy l image.entry copy pool
  own_pool = pool_is l storage follows id unit image copy on pool is

  read_is : copy_for l image.entry copy ≡ read
  read_is = let e = sym (copy_there l storage follows id unit image copy on) ∙ sym found in cc e

  pub read_held : HoldsCopy pool read
  read_held = subst (HoldsCopy pool) read_is (held_over l image copy pool own_pool on.only)

  module _ {T : Type 0} (items : T → List ℕ) (c : DiskImage) where
    pub read_bytes : (r : Result T CopyFault) → IfOk r (λ b. length (items b) ≡ read.length) → IfOk r (λ b. IsPart sha256 pool c read 0 (items b)) → IfOk r (λ b. items b ≡ (image_over c l image).bytes)
    read_bytes (Err f) long is_part = tt
    read_bytes (Ok b) long is_part = bytes_over l image copy pool own_pool on.only c (items b) (long ∙ ap (λ (m : Copy). m.length) (sym read_is)) (subst (λ (m : Copy). IsPart sha256 pool c m 0 (items b)) (sym read_is) is_part)

    pub read_whole : (r : Result T CopyFault) → IfOk r (λ b. length (items b) ≡ read.length) → IfOk r (λ b. IsPart sha256 pool c read 0 (items b)) → OnOk r (IsWholeOn c l image.entry copy)
    read_whole (Err f) long is_part = tt
    read_whole (Ok b) long is_part = whole_over l image copy pool own_pool on.only c (items b) (long ∙ ap (λ (m : Copy). m.length) (sym read_is)) (subst (λ (m : Copy). IsPart sha256 pool c m 0 (items b)) (sym read_is) is_part)

  pub read_fails : {T : Type 0} (c : DiskImage) (r : Result T CopyFault) → IfErr r (OfTrouble (λ t. SomePiece pool read 0 read.length (λ slot _. TroubleHolds sha256 pool c slot t))) → IfErr r (ReadingFails c l image.entry copy)
  read_fails c (Ok b) told = tt
  read_fails c (Err f) told = fails_over l image copy pool own_pool on.only c f (subst (λ (m : Copy). OfTrouble (λ t. SomePiece pool m 0 m.length (λ slot _. TroubleHolds sha256 pool c slot t)) f) (sym read_is) told)

-- the disk failed where it is told so
pub read_cause : {T : Type 0} (pool : PoolState) (copy : Copy) (before now : ℕ) (r : Result T CopyFault) → IfErr r (OfTrouble (λ t. SomePiece pool copy 0 copy.length (λ _ what. TroubleOf what.digest before now t))) → IfErr r (λ f. f ≡ fault.DiskFault → Rose before now)
read_cause pool copy before now (Ok b) told = tt
read_cause pool copy before now (Err fault.NoMemory) told = λ same. absurd (cc same)
read_cause pool copy before now (Err fault.DiskFault) told = λ same. told.holds
read_cause pool copy before now (Err (fault.Damaged recorded found)) told = λ same. absurd (cc same)

-- The copy and the pool that a call finds in the storage.

module _ (storage : StorageState) (id : BackupId) (unit : StorageUnit) (known : (l : Ledger) × (image : Image) × (copy : CopyRecord) × Follows l storage × IsCopyOn l id unit image copy) where
  -- there is a pool at the unit's number
  pub within_pools : unit.number < length storage.pools
  within_pools =
      let own = pool_there known.0 storage known.3 id unit known.1 known.2 known.4 in
      slice_get_within storage.pools unit.number own.0 own.1

  -- and this one is it
  pub pool_found : (items : List PoolState) (pool : PoolState) → items ≡ storage.pools → pool ≡ get_or items unit.number pool → slice_get storage.pools unit.number ≡ Some pool
  pool_found items pool same is = pool_at items storage.pools unit.number pool same (omega (arith, within_pools, ap length same)) is

  -- which holds the copy's pieces
  pub found_held : (read : Copy) (pool : PoolState) → Some read ≡ copy_of id storage.copies → slice_get storage.pools unit.number ≡ Some pool → HoldsCopy pool read
  found_held read pool found is = read_held known.0 storage known.3 id unit known.1 known.2 known.4 read found pool is

-- What the storing of a backup needs of what is known of its unit, and what it leaves.
use Rattle.desk_model.proofs.Common.{◌≡◌, ◌≢◌, ◌≤◌, ◌<◌, ◌+◌, ◌-◌, ◌∙◌, ⊎_elim, ℕ, min, Bool, true, false, List, [], ◌∷◌, ◌++◌, length, refl, sym, ap, subst, arith, Option, Some, None, Result, Ok, Err, is_some, unwrap_or, if◌then◌else◌, cond, ◌==◌, slice_get, get_or, Contains, or_parts, nat_tests, length-set, BackupId, StorageUnit, has, Book, unit_name, disk0, same_id, piece_count, piece_limit, Image, has_image, image_named, operations_in, IsSoundUnit}
use Rattle.std.specs.Prelude.{◌*◌, ◌/◌, ◌%◌, ◌^◌, IfErr, slice_set}
use Rattle.std.specs.BTreeMap.{is_at}
use Rattle.std.proofs.lemmas.Bool.{cases_eq}
use Rattle.std.proofs.lemmas.Grind.{div_ceil_times}
use Rattle.std.proofs.lemmas.Option.{slice_get-get_or, slice_get_within}
use Rattle.vault_disk.specs.Disk.{Disk}
use Rattle.segment_pool.specs.Pieces.{pieces}
use Rattle.segment_pool.specs.Slots.{IsAsBefore, IsPinnedAtMost, PoolState}
use Rattle.segment_pool.specs.declared.slot.Slot.{Slot}
use Rattle.copy_fragments.specs.Copies.{Copy, IsPieceCount}
use Rattle.copy_fragments.proofs.Kept.{counted_pieces}
use Rattle.pool_journal.specs.declared.entry.WholeImage.{WholeImage}
use Rattle.pool_journal.specs.declared.segments.NewSegment.{NewSegment}
use Rattle.desk_model.proofs.ImageLists.{same_is, same_self}
use Rattle.desk_model.proofs.NamedLemmas.{found_named, some_named}
use Rattle.desk_model.proofs.RuleLemmas.{are_sealed, rules_hold}
use Rattle.desk_model.proofs.SealSound.{Fits}
use Rattle.vault_ledger.specs.Copies.{Sets, copy_of, id_cmp}
use Rattle.vault_ledger.specs.Fitting.{whole_entry, whole_unit}
use Rattle.vault_ledger.specs.Following.{CountsFit, IsSamePool}
use Rattle.vault_ledger.specs.Ledger.{Ledger, live_on, named_on}
use Rattle.vault_ledger.specs.Pools.{HoldsLive}
use Rattle.vault_ledger.specs.Sealing.{IsPoolFor, IsSealed, IsUnsealed}
use Rattle.vault_ledger.specs.Storage.{ArePools, Follows, IsCopyIn, IsUnitFor, IsUnitPool, StorageState}
use Rattle.vault_ledger.specs.Storing.{AreSameCopies, IsSealedIn, IsUnsealedIn, copy_on}
use Rattle.vault_ledger.proofs.FittingImages.{fits_by}
use Rattle.vault_ledger.proofs.FollowedBackups.{backup_followed, count_room, sealed_copy, sealed_number, set_elsewhere, set_here}
use Rattle.vault_ledger.proofs.LiveSlots.{counts_fit, held_segment}
use Rattle.vault_ledger.proofs.NamedImages.{at_same}

-- what follows from two facts of a fault
pub err_both : {T E : Type 0} (r : Result T E) (P Q R : E → Type 0) → ((e : E) → P e → Q e → R e) → IfErr r P → IfErr r Q → IfErr r R
err_both (Ok v) P Q R both one other = tt
err_both (Err e) P Q R both one other = both e one other

-- Pieces.

rounded_up : (size n : ℕ) → 1 ≤ size → IsPieceCount (piece_count size n) size n
rounded_up size n some =
    let full : (size == 0) ≡ false = grind (arith, nat_tests, some) in
    let count : piece_count size n ≡ n / size + min 1 (n % size) = λ i. if full i then 0 else (n / size + min 1 (n % size)) in
    let bounds = div_ceil_times n size some in
    record {
      enough = subst (λ (k : ℕ). n ≤ k * size) (sym count) bounds.0;
      none_empty = subst (λ (k : ℕ). k * size < n + size) (sym count) bounds.1;
    }

pieces_counted : (size : ℕ) (bytes : List ℕ) → 1 ≤ size → piece_count size (length bytes) ≡ length (pieces size bytes)
pieces_counted size bytes some = counted_pieces size (piece_count size (length bytes)) bytes some (rounded_up size (length bytes) some)

-- bytes have so many pieces
pub count_is : (size n : ℕ) (bytes : List ℕ) → 1 ≤ size → n ≡ length (pieces size bytes) → IsPieceCount n size (length bytes)
count_is size n bytes some is = subst (λ (k : ℕ). IsPieceCount k size (length bytes)) (pieces_counted size bytes some ∙ sym is) (rounded_up size (length bytes) some)

-- Copies.

-- the later of two changes of one image's copy counts
pub sets_over : (id : BackupId) (first second : Option Copy) (before between after : List (BackupId × Copy)) → Sets id first before between → Sets id second between after → Sets id second before after
sets_over id first second before between after one two q = two q ∙ at (is_at (id_cmp id) q) refl
  where
    at : (b : Bool) → is_at (id_cmp id) q ≡ b → cond b second (copy_of q between) ≡ cond b second (copy_of q before)
    at true here = refl
    at false other = one q ∙ ap (λ (b : Bool). cond b first (copy_of q before)) other

-- a copy that was put in the place of one that was reserved is the image's on its unit
pub filled : (w : WholeImage) (unit : StorageUnit) (slots bytes : List ℕ) (id : BackupId) (reserved copy : Copy) (before between there after : List (BackupId × Copy)) → id ≡ w.id → w.length ≡ length bytes
    → copy ≡ record { slots = slots; size = unit.segment; per_fragment = unit.fragment; length = length bytes } → there ≡ between → Sets id (Some reserved) before between → Sets id (Some copy) there after → Sets w.id (Some (copy_on unit w slots)) before after
filled w unit slots bytes id reserved copy before between there after id_is long is same one two =
    let copy_is : copy ≡ copy_on unit w slots = is ∙ (λ i. record { slots = slots; size = unit.segment; per_fragment = unit.fragment; length = sym long i }) in
    subst (λ (i : BackupId). Sets i (Some (copy_on unit w slots)) before after) id_is
    (sets_over id (Some reserved) (Some (copy_on unit w slots)) before between after one
    (subst (λ (c : Copy). Sets id (Some c) between after) copy_is (subst (λ (cs : List (BackupId × Copy)). Sets id (Some copy) cs after) same two)))

-- an image that was given a copy has one
pub copy_there : (id : BackupId) (copy : Copy) (before after : List (BackupId × Copy)) → Sets id (Some copy) before after → is_some (copy_of id after) ≡ true
copy_there id copy before after sets = ap is_some (sets id ∙ ap (λ (b : Bool). cond b (Some copy) (copy_of id before)) (at_same id id ∙ same_self id))

none_named : (id : BackupId) (images : List Image) → has_image id images ≡ false → image_named id images ≡ None
none_named id [] fresh = refl
none_named id (image ∷ images) fresh =
    let parts = or_parts (same_id image.entry.id id) (has_image id images) fresh in
    λ i. if parts.0 i then Some image else none_named id images parts.1 i

no_copy : (l : Ledger) (copy : Option Copy) → IsCopyIn l copy None → copy ≡ None
no_copy l None is = refl
no_copy l (Some copy) is = absurd is

-- Pools.

-- all slots are held as before
holds_still : (known : List NewSegment) (named : List ℕ) (old new : PoolState) → IsAsBefore old new → HoldsLive known named old → HoldsLive known named new
holds_still known named old new before holds = record {
  here = λ s among. before.same s.slot ∙ holds.here s among;
  others = λ slot none. before.same slot ∙ holds.others slot none;
  only = holds.only;
}

pool_still : (l : Ledger) (u : StorageUnit) (old new : PoolState) → IsAsBefore old new → IsUnitPool l u old → IsUnitPool l u new
pool_still l u old new before is = record {
  file = before.file ∙ is.file;
  size = before.size ∙ is.size;
  holds = holds_still (live_on u.name l.live) (named_on u.name l.placements) old new before is.holds;
}

-- What a seal needs of its unit's pool.
pub record IsReady (unit : StorageUnit) (pool : PoolState) (size : ℕ) (bytes : List ℕ) : Type 0 where
  pub file : 2 + unit.number ≡ pool.file
  pub size_is : size ≡ pool.size
  pub few : length (pieces size bytes) ≤ piece_limit
  pub pins : (most : ℕ) × IsPinnedAtMost most pool × (most + length bytes < 2 ^ 64 - 1)
  pub counts : CountsFit (length (pieces size bytes)) pool

module _ (l : Ledger) (storage : StorageState) (follows : Follows l storage) (w : WholeImage) (unit : StorageUnit) (is_for : IsUnitFor l w unit) where
  abbrev book : Book
  book = l.outline.site.book

  abbrev name : List ℕ
  name = whole_unit l.outline w

  fits : Fits l.outline (whole_entry book w) w.completed
  fits = fits_by l.outline w is_for.fits

  there : has unit_name name book.units ≡ true
  there = (are_sealed book.units (operations_in w.lifecycle w.version book) (rules_hold book follows.order.shape.sound.site.lifecycles w.lifecycle w.version fits.version)).there

  in_book : Contains book.units unit × (unit.name ≡ name)
  in_book =
      let one = some_named unit_name name book.units there in
      let found = found_named unit_name name book.units one.0 one.1 in
      let same : one.0 ≡ unit = sym (ap (λ (o : Option StorageUnit). unwrap_or o disk0) one.1) ∙ sym is_for.unit_is in
      subst (λ (u : StorageUnit). Contains book.units u × (u.name ≡ name)) same (found.1, found.0)

  sized : IsSoundUnit unit
  sized = follows.order.shape.sound.site.units unit in_book.0

  pub some_segment : 1 ≤ unit.segment
  some_segment = let from = sized.segment.0 in omega (arith, from)

  pub some_fragment : 1 ≤ unit.fragment
  some_fragment = let from = sized.fragment.0 in omega (arith, from)

  -- The pool.

  pub within : unit.number < length storage.pools
  within = let had = follows.pools.have.each unit in_book.0 in slice_get_within storage.pools unit.number had.0 had.1

  -- the one that is read there
  abbrev pool_by : PoolState → PoolState
  pool_by default = get_or storage.pools unit.number default

  pub pool_is : (default : PoolState) → slice_get storage.pools unit.number ≡ Some (pool_by default)
  pool_is default = slice_get-get_or storage.pools unit.number default within

  pub slots_are : (default : PoolState) → (pool_by default).slots ≡ unit.slots
  slots_are default = follows.pools.slots unit (pool_by default) in_book.0 (pool_is default)

  own_pool : (default : PoolState) → IsUnitPool l unit (pool_by default)
  own_pool default =
      let had = follows.pools.have.each unit in_book.0 in
      let first = had.1 in
      let here = pool_is default in
      let same : had.0 ≡ pool_by default = cc (first, here) in
      subst (λ (p : PoolState). IsUnitPool l unit p) same had.2

  pub pool_for : (default : PoolState) → IsPoolFor l w (pool_by default)
  pool_for default =
      let own = own_pool default in
      record {
        there = there;
        file = own.file ∙ ap (λ (u : StorageUnit). 2 + u.number) is_for.unit_is;
        size = own.size ∙ ap (λ (u : StorageUnit). u.segment) is_for.unit_is;
        holds = subst (λ (of : List ℕ). HoldsLive (live_on of l.live) (named_on of l.placements) (pool_by default)) in_book.1 own.holds;
      }

  none_pinned : (default : PoolState) → IsPinnedAtMost 0 (pool_by default)
  none_pinned default slot what is =
      let found = held_segment (live_on unit.name l.live) (named_on unit.name l.placements) (pool_by default) (own_pool default).holds slot what is in
      omega (arith, ap (λ (s : Slot). s.pins) found.3)

  -- The bytes.

  module _ (bytes : List ℕ) (long : w.length ≡ length bytes) where
    few : length (pieces unit.segment bytes) ≤ piece_limit
    few =
        let at_most = fits.few in
        omega (arith, sym (pieces_counted unit.segment bytes some_segment), ap (λ (n : ℕ). piece_count unit.segment n) (sym long), ap (λ (u : StorageUnit). piece_count u.segment w.length) is_for.unit_is, at_most)

    short : length bytes < 2 ^ 64 - 1
    short =
        let room = count_room unit.segment (length bytes) some_segment (omega (arith, pieces_counted unit.segment bytes some_segment, few)) in
        let to = sized.segment.1 in
        omega (arith, room, to)

    counts : (default : PoolState) → CountsFit (length (pieces unit.segment bytes)) (pool_by default)
    counts default =
        let images = fits.room in
        let named = follows.few unit.name in
        counts_fit (live_on unit.name l.live) (named_on unit.name l.placements) (pool_by default) (own_pool default).holds (length (pieces unit.segment bytes)) (omega (arith, named, images, few))

    is_ready : (default : PoolState) → IsReady unit (pool_by default) unit.segment bytes
    is_ready default = record {
      file = sym (own_pool default).file;
      size_is = sym (own_pool default).size;
      few = few;
      pins = (0, none_pinned default, omega (arith, short));
      counts = counts default;
    }

  -- A copy that was reserved and then taken out leaves the copies as they were.

  absent : (id : BackupId) → same_id w.id id ≡ true → copy_of id storage.copies ≡ None
  absent id same =
      no_copy l (copy_of id storage.copies)
      (subst (λ (o : Option Image). IsCopyIn l (copy_of id storage.copies) o)
      (ap (λ (i : BackupId). image_named i l.outline.images) (sym (same_is w.id id same)) ∙ none_named w.id l.outline.images fits.fresh)
      (follows.copies id))

  removed_from : (copy : Option Copy) (between after : List (BackupId × Copy)) → Sets w.id copy storage.copies between → Sets w.id None between after → AreSameCopies storage.copies after
  removed_from copy between after added removed id = removed id ∙ at (is_at (id_cmp w.id) id) refl
    where
      at : (b : Bool) → is_at (id_cmp w.id) id ≡ b → cond b None (copy_of id between) ≡ copy_of id storage.copies
      at true here = sym (absent id (sym (at_same w.id id) ∙ here))
      at false other = added id ∙ ap (λ (b : Bool). cond b copy (copy_of id storage.copies)) other

  pub removed_again : (id : BackupId) (copy : Option Copy) (between before after : List (BackupId × Copy)) → id ≡ w.id → before ≡ between → Sets id copy storage.copies between → Sets id None before after → AreSameCopies storage.copies after
  removed_again id copy between before after id_is same added removed =
      removed_from copy between after (subst (λ (i : BackupId). Sets i copy storage.copies between) id_is added)
      (subst (λ (i : BackupId). Sets i None between after) id_is (subst (λ (cs : List (BackupId × Copy)). Sets id None cs after) same removed))

  -- The pools with another one in the place of the unit's.

  module _ (default changed : PoolState) (old new : Disk) (end end' : ℕ) where
    abbrev pool : PoolState
    pool = pool_by default

    abbrev pools : List PoolState
    pools = slice_set storage.pools unit.number changed

    -- Sealed.

    number_is : unit.number ≡ sealed_number l w
    number_is = ap (λ (u : StorageUnit). u.number) is_for.unit_is

    pub sealed_in : (bytes slots : List ℕ) → IsSamePool pool changed → IsSealed l w bytes old new end end' changed slots → IsSealedIn l w unit bytes old new end end' storage.copies pools slots
    sealed_in bytes slots same sealed = record {
      stored = λ with_copy sets. record {
        segments = sealed.segments;
        follows = backup_followed l w sealed.segments storage (record { pools = pools; copies = with_copy }) pool changed follows sealed.fits
            (ap (λ (n : ℕ). slice_get storage.pools n) (sym number_is) ∙ pool_is default)
            (ap (λ (n : ℕ). slice_set storage.pools n changed) number_is)
            same
            (subst (λ (named : List ℕ). HoldsLive (live_on name l.live ++ sealed.segments.added) (named_on name l.placements ++ named) changed) (sym sealed.pieces_are) sealed.holds)
            (subst (λ (copy : Copy). Sets w.id (Some copy) storage.copies with_copy) (copy_is sealed.segments.pieces sealed.pieces_are) sets);
        says = sealed.says;
        kept = sealed.kept;
      };
    }
      where
        copy_is : (named : List ℕ) → named ≡ slots → copy_on unit w slots ≡ sealed_copy l w named
        copy_is named are = λ i. record { slots = sym are i; size = (is_for.unit_is i).segment; per_fragment = (is_for.unit_is i).fragment; length = w.length }

    -- Refused.

    module _ (before : IsAsBefore pool changed) where
      here_now : slice_get pools unit.number ≡ Some changed
      here_now = set_here storage.pools unit.number pool changed (pool_is default)

      others_now : (n : ℕ) → n ≢ unit.number → slice_get pools n ≡ slice_get storage.pools n
      others_now n differs = set_elsewhere storage.pools unit.number n changed differs

      each_pool : (u : StorageUnit) → Contains book.units u → (p : PoolState) × (slice_get pools u.number ≡ Some p) × IsUnitPool l u p
      each_pool u among =
          let had = follows.pools.have.each u among in
          ⊎_elim
          (λ is.
          let first = had.1 in
          let at_number : slice_get storage.pools u.number ≡ Some pool = ap (λ (n : ℕ). slice_get storage.pools n) is ∙ pool_is default in
          let same : had.0 ≡ pool = cc (first, at_number) in
          (changed, ap (λ (n : ℕ). slice_get pools n) is ∙ here_now, pool_still l u pool changed before (subst (λ (p : PoolState). IsUnitPool l u p) same had.2)))
          (λ differs. (had.0, others_now u.number differs ∙ had.1, had.2))
          (cases_eq u.number unit.number)

      as_many : (u : StorageUnit) (p : PoolState) → Contains book.units u → slice_get pools u.number ≡ Some p → p.slots ≡ u.slots
      as_many u p among is = ⊎_elim
          (λ at_number.
          let now : slice_get pools u.number ≡ Some changed = ap (λ (n : ℕ). slice_get pools n) at_number ∙ here_now in
          let same : p ≡ changed = cc (is, now) in
          ap (λ (q : PoolState). q.slots) same ∙ before.slots ∙ follows.pools.slots u pool among (ap (λ (n : ℕ). slice_get storage.pools n) at_number ∙ pool_is default))
          (λ differs. follows.pools.slots u p among (sym (others_now u.number differs) ∙ is))
          (cases_eq u.number unit.number)

      many : length pools ≡ length storage.pools
      many = length-set storage.pools unit.number changed

      pools_still : ArePools l pools
      pools_still = record {
        have = record { long = omega (arith, follows.pools.have.long, many); each = each_pool };
        slots = as_many;
        count = many ∙ follows.pools.count;
      }

      pub unsealed_in : IsUnsealed l old new end end' → IsUnsealedIn l old new end end' storage.copies pools
      unsealed_in unsealed = record {
        unstored = λ copies same. record {
          follows = record {
            order = follows.order;
            pools = pools_still;
            copies = λ id. subst (λ (copy : Option Copy). IsCopyIn l copy (image_named id l.outline.images)) (sym (same id)) (follows.copies id);
            few = follows.few;
            placed = follows.placed;
          };
          says = unsealed.says;
          kept = unsealed.kept;
        };
      }

-- of any ledger that the pools follow
pub ready : (pools : List PoolState) (w : WholeImage) (unit : StorageUnit) → ((l : Ledger) × (copies : List (BackupId × Copy)) × Follows l (record { pools = pools; copies = copies }) × IsUnitFor l w unit) → (default : PoolState) (size : ℕ) (bytes : List ℕ) → size ≡ unit.segment → w.length ≡ length bytes → IsReady unit (get_or pools unit.number default) size bytes
ready pools w unit known default size bytes size_is long =
    subst (λ (n : ℕ). IsReady unit (get_or pools unit.number default) n bytes) (sym size_is)
    (is_ready known.0 (record { pools = pools; copies = known.1 }) known.2 w unit known.3 bytes long default)

-- what is known follows a ledger where the pools are the same
pub with_pools : (l : Ledger) (storage : StorageState) (ps : List PoolState) → ps ≡ storage.pools → Follows l storage → Follows l (record { pools = ps; copies = storage.copies })
with_pools l storage ps same follows = subst (λ (ps : List PoolState). Follows l (record { pools = ps; copies = storage.copies })) (sym same) follows

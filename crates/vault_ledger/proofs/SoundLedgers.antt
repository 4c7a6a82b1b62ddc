-- What an image of a disk stands for is sound.
use Rattle.desk_model.proofs.Common.{◌≡◌, ◌≢◌, ◌≤◌, ◌∙◌, ℕ, zero, suc, Bool, true, false, List, [], ◌∷◌, length, get_or, map, refl, sym, ap, subst, arith, Some, Result, Ok, Err, not, if◌then◌else◌, Contains, AllPairs, list_any, bytes_eq, false≢true, and_parts, bytes_eq-Decides, length-map, text_is, CopyRecord, has, Book, unit_name, AreById, pieces, State, Image, Stored, entries, image_limit, Sound, KeepsCopies, IsSoundImage, IsSoundCopy, IsSoundSet, stored_on}
use Rattle.std.specs.Result.{result_ok}
use Rattle.std.proofs.lemmas.Bool.{not-true}
use Rattle.std.proofs.lemmas.List.Folds.{list_any_at}
use Rattle.std.proofs.lemmas.List.Kept.{AllPairs-cons}
use Rattle.site_types.specs.declared.image.ImageRecord.{ImageRecord}
use Rattle.site_types.proofs.OptionLemmas.{guarded, chained}
use Rattle.vault_disk.specs.Disk.{Image as DiskImage}
use Rattle.pool_journal.specs.declared.segments.NewSegment.{NewSegment}
use Rattle.desk_model.specs.Pieces.{piece_count, piece_limit}
use Rattle.desk_model.proofs.ImageLists.{of_entries}
use Rattle.desk_model.proofs.Passing.{mapped_in}
use Rattle.desk_model.proofs.Restores.{keeps_copies}
use Rattle.vault_ledger.specs.Ledger.{Ledger, are_distinct, are_true, are_whole, bytes_by, image_over, journal_reads, live_on, piece_in, pieces_on, pool_file, segment_of, set_over, slots_of, spelled, stands, state_over, state_where}
use Rattle.vault_ledger.specs.Wellformed.{IsLedger, IsPlaced, set_units}
use Rattle.vault_ledger.proofs.KeptBackups.{in_mapped}
use Rattle.vault_ledger.proofs.TrueUnits as pools
use Rattle.vault_ledger.proofs.SpelledPieces.{spelled_long, spelled_there, whole_at}
use Rattle.vault_ledger.proofs.JournalLedgers.{journal_kept}
use Rattle.vault_ledger.proofs.LedgerUnits.{live_sized, own_set, set_there, unit_of_set, units_alike}

-- pieces that are distinct by the test are so
distinct_all : (set : List (List ℕ)) → are_distinct set ≡ true → AllPairs (λ (a b : List ℕ). a ≢ b) set
distinct_all [] apart = λ i j d below lt. absurd (omega arith)
distinct_all (piece ∷ more) apart =
    let parts = and_parts (not (list_any (λ p. bytes_eq p piece) more)) (are_distinct more) apart in
    let none : list_any (λ p. bytes_eq p piece) more ≡ false = not-true (list_any (λ p. bytes_eq p piece) more) parts.0 in
    AllPairs-cons (λ (a b : List ℕ). a ≢ b) piece more (λ k d lt same. false≢true (sym none ∙ list_any_at (λ p. bytes_eq p piece) more k d lt ((bytes_eq-Decides (get_or more k d) piece).1 (sym same)))) (distinct_all more parts.1)

-- The state of a ledger with the pools' bytes: its catalogue and the units of its sets are the outline's.

module _ (c : DiskImage) (l : Ledger) where
  pub entries_over : (images : List Image) → entries (map (image_over c l) images) ≡ entries images
  entries_over [] = refl
  entries_over (image ∷ images) = ap (λ (es : List ImageRecord). image.entry ∷ es) (entries_over images)

  units_over : (sets : List Stored) → set_units (map (set_over c l) sets) ≡ set_units sets
  units_over [] = refl
  units_over (set ∷ sets) = ap (λ (units : List (List ℕ)). set.unit ∷ units) (units_over sets)

  -- what is stored on a unit are the pieces in its live slots
  pieces_over : (unit : List ℕ) (sets : List Stored) (set : Stored) → Contains sets set → set.unit ≡ unit → stored_on unit (map (set_over c l) sets) ≡ pieces_on c l unit
  pieces_over unit [] set (k, lt, is) same = absurd (omega arith)
  pieces_over unit (s ∷ sets) set among same = at (bytes_eq s.unit unit) refl (pieces_over unit sets set) among
    where
      at : (b : Bool) → bytes_eq s.unit unit ≡ b → (Contains sets set → set.unit ≡ unit → stored_on unit (map (set_over c l) sets) ≡ pieces_on c l unit) → Contains (s ∷ sets) set → (if b then pieces_on c l s.unit else stored_on unit (map (set_over c l) sets)) ≡ pieces_on c l unit
      at true here later there = ap (λ (u : List ℕ). pieces_on c l u) (text_is s.unit unit here)
      at false differs later (zero, lt, is) = absurd (false≢true (sym differs ∙ (bytes_eq-Decides s.unit unit).1 (ap (λ (t : Stored). t.unit) is ∙ same)))
      at false differs later (suc k, lt, is) = later (k, omega arith, is) same

  -- the pool of each set is true
  module _ (kept : IsLedger l) (all : are_true c l l.outline.stored ≡ true) where
    abbrev old : State
    old = l.outline

    abbrev book : Book
    book = old.site.book

    abbrev images : List Image
    images = kept.shape.images

    abbrev sound : Sound (record old { images = images; stored = kept.shape.stored })
    sound = kept.shape.sound

    abbrev sets : List Stored
    sets = map (set_over c l) old.stored

    abbrev file : List ℕ → List ℕ
    file unit = c (pool_file unit old)

    abbrev segment : List ℕ → ℕ
    segment unit = segment_of unit old

    abbrev known : List ℕ → List NewSegment
    known unit = live_on unit l.live

    -- and so is that of each unit
    pub true_unit : (unit : List ℕ) → has unit_name unit book.units ≡ true → (are_whole (file unit) (segment unit) (known unit) ≡ true) × (are_distinct (pieces_on c l unit) ≡ true)
    true_unit unit there = and_parts (are_whole (file unit) (segment unit) (known unit)) (are_distinct (pieces_on c l unit)) (pools.true_unit c l kept all unit there)

    set_sound : (set : Stored) → Contains old.stored set → IsSoundSet book (set_over c l set)
    set_sound set among =
        let unit = set.unit in
        let there = unit_of_set l kept set among in
        let is_true = true_unit unit there in
        record {
          unit = there;
          distinct = distinct_all (pieces_on c l unit) is_true.1;
          sized = λ piece held.
              let one = in_mapped (piece_in (file unit) (segment unit)) (known unit) piece held in
              let long = whole_at (file unit) (segment unit) (known unit) is_true.0 one.0 one.1 in
              subst (λ (p : List ℕ). (1 ≤ length p) × (length p ≤ segment unit)) one.2 (subst (λ (n : ℕ). (1 ≤ n) × (n ≤ segment unit)) (sym long) (live_sized l kept unit one.0 one.1));
        }

    -- Images.

    module _ (image : Image) (was : IsSoundImage book kept.shape.stored image) (placed : IsPlaced l image.entry) where
      abbrev e : ImageRecord
      e = image.entry

      abbrev unit : List ℕ
      unit = placed.copy.unit

      abbrev slots : List ℕ
      slots = slots_of e.id placed.copy.number l.placements

      abbrev whole : are_whole (file unit) (segment unit) (known unit) ≡ true
      whole = (true_unit unit placed.unit).0

      bytes_are : bytes_by c l e e.copies ≡ spelled (file unit) (segment unit) e.length slots
      bytes_are = ap (λ (copies : List CopyRecord). bytes_by c l e copies) placed.only

      one_copy : (copies : List CopyRecord) (copy : CopyRecord) → copies ≡ placed.copy ∷ [] → Contains copies copy → placed.copy ≡ copy
      one_copy copies copy only among = at (subst (λ (l : List CopyRecord). Contains l copy) only among)
        where
          at : Contains (placed.copy ∷ []) copy → placed.copy ≡ copy
          at (zero, lt, is) = is
          at (suc k, lt, is) = absurd (omega arith)

      pieces_there : (piece : List ℕ) → Contains (pieces (segment unit) (bytes_by c l e e.copies)) piece → Contains (stored_on unit sets) piece
      pieces_there piece among =
          let set = set_there l kept unit placed.unit in
          subst (λ (held : List (List ℕ)). Contains held piece) (sym (pieces_over unit old.stored set.0 set.1 set.2))
          (spelled_there (file unit) (segment unit) (known unit) whole e.length slots placed.pieces _ piece (subst (λ (bytes : List ℕ). Contains (pieces (segment unit) bytes) piece) bytes_are among))

      size : e.length ≡ length (bytes_by c l e e.copies)
      size = sym (spelled_long (file unit) (segment unit) (known unit) whole e.length slots placed.pieces) ∙ ap length (sym bytes_are)

      copy_sound : (copy : CopyRecord) → Contains e.copies copy → IsSoundCopy book sets (image_over c l image) copy
      copy_sound copy among =
          let before = was.copies copy among in
          record {
            number = before.number;
            complete = before.complete;
            unit = before.unit;
            moment = before.moment;
            expiry = before.expiry;
            pieces = subst (λ (k : CopyRecord). (piece : List ℕ) → Contains (pieces (segment k.unit) (bytes_by c l e e.copies)) piece → Contains (stored_on k.unit sets) piece) (one_copy e.copies copy placed.only among) pieces_there;
            few = subst (λ (n : ℕ). piece_count (segment copy.unit) n ≤ piece_limit) (sym was.size ∙ size) before.few;
          }

      over_sound : IsSoundImage book sets (image_over c l image)
      over_sound = record {
        client = was.client;
        last = was.last;
        policy = was.policy;
        version = was.version;
        states = was.states;
        first = was.first;
        sources = was.sources;
        cancelled = was.cancelled;
        copies = copy_sound;
        rising = was.rising;
        primary = was.primary;
        needed = was.needed;
        size = size;
        time = was.time;
        base = was.base;
      }

    image_sound : (image : Image) → Contains old.images image → IsSoundImage book sets (image_over c l image)
    image_sound image among =
        let one = of_entries images image.entry (subst (λ (es : List ImageRecord). Contains es image.entry) (sym kept.shape.listed) (mapped_in (λ (i : Image). i.entry) old.images image among)) in
        subst (λ (e : ImageRecord). IsSoundImage book sets (record { entry = e; bytes = bytes_by c l e e.copies })) one.2
        (over_sound one.0 (sound.images one.0 one.1) (subst (λ (e : ImageRecord). IsPlaced l e) (sym one.2) (kept.images image among)))

    count_images : length images ≡ length (map (image_over c l) old.images)
    count_images =
        sym (length-map images (λ (i : Image). i.entry)) ∙ ap (λ (es : List ImageRecord). length es) (kept.shape.listed ∙ sym (entries_over old.images)) ∙ length-map (map (image_over c l) old.images) (λ (i : Image). i.entry)

    count_sets : length sets ≡ length kept.shape.stored
    count_sets =
        sym (length-map sets (λ (s : Stored). s.unit)) ∙ ap (λ (units : List (List ℕ)). length units) (units_over old.stored ∙ sym kept.shape.units) ∙ length-map kept.shape.stored (λ (s : Stored). s.unit)

    -- whatever bytes the pools have, where they are true
    pub over_is_sound : Sound (state_over c l)
    over_is_sound = record {
      ids = subst AreById (kept.shape.listed ∙ sym (entries_over old.images)) sound.ids;
      images = λ image among.
          let one = in_mapped (image_over c l) old.images image among in
          subst (λ (i : Image). IsSoundImage book sets i) one.2 (image_sound one.0 one.1);
      few_images = subst (λ (n : ℕ). n ≤ image_limit) count_images sound.few_images;
      own_sets = λ u among. units_alike old.stored sets (sym (units_over old.stored)) u (own_set l kept u among);
      no_others = count_sets ∙ sound.no_others;
      sets = λ set among.
          let one = in_mapped (set_over c l) old.stored set among in
          subst (λ (s : Stored). IsSoundSet book s) one.2 (set_sound one.0 one.1);
      site = sound.site;
      no_jobs = sound.no_jobs;
      next_job = sound.next_job;
    }

-- Images of disks.

read_so : (o : Result Ledger ℕ) (l : Ledger) → result_ok o ≡ Some l → o ≡ Ok l
read_so (Ok k) l some = let same : k ≡ l = cc some in ap (λ (m : Ledger). Ok m) same
read_so (Err offset) l none = absurd (cc none)

stands_sound : (c : DiskImage) (s : State) → stands c ≡ Some s → Sound s
stands_sound c s is =
    let read = chained (state_where c) (result_ok (journal_reads c)) s is in
    let l = read.0 in
    let done = guarded (are_true c l l.outline.stored) (Some (state_over c l)) s read.2 in
    let same : state_over c l ≡ s = cc done.1 in
    subst Sound same (over_is_sound c l (journal_kept c l (read_so (journal_reads c) l read.1)) done.0)

-- whatever an image of a disk stands for is sound, and each copy that is kept in it restores the bytes of its image
pub vault_sound : (c : DiskImage) (s : State) → stands c ≡ Some s → Sound s × KeepsCopies s
vault_sound c s is = let sound = stands_sound c s is in (sound, keeps_copies s sound)

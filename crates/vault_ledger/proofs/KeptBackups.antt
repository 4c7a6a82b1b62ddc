-- A backup that fits leaves what a ledger says in order.
use Rattle.desk_model.proofs.Common.{◌≡◌, ◌≤◌, ◌<◌, ◌∙◌, ℕ, zero, suc, Bool, true, false, List, [], ◌∷◌, ◌++◌, map, replicate, refl, sym, ap, subst, arith, Some, cond, find, not, ◌&&◌, ◌==◌, nat_le, nat_lt, if◌then◌else◌, Contains, option_map_or, bytes_eq, false≢true, and_parts, bytes_eq-Decides, nat_tests, text_is, BackupId, has, Book, unit_name, same_id, with_record, pieces, State, Image, Stored, has_image, with_stored, operations_in, sealed, Sound}
use Rattle.std.proofs.Common.{⊎_elim}
use Rattle.std.proofs.lemmas.List.{append-nil, length-replicate}
use Rattle.std.proofs.lemmas.List.Elements.{Contains-append_cases}
use Rattle.std.proofs.lemmas.List.Folds.{list_any_at}
use Rattle.site_types.specs.declared.image.Expiry.TheVariants as expiry
use Rattle.site_types.specs.declared.image.ImageRecord.{ImageRecord}
use Rattle.pool_journal.specs.declared.entry.WholeImage.{WholeImage}
use Rattle.pool_journal.specs.declared.segments.NewSegment.{NewSegment}
use Rattle.pool_journal.specs.declared.segments.Segments.{Segments}
use Rattle.desk_model.proofs.ImageLists.{each-with, entries-with, same_is, same_self}
use Rattle.desk_model.proofs.RuleLemmas.{are_sealed, rules_hold}
use Rattle.desk_model.proofs.SealSound.{Fits}
use Rattle.desk_model.proofs.StoredLemmas.{more_in}
use Rattle.vault_ledger.specs.Fitting.{image_fits, whole_entry, whole_image, whole_unit}
use Rattle.vault_ledger.specs.Ledger.{Ledger, LiveSlot, Placement, added_fit, backup_fits, has_slot, live_on, pieces_fit, segment_of, segments_fit, slot_limit, slots_of, with_backup}
use Rattle.vault_ledger.specs.Wellformed.{AreApart, AreSlots, IsLedger, IsLive, IsPlaced, Shape, set_units}
use Rattle.vault_ledger.proofs.FittingImages.{fits_by, fits_same, whole_sound}
use Rattle.vault_ledger.proofs.SealedStates.{live_more, stored_none}
use Rattle.vault_ledger.proofs.SlotPieces.{added_slots}
use Rattle.vault_ledger.proofs.SpelledPieces.{fit_more}

-- an element of a list of values is one of these
pub in_mapped : {A B : Type 0} (f : A → B) (xs : List A) (y : B) → Contains (map f xs) y → (x : A) × Contains xs x × (f x ≡ y)
in_mapped f [] y (k, lt, is) = absurd (omega arith)
in_mapped f (x ∷ xs) y (zero, lt, is) = (x, (zero, omega arith, refl), is)
in_mapped f (x ∷ xs) y (suc k, lt, is) =
    let found = in_mapped f xs y (k, omega arith, is) in
    (found.0, (suc found.1.0, let inside = found.1.1 in omega (arith, inside), found.1.2), found.2)

-- a set with more pieces is of the same unit
set_units_stored : (unit : List ℕ) (more : List (List ℕ)) (sets : List Stored) → set_units (with_stored unit more sets) ≡ set_units sets
set_units_stored unit more [] = refl
set_units_stored unit more (set ∷ sets) = at (bytes_eq set.unit unit) (set_units_stored unit more sets)
  where
    at : (b : Bool) → set_units (with_stored unit more sets) ≡ set_units sets → set_units (if b then more_in set more ∷ sets else set ∷ with_stored unit more sets) ≡ set.unit ∷ set_units sets
    at true rest = refl
    at false rest = ap (λ (l : List (List ℕ)). set.unit ∷ l) rest

-- Live slots.

abbrev slot_on : List ℕ → NewSegment → LiveSlot
slot_on unit s = record { unit = unit; segment = s }

-- each new segment is one that its unit may have
added_so : (size : ℕ) (known added : List NewSegment) → added_fit size known added ≡ true → (s : NewSegment) → Contains added s → (s.slot < slot_limit) × (1 ≤ s.length) × (s.length ≤ size)
added_so size known [] fits s (k, lt, is) = absurd (omega arith)
added_so size known (new ∷ added) fits s (zero, lt, is) =
    let d = and_parts (nat_lt new.slot slot_limit && nat_le 1 new.length && nat_le new.length size && not (has_slot new.slot known)) (added_fit size (known ++ new ∷ []) added) fits in
    let c = and_parts (nat_lt new.slot slot_limit && nat_le 1 new.length && nat_le new.length size) (not (has_slot new.slot known)) d.0 in
    let b = and_parts (nat_lt new.slot slot_limit && nat_le 1 new.length) (nat_le new.length size) c.0 in
    let a = and_parts (nat_lt new.slot slot_limit) (nat_le 1 new.length) b.0 in
    let slot = a.0 in
    let some = a.1 in
    let long = b.1 in
    subst (λ (t : NewSegment). (t.slot < slot_limit) × (1 ≤ t.length) × (t.length ≤ size)) is (grind (arith, nat_tests, slot), grind (arith, nat_tests, some), grind (arith, nat_tests, long))
added_so size known (new ∷ added) fits s (suc k, lt, is) =
    let rest = (and_parts (nat_lt new.slot slot_limit && nat_le 1 new.length && nat_le new.length size && not (has_slot new.slot known)) (added_fit size (known ++ new ∷ []) added) fits).1 in
    added_so size (known ++ new ∷ []) added rest s (k, omega arith, is)

-- Placements.

pub slots_own : (new : Placement) (placements : List Placement) → slots_of new.id new.copy (new ∷ placements) ≡ new.slots
slots_own new placements =
    let copy : (new.copy == new.copy) ≡ true = grind (arith, nat_tests) in
    λ i. option_map_or (λ (p : Placement). p.slots) (cond (same_self new.id i && copy i) (Some new) (find (λ p. same_id p.id new.id && p.copy == new.copy) placements)) []

pub slots_other : (new : Placement) (id : BackupId) (copy : ℕ) (placements : List Placement) → same_id new.id id ≡ false → slots_of id copy (new ∷ placements) ≡ slots_of id copy placements
slots_other new id copy placements differs =
    λ i. option_map_or (λ (p : Placement). p.slots) (cond (differs i && (new.copy == copy)) (Some new) (find (λ p. same_id p.id id && p.copy == copy) placements)) []

-- an id that isn't there is no image's
other_id : (id : BackupId) (images : List Image) (image : Image) → has_image id images ≡ false → Contains images image → same_id id image.entry.id ≡ false
other_id id images image fresh (k, lt, is) = at (same_id id image.entry.id) refl
  where
    at : (b : Bool) → same_id id image.entry.id ≡ b → b ≡ false
    at false differs = refl
    at true same =
        let test : Image → Bool = λ i. same_id i.entry.id id in
        let here : same_id image.entry.id id ≡ true = ap (λ (x : BackupId). same_id image.entry.id x) (same_is id image.entry.id same) ∙ same_self image.entry.id in
        absurd (false≢true (sym fresh ∙ list_any_at test images k image lt (ap test is ∙ here)))

module _ (l : Ledger) (kept : IsLedger l) (w : WholeImage) (segments : Segments) (fits : backup_fits l w segments ≡ true) where
  abbrev old : State
  old = l.outline

  abbrev book : Book
  book = old.site.book

  abbrev unit : List ℕ
  unit = whole_unit old w

  abbrev size : ℕ
  size = segment_of unit old

  abbrev new : Ledger
  new = with_backup w segments l

  abbrev more : List LiveSlot
  more = map (slot_on unit) segments.added

  abbrev entry : ImageRecord
  entry = whole_entry book w

  abbrev outlined : Image
  outlined = record { entry = entry; bytes = [] }

  image_so : image_fits old w ≡ true
  image_so = (and_parts (image_fits old w) (segments_fit size (live_on unit l.live) w.length segments) fits).0

  pub segments_so : (added_fit size (live_on unit l.live) segments.added ≡ true) × (pieces_fit size (live_on unit l.live ++ segments.added) w.length segments.pieces ≡ true)
  segments_so = and_parts _ _ (and_parts (image_fits old w) (segments_fit size (live_on unit l.live) w.length segments) fits).1

  pub here : Fits old entry w.completed
  here = fits_by old w image_so

  pub unit_there : has unit_name unit book.units ≡ true
  unit_there = (are_sealed book.units (operations_in w.lifecycle w.version book) (rules_hold book kept.shape.sound.site.lifecycles w.lifecycle w.version here.version)).there

  -- bytes of this length, whichever, make a sound state of the new outline
  abbrev before : State
  before = record old { images = kept.shape.images; stored = kept.shape.stored }

  abbrev bytes : List ℕ
  bytes = replicate w.length 0

  abbrev after : State
  after = sealed (whole_image before w bytes) unit before

  after_sound : Sound after
  after_sound =
      let fits_before = fits_same old kept.shape.images kept.shape.stored w kept.shape.listed ∙ image_so in
      whole_sound before kept.shape.sound w bytes (sym (length-replicate w.length 0)) fits_before

  shape_new : Shape new.outline
  shape_new = record {
    images = after.images;
    stored = after.stored;
    listed = entries-with (whole_image before w bytes) kept.shape.images ∙ ap (with_record entry) kept.shape.listed ∙ sym (entries-with outlined old.images);
    units = set_units_stored unit (pieces size bytes) kept.shape.stored ∙ kept.shape.units ∙ ap set_units (sym (stored_none unit old.stored));
    sound = after_sound;
  }

  live_new : (s : LiveSlot) → Contains new.live s → IsLive new.outline s
  live_new s among = ⊎_elim
      (λ before. let was = kept.live s before in record { unit = was.unit; slot = was.slot; some = was.some; size = was.size })
      (λ added.
      let found = in_mapped (slot_on unit) segments.added s added in
      let so = added_so size (live_on unit l.live) segments.added segments_so.0 found.0 found.1 in
      subst (λ (t : LiveSlot). IsLive new.outline t) found.2 (record { unit = unit_there; slot = so.0; some = so.1; size = so.2 }))
      (Contains-append_cases l.live more s among)

  -- those that are new there
  abbrev newly : List ℕ → List NewSegment
  newly other = if bytes_eq unit other then segments.added else []

  live_now : (other : List ℕ) → live_on other new.live ≡ live_on other l.live ++ newly other
  live_now other = live_more unit segments.added (bytes_eq unit other) other refl l.live

  slots_new : (other : List ℕ) → AreSlots (live_on other new.live)
  slots_new other = subst AreSlots (sym (live_now other)) (at (bytes_eq unit other) refl)
    where
      at : (b : Bool) → bytes_eq unit other ≡ b → AreSlots (live_on other l.live ++ (if b then segments.added else []))
      at true same = subst (λ (name : List ℕ). AreSlots (live_on name l.live ++ segments.added)) (text_is unit other same) (added_slots size (live_on unit l.live) segments.added (kept.slots unit) segments_so.0)
      at false differs = subst AreSlots (sym (append-nil (live_on other l.live))) (kept.slots other)

  -- the other images' pieces are where they were
  placed_still : (image : Image) → Contains old.images image → IsPlaced new image.entry
  placed_still image among =
      let was = kept.images image among in
      let segment = segment_of was.copy.unit old in
      let id = image.entry.id in
      record {
        copy = was.copy;
        only = was.only;
        unit = was.unit;
        pieces = ap (λ (known : List NewSegment). pieces_fit segment known image.entry.length (slots_of id was.copy.number new.placements)) (live_now was.copy.unit)
            ∙ ap (λ (slots : List ℕ). pieces_fit segment (live_on was.copy.unit l.live ++ newly was.copy.unit) image.entry.length slots) (slots_other (record { id = w.id; copy = 1; unit = unit; slots = segments.pieces }) id was.copy.number l.placements (other_id w.id old.images image here.fresh among))
            ∙ fit_more segment (live_on was.copy.unit l.live) (newly was.copy.unit) image.entry.length (slots_of id was.copy.number l.placements) was.pieces;
      }

  placed_new : IsPlaced new entry
  placed_new = record {
    copy = record { number = 1; unit = unit; completed = w.completed; expiry = expiry.Rule };
    only = refl;
    unit = unit_there;
    pieces = ap (λ (known : List NewSegment). pieces_fit size known w.length (slots_of w.id 1 new.placements)) (live_more unit segments.added true unit ((bytes_eq-Decides unit unit).1 refl) l.live)
        ∙ ap (λ (slots : List ℕ). pieces_fit size (live_on unit l.live ++ segments.added) w.length slots) (slots_own (record { id = w.id; copy = 1; unit = unit; slots = segments.pieces }) l.placements)
        ∙ segments_so.1;
  }

  pub backup_kept : IsLedger new
  backup_kept = record {
    shape = shape_new;
    no_bytes = each-with (λ (i : Image). i.bytes ≡ []) outlined old.images refl kept.no_bytes;
    no_pieces = subst (λ (sets : List Stored). (set : Stored) → Contains sets set → set.pieces ≡ []) (sym (stored_none unit old.stored)) kept.no_pieces;
    sets = subst AreApart (sym (stored_none unit old.stored)) kept.sets;
    live = live_new;
    slots = slots_new;
    images = each-with (λ (i : Image). IsPlaced new i.entry) outlined old.images placed_new placed_still;
  }

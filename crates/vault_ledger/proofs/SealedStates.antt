-- The ledger with a backup more stands for the state after the backup.
use Rattle.std.proofs.Common.{◌≡◌, ◌≢◌, ◌∙◌, ℕ, suc, Bool, true, false, List, [], ◌∷◌, ◌++◌, refl, sym, ap, subst, arith}
use Rattle.std.specs.Prelude.{map, filter, find, if◌then◌else◌, ◌==◌, ◌&&◌, ◌||◌, Some, Contains}
use Rattle.std.specs.Option.{option_map_or}
use Rattle.std.specs.Str.{bytes_eq}
use Rattle.std.proofs.lemmas.List.{append-nil, map-append}
use Rattle.std.proofs.lemmas.List.Elements.{filter-append}
use Rattle.std.proofs.lemmas.Bool.{false≢true}
use Rattle.std.proofs.lemmas.Slice.Eq.{bytes_eq-Decides}
use Rattle.site_types.specs.declared.id.BackupId.{BackupId}
use Rattle.site_types.specs.declared.image.CopyRecord.{CopyRecord}
use Rattle.site_types.specs.declared.image.ImageRecord.{ImageRecord}
use Rattle.vault_disk.specs.Disk.{Image as DiskImage}
use Rattle.pool_journal.specs.declared.entry.WholeImage.{WholeImage}
use Rattle.pool_journal.specs.declared.segments.NewSegment.{NewSegment}
use Rattle.pool_journal.specs.declared.segments.Segments.{Segments}
use Rattle.image_catalogue.specs.Images.{is_before, same_id}
use Rattle.desk_model.specs.State.{Image, Stored, with_image, with_stored, has_image}
use Rattle.desk_model.specs.Pieces.{pieces, with_pieces}
use Rattle.desk_model.specs.Backups.{sealed}
use Rattle.desk_model.proofs.ImageLists.{same_is, same_self}
use Rattle.copy_fragments.specs.Placings.{lacking}
use Rattle.vault_ledger.specs.Fitting.{whole_entry, whole_unit}
use Rattle.vault_ledger.specs.Ledger.{Ledger, LiveSlot, Placement, bytes_by, image_over, live_on, piece_in, pieces_on, pool_file, segment_of, set_over, slots_of, spelled, state_over, with_backup}
use Rattle.vault_ledger.specs.Wellformed.{AreApart}
use Rattle.vault_ledger.proofs.Lacking.{with_lacking}

-- The live slots.

module _ (unit : List ℕ) (added : List NewSegment) where
  abbrev lives : NewSegment → LiveSlot
  lives s = record { unit = unit; segment = s }

  kept_all : (b : Bool) (other : List ℕ) → bytes_eq unit other ≡ b → (more : List NewSegment) → live_on other (map lives more) ≡ (if b then more else [])
  kept_all true other is [] = refl
  kept_all false other is [] = refl
  kept_all true other is (s ∷ more) =
      ap (λ (d : Bool). map (λ (x : LiveSlot). x.segment) (if d then lives s ∷ filter (λ x. bytes_eq x.unit other) (map lives more) else filter (λ x. bytes_eq x.unit other) (map lives more))) is
      ∙ ap (λ (l : List NewSegment). s ∷ l) (kept_all true other is more)
  kept_all false other is (s ∷ more) =
      ap (λ (d : Bool). map (λ (x : LiveSlot). x.segment) (if d then lives s ∷ filter (λ x. bytes_eq x.unit other) (map lives more) else filter (λ x. bytes_eq x.unit other) (map lives more))) is
      ∙ kept_all false other is more

  pub live_more : (b : Bool) (other : List ℕ) → bytes_eq unit other ≡ b → (live : List LiveSlot) → live_on other (live ++ map lives added) ≡ live_on other live ++ (if b then added else [])
  live_more b other is live =
      ap (λ (l : List LiveSlot). map (λ (x : LiveSlot). x.segment) l) (filter-append (λ (x : LiveSlot). bytes_eq x.unit other) live (map lives added))
      ∙ map-append (λ (x : LiveSlot). x.segment) (filter (λ (x : LiveSlot). bytes_eq x.unit other) live) (filter (λ (x : LiveSlot). bytes_eq x.unit other) (map lives added))
      ∙ ap (λ (l : List NewSegment). live_on other live ++ l) (kept_all b other is added)

none_of : (a b : Bool) → (a || b) ≡ false → (a ≡ false) × (b ≡ false)
none_of false false is = (refl, refl)
none_of true b is = absurd (false≢true (sym is))
none_of false true is = absurd (false≢true (sym is))

other_id : (a b : BackupId) → same_id a b ≡ false → same_id b a ≡ false
other_id a b differs = at (same_id b a) refl
  where
    at : (d : Bool) → same_id b a ≡ d → d ≡ false
    at true same =
        let is : b ≡ a = same_is b a same in
        absurd (false≢true (sym differs ∙ ap (λ (x : BackupId). same_id a x) is ∙ same_self a))
    at false is = refl

-- new segments are behind those of their unit, and no other unit has them
pub live_grown : (unit : List ℕ) (live : List LiveSlot) (added : List NewSegment) → live_on unit (live ++ map (λ s. record { unit = unit; segment = s }) added) ≡ live_on unit live ++ added
live_grown unit live added = live_more unit added true unit ((bytes_eq-Decides unit unit).1 refl) live

pub live_same : (unit other : List ℕ) (live : List LiveSlot) (added : List NewSegment) → bytes_eq unit other ≡ false → live_on other (live ++ map (λ s. record { unit = unit; segment = s }) added) ≡ live_on other live
live_same unit other live added differs = live_more unit added false other differs live ∙ append-nil (live_on other live)

-- a set that gets nothing is as it was
pub stored_none : (unit : List ℕ) (sets : List Stored) → with_stored unit [] sets ≡ sets
stored_none unit [] = refl
stored_none unit (set ∷ sets) = at (stored_none unit sets) (bytes_eq set.unit unit)
  where
    at : with_stored unit [] sets ≡ sets → (b : Bool) → (if b then record { unit = set.unit; pieces = with_pieces set.pieces [] } ∷ sets else set ∷ with_stored unit [] sets) ≡ set ∷ sets
    at rest true = refl
    at rest false = ap (λ (l : List Stored). set ∷ l) rest

-- an image at its place, whatever is done with each
placed_by : (f : Image → Image) → ((i : Image) → (f i).entry ≡ i.entry) → (new : Image) (images : List Image) → map f (with_image new images) ≡ with_image (f new) (map f images)
placed_by f keeps new [] = refl
placed_by f keeps new (i ∷ images) =
    at (placed_by f keeps new images) (is_before new.entry.id i.entry.id)
    ∙ (λ j. if is_before (sym (keeps new) j).id (sym (keeps i) j).id then f new ∷ f i ∷ map f images else f i ∷ with_image (f new) (map f images))
  where
    at : map f (with_image new images) ≡ with_image (f new) (map f images) → (b : Bool) → map f (if b then new ∷ i ∷ images else i ∷ with_image new images) ≡ (if b then f new ∷ f i ∷ map f images else f i ∷ with_image (f new) (map f images))
    at rest true = refl
    at rest false = ap (λ (l : List Image). f i ∷ l) rest

module _ (c : DiskImage) (l : Ledger) (w : WholeImage) (segments : Segments) where
  abbrev unit : List ℕ
  unit = whole_unit l.outline w

  abbrev file : List ℕ
  file = c (pool_file unit l.outline)

  abbrev size : ℕ
  size = segment_of unit l.outline

  abbrev after : Ledger
  after = with_backup w segments l

  abbrev entry : ImageRecord
  entry = whole_entry l.outline.site.book w

  -- Images.

  other_slots : (i : ImageRecord) (n : ℕ) → same_id w.id i.id ≡ false → slots_of i.id n after.placements ≡ slots_of i.id n l.placements
  other_slots i n differs = ap (λ (b : Bool). option_map_or (λ (p : Placement). p.slots) (if b && (1 == n) then Some (record { id = w.id; copy = 1; unit = unit; slots = segments.pieces }) else find (λ p. same_id p.id i.id && p.copy == n) l.placements) []) differs

  other_bytes : (i : ImageRecord) (copies : List CopyRecord) → same_id w.id i.id ≡ false → bytes_by c after i copies ≡ bytes_by c l i copies
  other_bytes i [] differs = refl
  other_bytes i (copy ∷ copies) differs = ap (λ (slots : List ℕ). spelled (c (pool_file copy.unit l.outline)) (segment_of copy.unit l.outline) i.length slots) (other_slots i copy.number differs)

  other_images : (images : List Image) → has_image w.id images ≡ false → map (image_over c after) images ≡ map (image_over c l) images
  other_images [] lacks = refl
  other_images (i ∷ images) lacks =
      let parts = none_of (same_id i.entry.id w.id) (has_image w.id images) lacks in
      let here = other_bytes i.entry i.entry.copies (other_id i.entry.id w.id parts.0) in
      let later = other_images images parts.1 in
      λ j. record { entry = i.entry; bytes = here j } ∷ later j

  own_slots : slots_of w.id 1 after.placements ≡ segments.pieces
  own_slots = ap (λ (b : Bool). option_map_or (λ (p : Placement). p.slots) (if b && true then Some (record { id = w.id; copy = 1; unit = unit; slots = segments.pieces }) else find (λ p. same_id p.id w.id && p.copy == 1) l.placements) []) (same_self w.id)

  own_image : (bytes : List ℕ) → spelled file size w.length segments.pieces ≡ bytes → image_over c after (record { entry = entry; bytes = [] }) ≡ record { entry = entry; bytes = bytes }
  own_image bytes spells = ap (λ (b : List ℕ). record { entry = entry; bytes = b }) (ap (λ (slots : List ℕ). spelled file size w.length slots) own_slots ∙ spells)

  -- Sets.

  other_units : (set : Stored) → set.unit ≢ unit → bytes_eq unit set.unit ≡ false
  other_units set differs = at (bytes_eq unit set.unit) refl
    where
      at : (b : Bool) → bytes_eq unit set.unit ≡ b → b ≡ false
      at true same = absurd (differs (sym ((bytes_eq-Decides unit set.unit).0 same)))
      at false is = refl

  same_set : (set : Stored) → bytes_eq unit set.unit ≡ false → set_over c after set ≡ set_over c l set
  same_set set differs =
      ap (λ (segs : List NewSegment). record { unit = set.unit; pieces = map (piece_in (c (pool_file set.unit l.outline)) (segment_of set.unit l.outline)) segs })
      (live_same unit set.unit l.live segments.added differs)

  same_sets : (sets : List Stored) → ((other : Stored) → Contains sets other → other.unit ≢ unit) → map (set_over c after) sets ≡ map (set_over c l) sets
  same_sets [] differ = refl
  same_sets (set ∷ sets) differ =
      let here = same_set set (other_units set (differ set (0, omega arith, refl))) in
      let later = same_sets sets (λ other among. differ other (suc among.0, omega (arith, among.1), among.2)) in
      λ j. here j ∷ later j

  module _ (bytes : List ℕ) (lacks : lacking (pieces_on c l unit) (pieces size bytes) ≡ map (piece_in file size) segments.added) where
    own_pieces : pieces_on c after unit ≡ with_pieces (pieces_on c l unit) (pieces size bytes)
    own_pieces =
        ap (map (piece_in file size)) (live_grown unit l.live segments.added)
        ∙ map-append (piece_in file size) (live_on unit l.live) segments.added
        ∙ ap (λ (m : List (List ℕ)). pieces_on c l unit ++ m) (sym lacks)
        ∙ sym (with_lacking (pieces_on c l unit) (pieces size bytes))

    sets_sealed : (sets : List Stored) → AreApart sets → map (set_over c after) sets ≡ with_stored unit (pieces size bytes) (map (set_over c l) sets)
    sets_sealed [] apart = refl
    sets_sealed (set ∷ sets) apart = at (sets_sealed sets apart.1) (bytes_eq set.unit unit) refl
      where
        at : map (set_over c after) sets ≡ with_stored unit (pieces size bytes) (map (set_over c l) sets) → (b : Bool) → bytes_eq set.unit unit ≡ b → set_over c after set ∷ map (set_over c after) sets ≡ (if b then record { unit = set.unit; pieces = with_pieces (pieces_on c l set.unit) (pieces size bytes) } ∷ map (set_over c l) sets else set_over c l set ∷ with_stored unit (pieces size bytes) (map (set_over c l) sets))
        at rest true same =
            let name : set.unit ≡ unit = (bytes_eq-Decides set.unit unit).0 same in
            let here : pieces_on c after set.unit ≡ with_pieces (pieces_on c l set.unit) (pieces size bytes) = subst (λ (u : List ℕ). pieces_on c after u ≡ with_pieces (pieces_on c l u) (pieces size bytes)) (sym name) own_pieces in
            let later = same_sets sets (λ other among is. apart.0 other among (is ∙ sym name)) in
            λ j. record { unit = set.unit; pieces = here j } ∷ later j
        at rest false differs =
            let here = same_set set (other_units set (λ is. false≢true (sym differs ∙ (bytes_eq-Decides set.unit unit).1 is))) in
            λ j. here j ∷ rest j

    pub sealed_state : AreApart l.outline.stored → has_image w.id l.outline.images ≡ false → spelled file size w.length segments.pieces ≡ bytes
        → state_over c after ≡ sealed (record { entry = entry; bytes = bytes }) unit (state_over c l)
    sealed_state apart lacking_id spells =
        let placed : map (image_over c after) after.outline.images ≡ with_image (record { entry = entry; bytes = bytes }) (map (image_over c l) l.outline.images) =
        placed_by (image_over c after) (λ i. refl) (record { entry = entry; bytes = [] }) l.outline.images
        ∙ (λ j. with_image (own_image bytes spells j) (other_images l.outline.images lacking_id j)) in
        let sets : map (set_over c after) after.outline.stored ≡ with_stored unit (pieces size bytes) (map (set_over c l) l.outline.stored) =
        ap (map (set_over c after)) (stored_none unit l.outline.stored) ∙ sets_sealed l.outline.stored apart in
        λ j. record (after.outline) { images = placed j; stored = sets j }

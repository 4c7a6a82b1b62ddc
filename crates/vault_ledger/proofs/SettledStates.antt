-- A change of the site is the same on a ledger and on the state that it stands for.
use Rattle.std.proofs.Common.{◌≡◌, ◌∙◌, ◌+◌, ℕ, suc, Bool, true, false, List, [], ◌∷◌, ◌++◌, refl, sym, ap, arith}
use Rattle.std.specs.Prelude.{map, filter, if◌then◌else◌, None, Contains}
use Rattle.std.specs.Str.{bytes_eq}
use Rattle.std.proofs.lemmas.Bool.{false≢true}
use Rattle.std.proofs.lemmas.List.{map-append}
use Rattle.site_types.specs.declared.image.CopyRecord.{CopyRecord}
use Rattle.site_types.specs.declared.request.Request.{Request}
use Rattle.site_types.specs.declared.request.Request.TheVariants as request
use Rattle.slp_tree.proofs.ListLemmas.{text_is}
use Rattle.vault_disk.specs.Disk.{Image as DiskImage}
use Rattle.pool_journal.specs.declared.segments.NewSegment.{NewSegment}
use Rattle.policy_book.specs.Lists.{has}
use Rattle.policy_book.specs.Book.{unit_name}
use Rattle.desk_model.specs.State.{Image, Stored}
use Rattle.desk_model.specs.Refusals.{first_refusal}
use Rattle.desk_model.specs.Settings.{set_by, setting_refusals, stored_after}
use Rattle.desk_model.proofs.Passing.{all_passed}
use Rattle.vault_ledger.proofs.UnitPlaces.{places_stay}
use Rattle.vault_ledger.specs.Ledger.{Ledger, LiveSlot, bytes_by, image_over, live_on, piece_in, pool_file, segment_of, set_over, slots_of, spelled, state_over, with_outline}

-- the units of copies, sets and live slots are there
pub record AreThere (l : Ledger) : Type 0 where
  pub copies : (image : Image) → Contains l.outline.images image → (copy : CopyRecord) → Contains image.entry.copies copy → has unit_name copy.unit l.outline.site.book.units ≡ true
  pub sets : (set : Stored) → Contains l.outline.stored set → has unit_name set.unit l.outline.site.book.units ≡ true
  pub slots : (s : LiveSlot) → Contains l.live s → has unit_name s.unit l.outline.site.book.units ≡ true

module _ (c : DiskImage) (l : Ledger) (there : AreThere l) (r : Request) (none : first_refusal (setting_refusals r l.outline) ≡ None) where
  abbrev after : Ledger
  after = with_outline l (set_by r l.outline)

  same_image : (image : Image) → Contains l.outline.images image → image_over c l image ≡ image_over c after image
  same_image image among = ap (λ (b : List ℕ). record { entry = image.entry; bytes = b }) (at image.entry.copies (there.copies image among))
    where
      at : (copies : List CopyRecord) → ((copy : CopyRecord) → Contains copies copy → has unit_name copy.unit l.outline.site.book.units ≡ true) → bytes_by c l image.entry copies ≡ bytes_by c after image.entry copies
      at [] known = refl
      at (copy ∷ copies) known =
          ap (λ (p : ℕ × ℕ × ℕ). spelled (c (2 + p.0)) p.1 image.entry.length (slots_of image.entry.id copy.number l.placements)) (sym (places_stay r l.outline none copy.unit (known copy (0, omega arith, refl))).1)

  same_images : (images : List Image) → ((i : Image) → Contains images i → Contains l.outline.images i) → map (image_over c l) images ≡ map (image_over c after) images
  same_images [] among = refl
  same_images (i ∷ images) among =
      let here = same_image i (among i (0, omega arith, refl)) in
      let later = same_images images (λ j has. among j (suc has.0, omega (arith, has.1), has.2)) in
      λ k. here k ∷ later k

  same_sets : (sets : List Stored) → ((set : Stored) → Contains sets set → Contains l.outline.stored set) → map (set_over c l) sets ≡ map (set_over c after) sets
  same_sets [] among = refl
  same_sets (set ∷ sets) among =
      let here = ap (λ (p : ℕ × ℕ × ℕ). record { unit = set.unit; pieces = map (piece_in (c (2 + p.0)) p.1) (live_on set.unit l.live) }) (sym (places_stay r l.outline none set.unit (there.sets set (among set (0, omega arith, refl)))).1) in
      let later = same_sets sets (λ other has. among other (suc has.0, omega (arith, has.1), has.2)) in
      λ k. here k ∷ later k

  -- a unit that isn't there has no live slots
  pub none_live : (name : List ℕ) (live : List LiveSlot) → ((s : LiveSlot) → Contains live s → has unit_name s.unit l.outline.site.book.units ≡ true) → has unit_name name l.outline.site.book.units ≡ false → live_on name live ≡ []
  none_live name [] known new = refl
  none_live name (s ∷ live) known new = at (none_live name live (λ t has. known t (suc has.0, omega (arith, has.1), has.2)) new) (bytes_eq s.unit name) refl
    where
      at : live_on name live ≡ [] → (b : Bool) → bytes_eq s.unit name ≡ b → map (λ (t : LiveSlot). t.segment) (if b then s ∷ filter (λ t. bytes_eq t.unit name) live else filter (λ t. bytes_eq t.unit name) live) ≡ []
      at rest true same = absurd (false≢true (sym new ∙ ap (λ (n : List ℕ). has unit_name n l.outline.site.book.units) (sym (text_is s.unit name same)) ∙ known s (0, omega arith, refl)))
      at rest false differs = rest

-- a unit that is added has an empty set, and the other sets stay
sets_settled : (c : DiskImage) (l : Ledger) (there : AreThere l) (r : Request) (none : first_refusal (setting_refusals r l.outline) ≡ None)
    → stored_after r (map (set_over c l) l.outline.stored) ≡ map (set_over c (with_outline l (set_by r l.outline))) (stored_after r l.outline.stored)
sets_settled c l there (request.UnitAdd name capacity segment fragment slots high low) none =
    (λ k. same_sets c l there r none l.outline.stored (λ s has. has) k ++ empty k ∷ [])
    ∙ sym (map-append (set_over c (with_outline l (set_by r l.outline))) l.outline.stored (record { unit = name; pieces = [] } ∷ []))
  where
    r : Request
    r = request.UnitAdd name capacity segment fragment slots high low

    fresh : has unit_name name l.outline.site.book.units ≡ false
    fresh = (all_passed (setting_refusals r l.outline) none).1.0

    empty : record { unit = name; pieces = [] } ≡ set_over c (with_outline l (set_by r l.outline)) (record { unit = name; pieces = [] })
    empty = ap (λ (segments : List NewSegment). record { unit = name; pieces = map (piece_in (c (pool_file name (set_by r l.outline))) (segment_of name (set_by r l.outline))) segments }) (sym (none_live c l there r none name l.live there.slots fresh))
sets_settled c l there r none = same_sets c l there r none l.outline.stored (λ s has. has)

pub settled_over : (c : DiskImage) (l : Ledger) (there : AreThere l) (r : Request) → first_refusal (setting_refusals r l.outline) ≡ None → set_by r (state_over c l) ≡ state_over c (with_outline l (set_by r l.outline))
settled_over c l there r none =
    let images = same_images c l there r none l.outline.images (λ i has. has) in
    let sets = sets_settled c l there r none in
    λ k. record (set_by r l.outline) { images = images k; stored = sets k }

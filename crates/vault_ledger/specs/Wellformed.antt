-- What holds of each ledger that a journal says.
use Rattle.std.specs.Prelude.{◌≡◌, ◌≢◌, ◌≤◌, ◌<◌, ℕ, true, false, List, [], ◌∷◌, map, Some, Contains}
use Rattle.site_types.specs.declared.image.CopyRecord.{CopyRecord}
use Rattle.site_types.specs.declared.image.ImageRecord.{ImageRecord}
use Rattle.segment_pool.specs.Slots.{PoolState, held}
use Rattle.segment_pool.specs.declared.slot.Slot.{Slot}
use Rattle.pool_journal.specs.declared.segments.NewSegment.{NewSegment}
use Rattle.policy_book.specs.Lists.{has}
use Rattle.policy_book.specs.Book.{unit_name}
use Rattle.desk_model.specs.State.{State, Image, Stored, entries}
use Rattle.desk_model.specs.Sound.{Sound}
use Rattle.vault_ledger.specs.Ledger.{LiveSlot, Ledger, has_slot, live_on, pieces_fit, pool_file, segment_of, slot_limit, slots_of}

-- the units of sets
abbrev pub set_units : List Stored → List (List ℕ)
set_units sets = map (λ set. set.unit) sets

-- a sound state of this outline: its images are the same but for their bytes, and its sets those of the same units
pub record Shape (outline : State) : Type 0 where
  pub images : List Image
  pub stored : List Stored
  pub listed : entries images ≡ entries outline.images
  pub units : set_units stored ≡ set_units outline.stored
  pub sound : Sound (record outline { images = images; stored = stored })

-- the unit of a live slot is in the book, its number is below the limit, and its piece has from one byte to a segment's
pub record IsLive (outline : State) (s : LiveSlot) : Type 0 where
  pub unit : has unit_name s.unit outline.site.book.units ≡ true
  pub slot : s.segment.slot < slot_limit
  pub some : 1 ≤ s.segment.length
  pub size : s.segment.length ≤ segment_of s.unit outline

-- an image has one copy, whose unit is in the book; its pieces stand in live slots of that unit
pub record IsPlaced (l : Ledger) (image : ImageRecord) : Type 0 where
  pub copy : CopyRecord
  pub only : image.copies ≡ copy ∷ []
  pub unit : has unit_name copy.unit l.outline.site.book.units ≡ true
  pub pieces : pieces_fit (segment_of copy.unit l.outline) (live_on copy.unit l.live) image.length (slots_of image.id copy.number l.placements) ≡ true

-- no two segments have one slot
abbrev pub AreSlots : List NewSegment → Type 0
AreSlots [] = Unit {0}
AreSlots (s ∷ more) = (has_slot s.slot more ≡ false) × AreSlots more

-- no two sets are of one unit
abbrev pub AreApart : List Stored → Type 0
AreApart [] = Unit {0}
AreApart (set ∷ sets) = ((other : Stored) → Contains sets other → other.unit ≢ set.unit) × AreApart sets

-- the outline is that of a sound state; its images and its sets have no bytes of their own; each unit has one set; each live slot is one that its unit may have, and no two of a unit are one; and the pieces of each image are there
pub record IsLedger (l : Ledger) : Type 0 where
  pub shape : Shape l.outline
  pub no_bytes : (image : Image) → Contains l.outline.images image → image.bytes ≡ []
  pub no_pieces : (set : Stored) → Contains l.outline.stored set → set.pieces ≡ []
  pub sets : AreApart l.outline.stored
  pub live : (s : LiveSlot) → Contains l.live s → IsLive l.outline s
  pub slots : (unit : List ℕ) → AreSlots (live_on unit l.live)
  pub images : (image : Image) → Contains l.outline.images image → IsPlaced l image.entry

-- the pool is that of a unit in the book, and each of the unit's live slots is held there with its length
pub record IsPoolOf (l : Ledger) (unit : List ℕ) (pool : PoolState) : Type 0 where
  pub there : has unit_name unit l.outline.site.book.units ≡ true
  pub file : pool.file ≡ pool_file unit l.outline
  pub size : pool.size ≡ segment_of unit l.outline
  pub live : (s : NewSegment) → Contains (live_on unit l.live) s → (what : Slot) × (held pool s.slot ≡ Some what) × (what.length ≡ s.length)

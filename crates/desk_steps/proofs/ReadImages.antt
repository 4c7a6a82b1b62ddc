-- Images of a ledger, and their bytes.
use Rattle.desk_model.proofs.Common.{◌≡◌, ◌∙◌, ◌<◌, ◌+◌, ℕ, zero, suc, Bool, true, false, List, [], ◌∷◌, length, get_or, map, refl, sym, ap, subst, arith, Option, Some, Result, Err, unwrap_or, option_map, if◌then◌else◌, take, ◌++◌, ⊎_elim, ◌||◌, false≢true, and_parts, Contains, BackupId, CopyRecord, StorageUnit, named, has, unit_name, disk0, unit_at, same_id, record_named, Image, entries, has_image, image_named}
use Rattle.std.specs.Prelude.{IfErr, is_some}
use Rattle.std.proofs.lemmas.List.{map-append, take_more}
use Rattle.std.proofs.lemmas.List.Elements.{Contains-push_cases}
use Rattle.site_types.specs.declared.image.ImageRecord.{ImageRecord}
use Rattle.vault_disk.specs.Disk.{Disk, Image as DiskImage}
use Rattle.vault_disk.specs.Steps.{LookedAround}
use Rattle.pool_journal.specs.declared.segments.NewSegment.{NewSegment}
use Rattle.copy_fragments.specs.declared.whole_copy.CopyFault.{CopyFault}
use Rattle.copy_fragments.specs.declared.whole_copy.CopyFault.TheVariants as fault
use Rattle.policy_book.specs.Book.{Book}
use Rattle.desk_model.specs.Restores.{bytes_of}
use Rattle.vault_ledger.specs.Ledger.{Ledger, are_true, are_whole, image_over, is_whole, live_on, pool_file, segment_of}
use Rattle.vault_ledger.specs.Storage.{IsCopyOn, ReadingFails}
use Rattle.vault_ledger.specs.Wellformed.{IsLedger, IsPlaced}
use Rattle.vault_ledger.proofs.SoundLedgers.{true_unit}
use Rattle.desk_index.specs.Index.{IsIndexOf}
use Rattle.desk_index.specs.declared.index.Index.{Index}
use Rattle.desk_steps.specs.Readings.{IsImageOf, IsUndamaged, bytes_over}

-- Images by their ids.

named_some : (id : BackupId) (images : List Image) → has_image id images ≡ true → (image : Image) × (image_named id images ≡ Some image)
named_some id [] there = absurd (false≢true there)
named_some id (i ∷ images) there = at (same_id i.entry.id id) (named_some id images) there
  where
    at : (b : Bool) → (has_image id images ≡ true → (image : Image) × (image_named id images ≡ Some image)) → (b || has_image id images) ≡ true → (image : Image) × ((if b then Some i else image_named id images) ≡ Some image)
    at true later here = (i, refl)
    at false later there = later there

pub named_has : (id : BackupId) (images : List Image) (image : Image) → image_named id images ≡ Some image → has_image id images ≡ true
named_has id [] image is = absurd (cc is)
named_has id (i ∷ images) image is = at (same_id i.entry.id id) (named_has id images image) is
  where
    at : (b : Bool) → (image_named id images ≡ Some image → has_image id images ≡ true) → (if b then Some i else image_named id images) ≡ Some image → (b || has_image id images) ≡ true
    at true later here = refl
    at false later there = later there

pub named_among : (id : BackupId) (images : List Image) (image : Image) → image_named id images ≡ Some image → Contains images image
named_among id [] image is = absurd (cc is)
named_among id (i ∷ images) image is = at (same_id i.entry.id id) (named_among id images image) is
  where
    at : (b : Bool) → (image_named id images ≡ Some image → Contains images image) → (if b then Some i else image_named id images) ≡ Some image → Contains (i ∷ images) image
    at true later here = let found : i ≡ image = cc here in (zero, omega arith, found)
    at false later there = let one = later there in (suc one.0, omega (arith, one.1), one.2)

-- what the catalogue has of it
pub record_of_named : (id : BackupId) (images : List Image) → record_named id (entries images) ≡ option_map (λ (i : Image). i.entry) (image_named id images)
record_of_named id [] = refl
record_of_named id (i ∷ images) = at (same_id i.entry.id id) (record_of_named id images)
  where
    at : (b : Bool) → record_named id (entries images) ≡ option_map (λ (x : Image). x.entry) (image_named id images) → (if b then Some i.entry else record_named id (entries images)) ≡ option_map (λ (x : Image). x.entry) (if b then Some i else image_named id images)
    at true more = refl
    at false more = more

pub named_over : (c : DiskImage) (l : Ledger) (id : BackupId) (images : List Image) → image_named id (map (image_over c l) images) ≡ option_map (image_over c l) (image_named id images)
named_over c l id [] = refl
named_over c l id (i ∷ images) = at (same_id i.entry.id id) (named_over c l id images)
  where
    at : (b : Bool) → image_named id (map (image_over c l) images) ≡ option_map (image_over c l) (image_named id images) → (if b then Some (image_over c l i) else image_named id (map (image_over c l) images)) ≡ option_map (image_over c l) (if b then Some i else image_named id images)
    at true more = refl
    at false more = more

-- its bytes, as the pools' files have them
pub bytes_named : (c : DiskImage) (l : Ledger) (id : BackupId) (image : Image) → image_named id l.outline.images ≡ Some image → (image_over c l image).bytes ≡ bytes_over c l id
bytes_named c l id image is = sym (ap bytes_of (named_over c l id l.outline.images ∙ ap (λ (o : Option Image). option_map (image_over c l) o) is))

-- An image of a ledger in order.

module _ (l : Ledger) (order : IsLedger l) (id : BackupId) where
  -- it has one copy
  pub image_there : has_image id l.outline.images ≡ true → (image : Image) × (copy : CopyRecord) × IsImageOf l id image copy
  image_there there =
      let one = named_some id l.outline.images there in
      let placed = order.images one.0 (named_among id l.outline.images one.0 one.1) in
      (one.0, placed.copy, record { image_is = one.1; only = placed.only })

  module _ (image : Image) (copy : CopyRecord) (of : IsImageOf l id image copy) where
    placed : IsPlaced l image.entry
    placed = order.images image (named_among id l.outline.images image of.image_is)

    same_copy : placed.copy ≡ copy
    same_copy = let same = sym placed.only ∙ of.only in cc same

    -- whose unit is in the book
    pub unit_known : has unit_name copy.unit l.outline.site.book.units ≡ true
    unit_known = subst (λ (c : CopyRecord). has unit_name c.unit l.outline.site.book.units ≡ true) same_copy placed.unit

    -- where the pools are true no piece of it is damaged
    pub undamaged_one : (c : DiskImage) → are_true c l l.outline.stored ≡ true → (f : CopyFault) → ReadingFails c l image.entry copy f → IsUndamaged f
    undamaged_one c all fault.NoMemory fails = tt
    undamaged_one c all fault.DiskFault fails = tt
    undamaged_one c all (fault.Damaged recorded found) fails =
        false≢true (sym fails.broken ∙ whole_of (c (pool_file copy.unit l.outline)) (segment_of copy.unit l.outline) (live_on copy.unit l.live) (true_unit c l order all copy.unit unit_known).0 fails.segment fails.piece.live)
      where
        whole_of : (file : List ℕ) (size : ℕ) (known : List NewSegment) → are_whole file size known ≡ true → (s : NewSegment) → Contains known s → is_whole file size s ≡ true
        whole_of file size [] whole s (k, lt, is) = absurd (omega arith)
        whole_of file size (t ∷ more) whole s (zero, lt, is) = ap (λ (u : NewSegment). is_whole file size u) (sym is) ∙ (and_parts (is_whole file size t) (are_whole file size more) whole).0
        whole_of file size (t ∷ more) whole s (suc k, lt, is) = whole_of file size more (and_parts (is_whole file size t) (are_whole file size more) whole).1 s (k, omega arith, is)

-- The unit of an image's copy, as the index has it.

module _ (l : Ledger) (index : Index) (is : IsIndexOf l index) (book : Book) (book_is : index.site.book ≡ book) (catalogue : List ImageRecord) (catalogue_is : index.catalogue ≡ catalogue) (id : BackupId) where
  book_same : l.outline.site.book ≡ book
  book_same = sym (ap (λ s. s.book) is.site) ∙ book_is

  module _ (image : Image) (copy : CopyRecord) (of : IsImageOf l id image copy) where
    record_there : record_named id catalogue ≡ Some image.entry
    record_there = ap (λ (es : List ImageRecord). record_named id es) (sym catalogue_is ∙ is.listed) ∙ record_of_named id l.outline.images ∙ ap (λ (o : Option Image). option_map (λ (x : Image). x.entry) o) of.image_is

    -- what is found has that copy alone
    found_copies : (found : ImageRecord) → Some found ≡ record_named id catalogue → found.copies ≡ copy ∷ []
    found_copies found at_id = let same : found ≡ image.entry = let e = at_id ∙ record_there in cc e in ap (λ (e : ImageRecord). e.copies) same ∙ of.only

    -- whose unit is there
    unit_found : (unit : StorageUnit) → Some unit ≡ named unit_name copy.unit book.units → unit ≡ unit_at copy.unit l.outline.site.book
    unit_found unit at_name = ap (λ (o : Option StorageUnit). unwrap_or o disk0) at_name ∙ ap (λ (b : Book). unit_at copy.unit b) (sym book_same)

    unit_in_book : is_some (named unit_name copy.unit book.units) ≡ true
    unit_in_book = subst (λ (b : Book). has unit_name copy.unit b.units ≡ true) book_same (unit_known l is.follows.order id image copy of)

    -- what is found has the unit of its first copy
    pub unit_first : (found : ImageRecord) → Some found ≡ record_named id catalogue → (copies : List CopyRecord) → copies ≡ found.copies → (none : CopyRecord) (unit : StorageUnit) → Some unit ≡ named unit_name (get_or copies 0 none).unit book.units
        → unit ≡ unit_at copy.unit l.outline.site.book
    unit_first found at_id copies same none unit at_name = unit_found unit (at_name ∙ ap (λ (cs : List CopyRecord). named unit_name (get_or cs 0 none).unit book.units) (same ∙ found_copies found at_id))

  module _ (there : has_image id l.outline.images ≡ true) where
    abbrev one : (image : Image) × (copy : CopyRecord) × IsImageOf l id image copy
    one = image_there l is.follows.order id there

    pub record_found : is_some (record_named id catalogue) ≡ true
    record_found = ap is_some (record_there one.0 one.1 one.2)

    pub some_copy : (found : ImageRecord) → Some found ≡ record_named id catalogue → (copy : CopyRecord) × (found.copies ≡ copy ∷ []) × (is_some (named unit_name copy.unit book.units) ≡ true)
    some_copy found at_id = (one.1, found_copies one.0 one.1 one.2 found at_id, unit_in_book one.0 one.1 one.2)

    -- the first of the copies that are found, and its unit
    pub first_unit : (found : ImageRecord) → Some found ≡ record_named id catalogue → (copies : List CopyRecord) → copies ≡ found.copies → (none : CopyRecord) → is_some (named unit_name (get_or copies 0 none).unit book.units) ≡ true
    first_unit found at_id copies same none =
        let one = some_copy found at_id in
        ap (λ (cs : List CopyRecord). is_some (named unit_name (get_or cs 0 none).unit book.units)) (same ∙ one.1) ∙ one.2

-- A read of its copy.

pub copy_on : (l : Ledger) (id : BackupId) (unit : StorageUnit) (image : Image) (copy : CopyRecord) → IsImageOf l id image copy → unit ≡ unit_at copy.unit l.outline.site.book → IsCopyOn l id unit image copy
copy_on l id unit image copy of unit_is = record { image_is = of.image_is; only = of.only; unit_is = unit_is }

pub err_is : {T E : Type 0} (r : Result T E) (e : E) (P : E → Type 0) → r ≡ Err e → P e → IfErr r P
err_is {T} {E} r e P same holds = subst (λ (x : Result T E). IfErr x P) (sym same) holds

-- A run of reads.

taken : {A : Type 0} (xs : List A) (i : ℕ) (x : A) → i < length xs → x ≡ get_or xs i x → take i xs ++ x ∷ [] ≡ take (i + 1) xs
taken {A} xs i x lt at = ap (λ (y : A). take i xs ++ y ∷ []) at ∙ sym (take_more xs i x lt)

-- one more is read
pub read_more : (f : BackupId → List ℕ) (ids : List BackupId) (i : ℕ) (id : BackupId) (read : List (List ℕ)) (bytes : List ℕ) → i < length ids → id ≡ get_or ids i id → read ≡ map f (take i ids) → bytes ≡ f id → read ++ bytes ∷ [] ≡ map f (take (i + 1) ids)
read_more f ids i id read bytes lt at was is = (λ j. was j ++ is j ∷ []) ∙ sym (map-append f (take i ids) (id ∷ [])) ∙ ap (λ (l : List BackupId). map f l) (taken ids i id lt at)

pub each_more : {A : Type 0} (P : A → Type 0) (xs : List A) (i : ℕ) (x : A) → i < length xs → x ≡ get_or xs i x → ((y : A) → Contains (take i xs) y → P y) → P x → (y : A) → Contains (take (i + 1) xs) y → P y
each_more {A} P xs i x lt at before here y among = ⊎_elim (before y) (λ is. subst P is here) (Contains-push_cases (take i xs) x y (subst (λ (l : List A). Contains l y) (sym (taken xs i x lt at)) among))

pub item_among : {A : Type 0} (xs : List A) (i : ℕ) (x : A) → i < length xs → x ≡ get_or xs i x → Contains xs x
item_among xs i x lt at = (i, lt, sym at)

-- what is read after a look round is what was read before it
pub same_seen : (old mid : Disk) → LookedAround old mid → mid.seen ≡ old.seen
same_seen old mid looked = λ i f. looked.rests.seen f i

module _ (l : Ledger) (order : IsLedger l) (id : BackupId) (there : has_image id l.outline.images ≡ true) (old mid : Disk) (looked : LookedAround old mid) where
  pub undamaged_read : are_true old.seen l l.outline.stored ≡ true → (f : CopyFault) → ((image : Image) (copy : CopyRecord) → IsImageOf l id image copy → ReadingFails mid.seen l image.entry copy f) → IsUndamaged f
  undamaged_read all f fails =
      let one = image_there l order id there in
      undamaged_one l order id one.0 one.1 one.2 mid.seen (ap (λ (c : DiskImage). are_true c l l.outline.stored) (same_seen old mid looked) ∙ all) f (fails one.0 one.1 one.2)

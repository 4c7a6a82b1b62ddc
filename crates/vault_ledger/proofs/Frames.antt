-- What a vault stands for is seen of its journal and of the bytes in its live slots.
use Rattle.desk_model.proofs.Common.{◌≡◌, ◌∙◌, ℕ, zero, suc, List, [], ◌∷◌, map, refl, sym, ap, arith, Some, None, Result, Ok, Err, ◌&&◌, if◌then◌else◌, Contains, CopyRecord, Image, Stored, option_and_then}
use Rattle.std.specs.Result.{result_ok}
use Rattle.site_types.specs.declared.image.ImageRecord.{ImageRecord}
use Rattle.vault_disk.specs.Disk.{Image as DiskImage}
use Rattle.pool_journal.specs.Records.{Reading, reading}
use Rattle.vault_ledger.specs.Ledger.{Ledger, are_distinct, are_true, bytes_by, image_over, journal_reads, ledger_of, live_on, pieces_on, pool_file, segment_of, set_over, slots_of, stands, state_over, state_where}
use Rattle.vault_ledger.specs.Wellformed.{IsLedger, IsPlaced}
use Rattle.vault_ledger.proofs.JournalLedgers.{journal_kept}
use Rattle.vault_ledger.proofs.SpelledPieces.{spelled_alike, whole_alike}

module _ (c d : DiskImage) (l : Ledger) (same : (unit : List ℕ) → pieces_on c l unit ≡ pieces_on d l unit) where
  abbrev segment : List ℕ → ℕ
  segment unit = segment_of unit l.outline

  abbrev file : DiskImage → List ℕ → List ℕ
  file disk unit = disk (pool_file unit l.outline)

  -- the pools are true alike
  pub true_alike : (sets : List Stored) → are_true c l sets ≡ are_true d l sets
  true_alike [] = refl
  true_alike (set ∷ sets) =
      let whole = whole_alike (file c set.unit) (file d set.unit) (segment set.unit) (live_on set.unit l.live) (same set.unit) in
      let rest = true_alike sets in
      λ i. (whole i && are_distinct (same set.unit i)) && rest i

  bytes_alike : (image : ImageRecord) → IsPlaced l image → bytes_by c l image image.copies ≡ bytes_by d l image image.copies
  bytes_alike image placed =
      let unit = placed.copy.unit in
      ap (λ (copies : List CopyRecord). bytes_by c l image copies) placed.only
      ∙ spelled_alike (file c unit) (file d unit) (segment unit) (live_on unit l.live) (same unit) image.length (slots_of image.id placed.copy.number l.placements) placed.pieces
      ∙ ap (λ (copies : List CopyRecord). bytes_by d l image copies) (sym placed.only)

  images_alike : (images : List Image) → ((image : Image) → Contains images image → IsPlaced l image.entry) → map (image_over c l) images ≡ map (image_over d l) images
  images_alike [] placed = refl
  images_alike (image ∷ images) placed =
      let first = bytes_alike image.entry (placed image (zero, omega arith, refl)) in
      let rest = images_alike images (λ other among. placed other (suc among.0, omega (arith, among.1), among.2)) in
      λ i. record { entry = image.entry; bytes = first i } ∷ rest i

  sets_alike : (sets : List Stored) → map (set_over c l) sets ≡ map (set_over d l) sets
  sets_alike [] = refl
  sets_alike (set ∷ sets) =
      let rest = sets_alike sets in
      λ i. record { unit = set.unit; pieces = same set.unit i } ∷ rest i

  -- and the ledger's state is the same over both
  pub over_alike : IsLedger l → state_over c l ≡ state_over d l
  over_alike kept =
      let images = images_alike l.outline.images kept.images in
      let stored = sets_alike l.outline.stored in
      λ i. record (l.outline) { images = images i; stored = stored i }

-- images of a disk with the same journal, and the same bytes in its live slots, stand for the same
pub stands_alike : (c d : DiskImage) → reading (c 0) ≡ reading (d 0) → ((l : Ledger) → journal_reads c ≡ Ok l → (unit : List ℕ) → pieces_on c l unit ≡ pieces_on d l unit) → stands c ≡ stands d
stands_alike c d journal same = at (journal_reads c) refl ∙ ap (λ (r : Reading). option_and_then (state_where d) (result_ok (ledger_of r))) journal
  where
    at : (o : Result Ledger ℕ) → journal_reads c ≡ o → option_and_then (state_where c) (result_ok o) ≡ option_and_then (state_where d) (result_ok o)
    at (Ok l) is =
        let all = true_alike c d l (same l is) l.outline.stored in
        let over = over_alike c d l (same l is) (journal_kept c l is) in
        λ i. if all i then Some (over i) else None
    at (Err offset) is = refl

-- How many bytes a record adds to a journal and to its file.
use Rattle.pool_journal.proofs.Common.{◌≡◌, ℕ, ◌+◌, ◌*◌, ◌≤◌, List, [], ◌∷◌, ◌++◌, length, refl, Ok, ap, arith, length-append, nat_tests, WroteDurably, Entry, spelled_entry, spelled_id, spelled_image, spelled_copy, IsSpellable, NewSegment, SegmentFits, Segments, spelled_segment, spelled_segments, WholeImage, Found, AtRest, header, spelled}
use Rattle.std.specs.Prelude.{All, flat_map}
use Rattle.std.proofs.lemmas.List.Elements.{All-head, All-tail}
use Rattle.site_types.specs.declared.id.BackupId.{BackupId}
use Rattle.vault_disk.specs.Disk.{Disk}
use Rattle.vault_disk.specs.MemoryLaws.{written_torn}
use Rattle.pool_journal.specs.Entries.{Grows, HasShortFields, IdFits, ImageFits, IsNamed, IsStaged}
use Rattle.pool_journal.specs.Segments.{taken_by}
use Rattle.pool_journal.proofs.Bytes.{length_staged}
use Rattle.pool_journal.proofs.Lines.{taken_of}
use Rattle.pool_journal.specs.declared.entry.Entry.TheVariants as entry

name_short : (name : List ℕ) → IsNamed name → length name ≤ 64
name_short name named = grind (arith, nat_tests)

id_short : (id : BackupId) → IdFits id → length (spelled_id id) ≤ 74
id_short id fits = simp length-append (omega (arith, name_short id.client fits.client))

image_short : (image : WholeImage) → ImageFits image → length (spelled_image image) ≤ 299
image_short image fits =
    simp length-append (omega (arith, name_short image.id.client fits.id.client, name_short image.policy fits.policy, name_short image.schedule fits.schedule, name_short image.lifecycle fits.lifecycle))

added_length : (added : List NewSegment) → All SegmentFits added → length (flat_map spelled_segment added) ≡ 40 * length added
added_length [] fit = omega arith
added_length (x ∷ added) fit = omega (arith, added_length added (All-tail SegmentFits x added fit), (All-head SegmentFits x added fit).digest, length-append (spelled_segment x) (flat_map spelled_segment added))

segments_taken : (segments : Segments) → All SegmentFits segments.added → length (spelled_segments segments) ≡ taken_by segments
segments_taken segments fit = taken_of segments segments.added refl (added_length segments.added fit)

short_fields : (e : Entry) → IsSpellable e → HasShortFields e
short_fields (entry.Settings lines) can = tt
short_fields (entry.BackupSealed image segments) can = omega (arith, image_short image can.0, segments_taken segments can.1.0, length-append (spelled_image image) (spelled_segments segments))
short_fields (entry.CopySealed id copy completed segments) can =
    omega (arith, id_short id can.0.named, segments_taken segments can.1.0, length-append (spelled_id id) (spelled_copy copy completed), length-append (spelled_id id ++ spelled_copy copy completed) (spelled_segments segments))

-- what grew by at most a staged record
pub grows : (e : Entry) (bytes : List ℕ) (old new : ℕ) → IsStaged e bytes → new ≤ old + length bytes → Grows e old new
grows e bytes old new staged le = at e (short_fields e staged.spellable) (omega (arith, le, ap length staged.is, length_staged (spelled_entry e)))
  where
    at : (e : Entry) → HasShortFields e → new ≤ old + 5 + length (spelled_entry e) → Grows e old new
    at (entry.Settings lines) short most = tt
    at (entry.BackupSealed image segments) short most = λ few. omega (arith, short, most, few)
    at (entry.CopySealed id copy completed segments) short most = λ few. omega (arith, short, most, few)

-- the two writes of an append lengthen the file by at most what is staged
pub file_grew : {T E : Type 0} (fs : List Found) (end at at' : ℕ) (bytes text : List ℕ) (old mid now : Disk) (v w : T) → AtRest old end fs → at ≡ end + 1 → at' ≡ end → bytes ≡ text → WroteDurably {T = T} {E = E} 0 at bytes old mid (Ok v)
    → WroteDurably {T = T} {E = E} 0 at' (165 ∷ []) mid now (Ok w) → length (now.seen 0) ≤ length (old.seen 0) + length text
file_grew fs end at at' bytes text old mid now v w rest at_is at_is' text_is first second =
    omega (arith, at_is, at_is', ap length text_is, ap length first.seen.inside, (written_torn (old.seen 0) at bytes).no_longer, ap length second.seen.inside, (written_torn (mid.seen 0) at' (165 ∷ [])).no_longer, rest.holds.end_is, ap length rest.holds.is, length-append (header ++ spelled rest.holds.bodies) (rest.holds.gate ∷ rest.holds.tail))

-- Reading what was spelled, field by field.
use Rattle.pool_journal.proofs.Common.{◌≡◌, ◌≢◌, inl, inr, ℕ, ◌<◌, ◌^◌, List, [], ◌∷◌, ◌++◌, length, Some, None, true, refl, sym, ◌∙◌, ap, suc, arith, append_assoc, length-append, option_and_then, option_map, nat_lt, take_at, drop_at, append-nil, nat_tests, from_be_bytes-to_be_bytes_2, from_be_bytes-to_be_bytes_4, from_be_bytes-to_be_bytes_8, w16, w32, w64, to_be_bytes, WholeImage, le-ltb, cases_eq, cond-false, string, strings, kind_code, base_code, Field, short_field, count_field, long_field, strings_field, string_field, name_field, kind_field, base_coded, base_field, both, Kind, Full, Differential, Cumulative, Base, spelled_id, spelled_names, spelled_kind_and_base, spelled_lifecycle, spelled_longs, spelled_image, spelled_settings, spelled_entry, id_made, id_field, made_under_field, taken_as_field, version_field, moments_field, settings_field, whole_image_field, entry_of, alone, backup_entry, copy_entry, AllShort, AreLines, IsFormed, IsSpellable, Entry, IdFits, many_field, counted_field, AreCounted, NewSegment, SegmentFits, Segments, SegmentsFit, SlotFits, backup_field, copied_as_field, copy_field, stored_copy_field, counted, segment_field, segment_made, segments_field, segments_made, spelled_copy, spelled_segment, spelled_segments, spelled_slot}
use Rattle.std.specs.Prelude.{All, flat_map}
use Rattle.std.proofs.lemmas.List.Elements.{All-head, All-tail}
use Rattle.site_types.specs.Fields.{bytes_field}
use Rattle.site_types.specs.declared.id.BackupId.{BackupId}
use Rattle.site_types.specs.Names.{is_name}
use Rattle.pool_journal.specs.Entries.{ImageFits}
use Rattle.site_types.specs.declared.image.Base.TheVariants as base
use Rattle.pool_journal.specs.declared.entry.Entry.TheVariants as entry

pub short-spelled : (n : ℕ) (rest : List ℕ) → n < 2 ^ 16 → short_field (to_be_bytes w16 n ++ rest) ≡ Some (n, rest)
short-spelled n rest small = cond-false (nat_lt (length (to_be_bytes w16 n ++ rest)) 2) None _ (le-ltb (length (to_be_bytes w16 n ++ rest)) 2 (omega arith)) ∙ ap (λ (k : ℕ). Some (k, rest)) (from_be_bytes-to_be_bytes_2 n small)

pub long-spelled : (n : ℕ) (rest : List ℕ) → n < 2 ^ 64 → long_field (to_be_bytes w64 n ++ rest) ≡ Some (n, rest)
long-spelled n rest small = cond-false (nat_lt (length (to_be_bytes w64 n ++ rest)) 8) None _ (le-ltb (length (to_be_bytes w64 n ++ rest)) 8 (omega arith)) ∙ ap (λ (k : ℕ). Some (k, rest)) (from_be_bytes-to_be_bytes_8 n small)

pub string-spelled : (text rest : List ℕ) → length text < 2 ^ 16 → string_field (string text ++ rest) ≡ Some (text, rest)
string-spelled text rest small =
    let long = le-ltb (length (text ++ rest)) (length text) (omega (arith, length-append text rest)) in
    rw (short-spelled (length text) (text ++ rest) small, long, take_at text rest (length text) refl, drop_at text rest (length text) refl) refl

pub name-spelled : (name rest : List ℕ) → is_name name ≡ true → name_field (string name ++ rest) ≡ Some (name, rest)
name-spelled name rest is =
    let small : length name < 2 ^ 16 = grind (arith, nat_tests) in
    rw (string-spelled name rest small, is) refl

pub kind-spelled : (kind : Kind) (rest : List ℕ) → kind_field (kind_code kind ∷ rest) ≡ Some (kind, rest)
kind-spelled Full rest = refl
kind-spelled Differential rest = refl
kind-spelled Cumulative rest = refl

base_read : (b : Base) (rest : List ℕ) → b ≢ base.Time 0 → base_coded (base_code b, rest) ≡ Some (b, rest)
base_read base.None rest formed = refl
base_read (base.Time t) rest formed = elim (cases_eq t 0) [
  | inl zero_time ↦ absurd (formed (ap base.Time zero_time))
  | inr some ↦ grind (arith, nat_tests)
]

pub base-spelled : (b : Base) (rest : List ℕ) → b ≢ base.Time 0 → base_code b < 2 ^ 64 → base_field (to_be_bytes w64 (base_code b) ++ rest) ≡ Some (b, rest)
base-spelled b rest formed small = rw (long-spelled (base_code b) rest small) (base_read b rest formed)

pub both-spelled : {A B : Type 0} (f : Field A) (g : Field B) (a : A) (b : B) (x y rest : List ℕ) → f (x ++ (y ++ rest)) ≡ Some (a, y ++ rest) → g (y ++ rest) ≡ Some (b, rest) → both f g ((x ++ y) ++ rest) ≡ Some ((a, b), rest)
both-spelled f g a b x y rest first second = rw (append_assoc x y rest, first, second) refl

id-spelled : (id : BackupId) (rest : List ℕ) → IdFits id → id_field (spelled_id id ++ rest) ≡ Some (id, rest)
id-spelled id rest fits =
    ap (option_map id_made) (both-spelled name_field long_field id.client id.time (string id.client) (to_be_bytes w64 id.time) rest (name-spelled _ _ fits.client) (long-spelled _ _ fits.time))

pub image-spelled : (image : WholeImage) (rest : List ℕ) → ImageFits image → image.base ≢ base.Time 0 → whole_image_field (spelled_image image ++ rest) ≡ Some (image, rest)
image-spelled image rest can formed =
    let a : List ℕ = spelled_id image.id in
    let b : List ℕ = spelled_names image.policy image.schedule in
    let c : List ℕ = spelled_kind_and_base image.kind image.base in
    let d : List ℕ = spelled_lifecycle image.lifecycle image.version in
    let e : List ℕ = spelled_longs image.completed image.length in
    let regroup : (a ++ b ++ c ++ d ++ e) ++ rest ≡ a ++ (b ++ (c ++ (d ++ (e ++ rest)))) =
    append_assoc (a ++ b ++ c ++ d) e rest ∙ append_assoc (a ++ b ++ c) d (e ++ rest) ∙ append_assoc (a ++ b) c (d ++ (e ++ rest)) ∙ append_assoc a b (c ++ (d ++ (e ++ rest))) in
    let id : id_field (a ++ (b ++ (c ++ (d ++ (e ++ rest))))) ≡ Some (image.id, b ++ (c ++ (d ++ (e ++ rest)))) = id-spelled image.id _ can.id in
    let under : made_under_field (b ++ (c ++ (d ++ (e ++ rest)))) ≡ Some ((image.policy, image.schedule), c ++ (d ++ (e ++ rest))) =
    both-spelled name_field name_field image.policy image.schedule (string image.policy) (string image.schedule) _ (name-spelled _ _ can.policy) (name-spelled _ _ can.schedule) in
    let taken : taken_as_field (c ++ (d ++ (e ++ rest))) ≡ Some ((image.kind, image.base), d ++ (e ++ rest)) =
    both-spelled kind_field base_field image.kind image.base (kind_code image.kind ∷ []) (to_be_bytes w64 (base_code image.base)) _ (kind-spelled image.kind _) (base-spelled image.base _ formed can.base) in
    let version : version_field (d ++ (e ++ rest)) ≡ Some ((image.lifecycle, image.version), e ++ rest) =
    both-spelled name_field short_field image.lifecycle image.version (string image.lifecycle) (to_be_bytes w16 image.version) _ (name-spelled _ _ can.lifecycle) (short-spelled _ _ can.version) in
    let moments : moments_field (e ++ rest) ≡ Some ((image.completed, image.length), rest) =
    both-spelled long_field long_field image.completed image.length (to_be_bytes w64 image.completed) (to_be_bytes w64 image.length) _ (long-spelled _ _ can.completed) (long-spelled _ _ can.length) in
    let read : whole_image_field (a ++ (b ++ (c ++ (d ++ (e ++ rest))))) ≡ Some (image, rest) = rw (id, under, taken, version, moments) refl in
    ap whole_image_field regroup ∙ read

pub count-spelled : (n : ℕ) (rest : List ℕ) → n < 2 ^ 32 → count_field (to_be_bytes w32 n ++ rest) ≡ Some (n, rest)
count-spelled n rest small = cond-false (nat_lt (length (to_be_bytes w32 n ++ rest)) 4) None _ (le-ltb (length (to_be_bytes w32 n ++ rest)) 4 (omega arith)) ∙ ap (λ (k : ℕ). Some (k, rest)) (from_be_bytes-to_be_bytes_4 n small)

pub strings-spelled : (texts : List (List ℕ)) (rest : List ℕ) → AllShort texts → strings_field (length texts) (strings texts ++ rest) ≡ Some (texts, rest)
strings-spelled [] rest short = refl
strings-spelled (text ∷ texts) rest short =
    let read : strings_field (suc (length texts)) (string text ++ (strings texts ++ rest)) ≡ Some (text ∷ texts, rest) = rw (string-spelled text (strings texts ++ rest) short.0, strings-spelled texts rest short.1) refl in
    ap (strings_field (suc (length texts))) (append_assoc (string text) (strings texts) rest) ∙ read

pub settings-spelled : (lines : List (List ℕ)) → AreLines lines → settings_field (spelled_settings lines) ≡ Some (lines, [])
settings-spelled lines are =
    rw (count-spelled (length lines) (strings lines) are.0) (ap (strings_field (length lines)) (sym (append-nil (strings lines))) ∙ strings-spelled lines [] are.1)

-- so many things, and behind their number
many-spelled : {A : Type 0} (field : Field A) (spelled : A → List ℕ) (P : A → Type 0) → ((x : A) (rest : List ℕ) → P x → field (spelled x ++ rest) ≡ Some (x, rest))
    → (xs : List A) (rest : List ℕ) → All P xs → many_field field (length xs) (flat_map spelled xs ++ rest) ≡ Some (xs, rest)
many-spelled field spelled P each [] rest all = refl
many-spelled field spelled P each (x ∷ xs) rest all =
    let read : many_field field (suc (length xs)) (spelled x ++ (flat_map spelled xs ++ rest)) ≡ Some (x ∷ xs, rest) = rw (each x (flat_map spelled xs ++ rest) (All-head P x xs all), many-spelled field spelled P each xs rest (All-tail P x xs all)) refl in
    ap (many_field field (suc (length xs))) (append_assoc (spelled x) (flat_map spelled xs) rest) ∙ read

counted-spelled : {A : Type 0} (field : Field A) (spelled : A → List ℕ) (P : A → Type 0) → ((x : A) (rest : List ℕ) → P x → field (spelled x ++ rest) ≡ Some (x, rest))
    → (xs : List A) (rest : List ℕ) → length xs < 2 ^ 32 → All P xs → counted_field field (counted spelled xs ++ rest) ≡ Some (xs, rest)
counted-spelled field spelled P each xs rest small all =
    ap (counted_field field) (append_assoc (to_be_bytes w32 (length xs)) (flat_map spelled xs) rest) ∙ rw (count-spelled (length xs) (flat_map spelled xs ++ rest) small) (many-spelled field spelled P each xs rest all)

digest-spelled : (digest rest : List ℕ) → length digest ≡ 32 → bytes_field 32 (digest ++ rest) ≡ Some (digest, rest)
digest-spelled digest rest is =
    let long = le-ltb (length (digest ++ rest)) 32 (omega (arith, length-append digest rest, is)) in
    rw (long, take_at digest rest 32 is, drop_at digest rest 32 is) refl

segment-spelled : (segment : NewSegment) (rest : List ℕ) → SegmentFits segment → segment_field (spelled_segment segment ++ rest) ≡ Some (segment, rest)
segment-spelled segment rest fits =
    let slot : List ℕ = to_be_bytes w32 segment.slot in
    let size : List ℕ = to_be_bytes w32 segment.length in
    let numbers = both-spelled count_field count_field segment.slot segment.length slot size (segment.digest ++ rest) (count-spelled _ _ fits.slot) (count-spelled _ _ fits.size) in
    ap (option_map segment_made) (both-spelled (both count_field count_field) (bytes_field 32) (segment.slot, segment.length) segment.digest (slot ++ size) segment.digest rest numbers (digest-spelled segment.digest rest fits.digest))

segments-spelled : (segments : Segments) (rest : List ℕ) → AreCounted segments → SegmentsFit segments → segments_field (spelled_segments segments ++ rest) ≡ Some (segments, rest)
segments-spelled segments rest few fit =
    let added : List ℕ = counted spelled_segment segments.added in
    let pieces : List ℕ = counted spelled_slot segments.pieces in
    ap (option_map segments_made) (both-spelled (counted_field segment_field) (counted_field count_field) segments.added segments.pieces added pieces rest
    (counted-spelled segment_field spelled_segment SegmentFits segment-spelled segments.added (pieces ++ rest) few.0 fit.0)
    (counted-spelled count_field spelled_slot SlotFits count-spelled segments.pieces rest few.1 fit.1))

backup-spelled : (image : WholeImage) (segments : Segments) (rest : List ℕ) → IsSpellable (entry.BackupSealed image segments) → image.base ≢ base.Time 0 → AreCounted segments → backup_field ((spelled_image image ++ spelled_segments segments) ++ rest) ≡ Some ((image, segments), rest)
backup-spelled image segments rest can formed few =
    both-spelled whole_image_field segments_field image segments (spelled_image image) (spelled_segments segments) rest (image-spelled image _ can.0 formed) (segments-spelled segments rest few can.1)

copied_as-spelled : (copy completed : ℕ) (rest : List ℕ) → completed < 2 ^ 64 → copied_as_field (spelled_copy copy completed ++ rest) ≡ Some ((copy, completed), rest)
copied_as-spelled copy completed rest small = rw (long-spelled completed rest small) refl

copy-spelled : (id : BackupId) (copy completed : ℕ) (segments : Segments) (rest : List ℕ) → IsSpellable (entry.CopySealed id copy completed segments) → AreCounted segments
    → stored_copy_field ((spelled_id id ++ spelled_copy copy completed ++ spelled_segments segments) ++ rest) ≡ Some (((id, (copy, completed)), segments), rest)
copy-spelled id copy completed segments rest can few =
    let named : copy_field ((spelled_id id ++ spelled_copy copy completed) ++ (spelled_segments segments ++ rest)) ≡ Some ((id, (copy, completed)), spelled_segments segments ++ rest) =
    both-spelled id_field copied_as_field id (copy, completed) (spelled_id id) (spelled_copy copy completed) _ (id-spelled id _ can.0.named) (copied_as-spelled copy completed _ can.0.moment) in
    both-spelled copy_field segments_field (id, (copy, completed)) segments (spelled_id id ++ spelled_copy copy completed) (spelled_segments segments) rest named (segments-spelled segments rest few can.1)

-- a body spells its entry
pub entry_of-spelled : (e : Entry) → IsSpellable e → IsFormed e → entry_of (spelled_entry e) ≡ Some e
entry_of-spelled (entry.Settings lines) can formed = rw (settings-spelled lines formed) refl
entry_of-spelled (entry.BackupSealed image segments) can formed =
    ap (option_and_then (alone backup_entry)) (ap backup_field (sym (append-nil (spelled_image image ++ spelled_segments segments))) ∙ backup-spelled image segments [] can formed.1 formed.0)
entry_of-spelled (entry.CopySealed id copy completed segments) can formed =
    ap (option_and_then (alone copy_entry)) (ap stored_copy_field (sym (append-nil (spelled_id id ++ spelled_copy copy completed ++ spelled_segments segments))) ∙ copy-spelled id copy completed segments [] can formed)

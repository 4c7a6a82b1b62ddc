-- The names that most proofs here cite, passed on from one place.
pub use Rattle.std.proofs.Common.{◌≡◌, ◌≢◌, inl, ℕ, ◌+◌, ◌<◌, ◌^◌, List, [], ◌∷◌, ◌++◌, length, drop, Some, sym, ◌∙◌, ap, subst, arith, Ok, length-append, Result, inr, zero, suc, ◌-◌, ◌*◌, ◌≤◌, min, take, replicate, get_or, refl, append_assoc, take-append-drop, add-zero, if◌then◌else◌, nat_lt, nat_le, ◌==◌, None, Err, Option, option_and_then, OnOk, true, option_map, take_at, drop_at, append-nil, Contains, ◌⊎◌, lit<, nat_eq, false, Bool, lt-ltb, ne_eqb, le-leb, le-ltb, rules, ⊎_elim, length-drop, slice_index_or}
pub use Rattle.vault_disk.specs.Steps.{written, Torn, Changes, IsDurable, WroteDurably, ReadsFully, WasCut, Synced, LookedAround}
pub use Rattle.std.proofs.lemmas.Bool.Decides.{nat_tests, Decides-eqb}
pub use Rattle.std.specs.Int.{Width, w16, w32, w64, byte_len, to_be_bytes, from_be_bytes}
pub use Rattle.std.specs.List.{starts_with, common_prefix_len}
pub use Rattle.std.proofs.lemmas.Nat.{from_be_bytes-to_be_bytes_4, from_be_bytes-to_be_bytes_2, from_be_bytes-to_be_bytes_8}
pub use Rattle.pool_journal.specs.declared.entry.WholeImage.{WholeImage}
pub use Rattle.pool_journal.specs.Entries.{AllShort, AreLines, Entry, IsFormed, IsSpellable, IsWritable, entry_of, id_field, id_made, made_under_field, moments_field, of_kind, settings_field, spelled_entry, spelled_id, spelled_image, spelled_kind_and_base, spelled_lifecycle, spelled_longs, spelled_names, spelled_settings, staged_record, taken_as_field, version_field, whole_image_field, alone, backup_field, backup_entry, copied_as_field, copy_field, stored_copy_field, copy_entry, spelled_copy, IsAlone, IsEntry, IdFits, CopyFits}
pub use Rattle.pool_journal.specs.Segments.{AreCounted, NewSegment, SegmentFits, Segments, SegmentsFit, SlotFits, counted, segment_field, segment_made, segments_field, segments_made, spelled_segment, spelled_segments, spelled_slot}
pub use Rattle.pool_journal.specs.Records.{AllSmall, Found, Holds, IsToldOf, Placed, Reading, Spell, behind, broken, foreign, found, header, placed, placed_of, reading, records, spelled, with_record}
pub use Rattle.pool_journal.specs.Fields.{Base, Broken, Cumulative, Differential, Field, FieldFault, Full, IsField, Kind, NoMemory, base_code, base_coded, base_field, behind_length, both, byte_field, count_field, kind_code, kind_coded, kind_field, long_field, name_field, named, short_field, string, string_field, strings, strings_field, counted_field, many_field, one_first}
pub use Rattle.pool_journal.specs.Stops.{Appended, Appending, AtRest, Begins, FromBefore, IsBeforeOrAfter, IsOpened, Leaves, OpenStops, SameReading, Stops, with_one}
pub use Rattle.std.proofs.lemmas.Bool.{cases_eq, cases_lt, cond-false, cond-true, cond_both, lt-leb}
pub use Rattle.std.proofs.lemmas.List.{drop-drop, drop_more, flat_map_more, map-append, take_all, take_more}

-- The names that most proofs here cite, passed on from one place.
pub use Rattle.std.proofs.Common.{◌≡◌, ℕ, ◌^◌, ◌<◌, true, false, cond, ltb, leb, eqb, List, ◌∷◌, ◌++◌, length, take, drop, Some, None, Result, Ok, Err, sym, ap, subst, ◌∙◌, append_assoc, arith, inl, inr, ◌&&◌, ◌+◌, suc, [], Option, refl, ◌⊎◌, map, nat_le, Contains, IfOk, ◌-◌, ◌≤◌, get_or, bytes_eq, nat_eq, Ordering, nat_cmp, is_lt, Less, Equal, Greater, take-append-drop, take_all, Bool, filter, MatchResult, IfErr, zero, flat_map, append-nil, ◌/◌}
pub use Rattle.image_kinds.specs.Streams.{Item, Taken, Kept, Entry, Format, AreItems, Breaks, FileEnds, IsBad, IsEntry, IsImage, IsItem, IsStream, PathBreaks, behind_end, behind_items, content_ends, content_length_ends, in_file, in_letters, in_path, is_tag, keeps, last_behind, last_path, letters_of, names_path, no_tag, path_ends, path_length_ends, path_of, spelled, spelled_content, spelled_entry, spelled_image, spelled_item, spelled_path, spelled_stream, taken_of, time_ends, wrong_path, wrong_path_length, wrong_tag}
pub use Rattle.std.proofs.lemmas.Bool.{lt-ltb, leb-true, eqb-true, ne_eqb, and_parts, or_parts, or_cases, cond-true, cond-false, cases_Bool, leb-false, and_from, both_ways, cond_both, cases_lt, ltb-false, ltb-true, le-ltb, or_from, false_from_ne_true}
pub use Rattle.std.specs.List.{AllByRecursion, cons_option, filter_map, starts_with}
pub use Rattle.std.proofs.lemmas.List.{length-append, append_cancel_left, flat_map_more, drop_at, drop_more, get_or-drop, get_or-take, get_or_past, length-map, length-take, map-append, take_at, take_more}
pub use Rattle.std.specs.Int.{Width, w16, w64, byte_len, from_be_bytes, to_be_bytes}
pub use Rattle.std.proofs.lemmas.Cmp.{nat_list_cmp_total, tied_itself}
pub use Rattle.image_kinds.specs.Paths.{follows, is_before, is_path, is_path_length, rise_behind}
pub use Rattle.image_kinds.specs.Trees.{AllKeepOld, AreBackups, Backup, KeepsOld, chain_of, entry_behind, images_behind, last_image, last_stream, last_taken, taken_in, tree}
pub use Rattle.image_kinds.specs.Fields.{Broken, FieldFault, IsRead, NoMemory, Read, content_at, end_at, entry_at, item_at, kept_at, number_at, path_at, path_bytes_at, path_length_at, tagged_at, taken_at, text_at, whole, ◌>>=◌}
pub use Rattle.image_kinds.specs.Images.{is_selected, item_made, made, selected}
pub use Rattle.std.proofs.lemmas.Result.{MatchResult-at_err, MatchResult-at_ok, MatchResult-weaker, err_from_is_err_and}

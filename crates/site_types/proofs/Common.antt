-- The names that most proofs here cite, passed on from one place.
pub use Rattle.std.proofs.Common.{Bool, Err, List, None, Ok, Option, Result, Some, [], ap, append_assoc, ap₂, arith, codes, cond, drop, eq-eqb, false, get_or, if◌then◌else◌, inl, inr, is_some, length, length-append, length-take, map, nat_lt, ne_eqb, neg_ℤ, negsuc, not, option_map, pos, refl, reverse, rules, subst, suc, sym, take, take-append-drop, true, unsigned_abs, unwrap_or, zero, ℕ, ℤ, ◌%◌, ◌&&◌, ◌*◌, ◌++◌, ◌+◌, ◌-◌, ◌/◌, ◌<◌, ◌^◌, ◌||◌, ◌∙◌, ◌∷◌, ◌≡◌, ◌≢◌, ◌≤◌}
pub use Rattle.std.specs.Prelude.{IfOk, IfSome, MatchOption, find, nat_le, ◌==◌}
pub use Rattle.std.specs.List.{All, after_last, before_last, flat_map, join_with_byte, list_all, list_any, position_or_len, slice_index, slice_range, slice_split, suffix_len}
pub use Rattle.std.proofs.lemmas.Bool.{and_from, and_parts, cond-true, eqb-true, false_from_ne_true, false≢true, leb-true, ltb-true, not-true, not_from_false, or_from, or_left, or_right, true≢false}
pub use Rattle.site_types.specs.Keys.{Given, Key, allows, first_bad, given_among, has_equals, has_key, has_name, is_equals, is_good, is_word, is_word_byte, key_of, key_stated, name_of, value_among, value_of}
pub use Rattle.site_types.specs.Numbers.{at_least, number_between, number_up_to}
pub use Rattle.std.specs.Fmt.{decimal}
pub use Rattle.std.specs.Str.{IsUtf8, bytes_eq}
pub use Rattle.std.proofs.lemmas.List.{append-nil, drop_more, get_or-reverse, length-reverse, map_more, take_all}
pub use Rattle.std.specs.Option.{option_and_then}
pub use Rattle.site_types.specs.ZoneWords.{offset_of, offset_text, rule_of, seconds_of, sign_of, signed, two_digits}
pub use Rattle.std.proofs.lemmas.Bool.Decides.{nat_tests}
pub use Rattle.std.proofs.lemmas.List.Folds.{drop_split, flat_map-map, list_all-append, list_any-append}
pub use Rattle.site_types.specs.Lines.{Field, IsFormed, fields_by, fields_of, is_space, line_of, word_with, words_of, words_with}
pub use Rattle.site_types.specs.Forms.{Form, Scheduling, are_marks, begins, count_of, form_among, form_named, form_names, form_of, form_words, is_one, pair_of, policy_add_of, row_stated, schedule_keys, schedule_made, schedule_of, schedule_texts, spelled, unit_add_of, unit_change_of, words_behind}
pub use Rattle.site_types.specs.Digits.{digits_of}
pub use Rattle.std.specs.Str.Parse.{ParsesUnsigned, digits_value}
pub use Rattle.std.proofs.lemmas.Slice.Eq.{bytes_eq-Decides}
pub use Rattle.site_types.specs.Joined.{each_of, is_plus, joined_of}
pub use Rattle.site_types.specs.WindowWords.{is_window, second_at, second_of, window_at, window_if, window_of, windows_of}
pub use Rattle.site_types.specs.Paths.{is_path, path_of, unwritten, written}
pub use Rattle.site_types.specs.Calendars.{calendar_item_of, calendar_of, date_if, date_of, day_of, month_day_of, week_of, weekday_item_of}
pub use Rattle.site_types.specs.CalendarTexts.{calendar_text, day_text, four_digits, item_text, month_day_text, week_text}
pub use Rattle.site_types.specs.Weekdays.{weekday_name, weekday_named}
pub use Rattle.std.proofs.lemmas.Str.{IsUtf8-from_ascii, digit_value_digit}
pub use Rattle.site_types.specs.Ids.{id_made, id_of, id_text, is_underscore}
pub use Rattle.site_types.specs.Names.{is_name, is_name_byte}
pub use Rattle.site_types.specs.declared.request.Request.{Request}
pub use Rattle.site_types.specs.WindowTexts.{clock_text, window_text, windows_text}

-- The names that most proofs here cite, passed on from one place.
pub use Rattle.std.proofs.Common.{Bool, List, [], ap, arith, codes, drop, false, get_or, length, max, min, refl, rules, subst, suc, sym, take, true, zero, ℕ, ⊎_elim, ◌++◌, ◌+◌, ◌-◌, ◌<◌, ◌∙◌, ◌∷◌, ◌≡◌, ◌≢◌, ◌≤◌}
pub use Rattle.std.specs.Prelude.{Contains, Err, None, Ok, Option, Result, Some, cond, find, fold, if◌then◌else◌, is_none, is_some, map, nat_le, nat_lt, not, option_map, replicate, slice_get, unwrap_or, ◌&&◌, ◌==◌, ◌||◌}
pub use Rattle.std.proofs.lemmas.Bool.{and_parts, false≢true, not-false, not_from_true, or_from, or_parts}
pub use Rattle.desk_model.specs.Sound.{HasSet, HasSource, IsBase, IsNumberOf, IsSoundBook, IsSoundCopy, IsSoundImage, IsSoundLifecycle, IsSoundPolicy, IsSoundSet, IsSoundUnit, KeepsCopies, Sound, given_back, has_version, operations_kept}
pub use Rattle.std.specs.Str.{bytes_eq, is_utf8}
pub use Rattle.desk_model.specs.State.{Image, Job, State, Stored, entries, has_image, image_named, initial, stored_on, with_image, with_stored}
pub use Rattle.std.proofs.lemmas.Bool.Decides.{nat_tests}
pub use Rattle.std.proofs.lemmas.List.{get_or-map, get_or_default, length-map, length-set, length-take, length_push}
pub use Rattle.std.proofs.lemmas.Slice.Eq.{bytes_eq-Decides}
pub use Rattle.policy_book.specs.Lists.{AreByName, changed, has, itself, named, put, without}
pub use Rattle.policy_book.specs.Book.{Book, Policy, adhoc, client_limit, client_name, disk0, listed_limit, manual, policy_limit, policy_name, schedule_limit, schedule_name, selection_limit, unit_limit, unit_name}
pub use Rattle.policy_book.specs.Changes.{breaks_rule_8, client_added, client_removed, clients_of, has_lifecycle, is_full, last_of, lister, policy_added, policy_removed, policy_with, schedules_of, selections_of, unit_added, unit_changed, unit_of, unit_with, with_listed, with_path, with_policy, with_schedule, without_listed, without_path, without_schedule}
pub use Rattle.desk_model.specs.Backups.{Asked, asked_of, backup_case, backup_image, backup_refusals, base_of, image_asked, image_limit, is_known, last_time, later_job, latest_version, operations_in, operations_of, policy_asked, schedule_asked, sealed, sealed_entry, states_of, takes_all, unit_at}
pub use Rattle.std.specs.List.{All, AllByRecursion, AllPairs, list_any, slice_split}
pub use Rattle.std.specs.Option.{option_and_then, option_map_or}
pub use Rattle.site_types.specs.declared.request.Request.{Request}
pub use Rattle.site_types.specs.declared.id.BackupId.{BackupId}
pub use Rattle.slp_tree.proofs.ListLemmas.{named-put, named_at, put_at, rising_put, rising_without, text_is}
pub use Rattle.site_types.specs.declared.answer.Answer.{Answer}
pub use Rattle.desk_model.specs.Pieces.{blocks, piece_count, piece_limit, pieces, with_piece, with_pieces}
pub use Rattle.site_types.specs.Limits.{last_moment, payload_limit}
pub use Rattle.desk_model.specs.Restores.{has_copy, restore_case, wanted_number}
pub use Rattle.desk_model.specs.Step.{case_of, step}
pub use Rattle.site_types.specs.declared.unit.Unit.{Unit as StorageUnit}
pub use Rattle.site_types.specs.Forms.{are_marks, capacity_key, form_named, fragment_key, high_key, low_key, name_key, segment_key, slots_key, unit_add_of, unit_change_of}
pub use Rattle.desk_model.specs.Settings.{all_set, file_case, file_requests, is_setting, load_of, set_by, setting_refusals, state_of, zone_set}
pub use Rattle.image_catalogue.specs.Images.{AreById, first_of_client, first_under, is_before, record_named, same_id, with_record}
pub use Rattle.desk_model.specs.Refusals.{Case, first_refusal, step_of, unless_refused}
pub use Rattle.site_types.specs.declared.image.CopyRecord.{CopyRecord}
pub use Rattle.site_types.specs.declared.lifecycle.Operation.{Operation}
pub use Rattle.policy_book.specs.declared.client.Client.{Client}

-- The names that most proofs here cite, passed on from one place.
pub use Rattle.std.proofs.Common.{◌≡◌, ◌∙◌, ℕ, suc, Bool, true, false, cond, List, [], ◌∷◌, ◌++◌, length, map, Option, Some, None, Result, Ok, Err, sym, ap, refl, subst, arith, unwrap_or, option_map, find, Contains, IfOk, ◌||◌, ◌&&◌, ℤ, filter, ◌<◌, ◌+◌, take, get_or, append-nil, if◌then◌else◌, flat_map, Bor, ◌≤◌, max, bytes_eq, IfSome, inl, inr, ◌⊎◌, IsErrAnd, codes, is_some, ◌*◌, zero, pos, negsuc, neg_ℤ, unsigned_abs, drop, ◌==◌, nat_le, nat_lt, IsAscii, rules}
pub use Rattle.desk_model.specs.Settings.{Removal, gone_client, gone_policy, is_of_client, is_under, removal_of, setting_refusals, use_refusals, used_by, uses_of, refusal_answer, is_setting, zone_set, zone_asked}
pub use Rattle.std.proofs.lemmas.List.{length-map, length-replicate, take_more, map-append, get_or-map}
pub use Rattle.desk_rules.specs.Decisions.{ImageRecord, Load, Nothing, SealNow, Answer, Request, Done, Change, Decision, Backup, Decides, DecidesAs, IsChange, IsDecision, IsStateOf, JobBody, SetsSite, Site, backup_body}
pub use Rattle.std.specs.Option.{option_map_or}
pub use Rattle.policy_book.specs.Book.{adhoc, Policy, manual}
pub use Rattle.desk_model.specs.Refusals.{first_refusal}
pub use Rattle.site_types.specs.declared.schedule.Schedule.{Schedule}
pub use Rattle.policy_book.specs.Requests.{refusals_of, is_of_book}
pub use Rattle.desk_model.specs.Backups.{Asked, asked_of, backup_refusals, base_of, client_refusals, reference_of, policy_asked, latest_version, new_time, schedule_asked}
pub use Rattle.std.specs.declared.alloc.AllocError.{AllocError}
pub use Rattle.site_types.specs.Classes.{RequestClass, site_change, site_file, backup, restore, restore_at, class_of, class_seen}
pub use Rattle.desk_model.specs.State.{State, Image, entries, image_named}
pub use Rattle.std.proofs.lemmas.List.Elements.{filter-append}
pub use Rattle.desk_rules.specs.DueBackups.{AllInTime, Calendar, Frequency, Mode, due_of_client, due_of_policy, fore, foremost, is_due_for, is_of, last_in, last_time, latest, line_of, may_be_due, mode_before}
pub use Rattle.desk_rules.specs.Seen.{backup_answer, blank, length_of, lengths, room_under, seen}
pub use Rattle.desk_rules.specs.Refusing.{Answered, NoMemory, Passes, Refusal, refusal_by, settled}
pub use Rattle.desk_rules.specs.Asking.{asked_by}

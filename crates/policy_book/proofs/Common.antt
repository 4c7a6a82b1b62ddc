-- The names that most proofs here cite, passed on from one place.
pub use Rattle.std.proofs.Common.{All, Bool, Err, List, None, Ok, Option, Result, Some, [], ap, append_assoc, cond, drop, false, get_or, inr, length, map, option_map, refl, set, subst, sym, true, ℕ, ◌++◌, ◌+◌, ◌<◌, ◌∙◌, ◌∷◌, ◌≡◌, Bor, arith, codes, rules, string_bytes}
pub use Rattle.policy_book.specs.SiteFile.{before, change_read, changes_site, client_word, has_keys, is_among, joined, of_items, one, path_word, policy_lines, request_of, requests_of, table_with, text_of, with_word, word_of, words_of, client_line, on_policy, tables_at, unit_line, zone_lines}
pub use Rattle.policy_book.specs.Book.{Book, Policy, client_name, policy_name, unit_name}
pub use Rattle.slp_tree.proofs.ListLemmas.{changed_in_place, changed_lacking, lacks_as, lacks_at, named_if, put_found, stands_as, unnamed_at, has_at}
pub use Rattle.toml.specs.View.{items_view, members_view, table_view, view}
pub use Rattle.policy_book.specs.Changes.{client_sealed, last_raised, raised, unit_changed, unit_with, with_policy}
pub use Rattle.policy_book.specs.declared.client.Client.{Client}
pub use Rattle.policy_book.specs.Lists.{AreByName, has, named, put}
pub use Rattle.std.specs.Prelude.{filter, max, not, option_and_then}
pub use Rattle.toml.specs.Data.{Data, Members, get_member, member, table}

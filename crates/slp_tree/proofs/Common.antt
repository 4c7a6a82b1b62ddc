-- The names that most proofs here cite, passed on from one place.
pub use Rattle.std.proofs.Common.{Bool, Err, List, None, Ok, Option, Result, Some, [], ap, append_assoc, arith, cond, drop, false, get_or, length, map, not, refl, set, subst, suc, sym, take, true, zero, ℕ, ◌++◌, ◌+◌, ◌-◌, ◌<◌, ◌∙◌, ◌∷◌, ◌≡◌, ◌≢◌, rules, tests}
pub use Rattle.std.specs.Prelude.{IfOk, IsPermutation, OnErr, OnOk, filter, find, if◌then◌else◌, insert, is_none, is_some, nat_eq, slice_get, sum_by, unwrap_or}
pub use Rattle.std.specs.List.{HoldsAt, list_any, range_with_len, remove}
pub use Rattle.std.specs.List.Sorted.{IsBinarySearchResult, IsNonDecreasingBy, IsSearchInRange, IsSortedBy}
pub use Rattle.std.specs.Ordering.{is_eq, is_gt, is_lt, match_ordering, nat_cmp, ordering_index, ordering_reverse, ordering_then}
pub use Rattle.std.specs.declared.cmp.Ordering.{Ordering}
pub use Rattle.std.specs.declared.cmp.Ordering.TheVariants.{Equal, Greater, Less}
pub use Rattle.std.proofs.lemmas.Cmp.{back_total, nat_cmp_total, nat_list_cmp_total, on_total, then_total, tied_itself, upto}
pub use Rattle.std.proofs.lemmas.Map.Lookups.{exact_bytes, exact_unsigned}
pub use Rattle.slp_tree.specs.Trees.{Version, begins_with_duplication, broken_rule, has_childless_after_copy, has_late_source, has_later_backup, has_over_ten_operations, has_unknown_unit, is_tree, is_without_operations, completed, is_child, waits}
pub use Rattle.slp_tree.specs.Due.{due_of, due_of_all, due_order, is_due, ranked}
pub use Rattle.std.specs.Str.{bytes_eq}
pub use Rattle.std.proofs.lemmas.Slice.Eq.{bytes_eq-Decides}
pub use Rattle.slp_tree.specs.Lists.{AreByName, changed, has, named, put, without}
pub use Rattle.std.specs.Option.{ForSome, option_map}
pub use Rattle.std.proofs.lemmas.List.Sorted.{answers_always, ranks_by, searchable_from_sorted, sorted_far, sum_by-IsPermutation}

-- The names that most proofs here cite, passed on from one place.
pub use Rattle.std.proofs.Common.{Bool, List, None, Option, Some, [], ap, append-nil, append_assoc, arith, drop, false, get_or, if◌then◌else◌, inl, inr, length, length-append, length-drop, length-take, map, min, nat_le, nat_lt, option_map, position, refl, rules, subst, suc, sym, take, take-append-drop, tests, true, vec_capacity, zero, ℕ, ◌++◌, ◌+◌, ◌-◌, ◌<◌, ◌∙◌, ◌∷◌, ◌≡◌, ◌≤◌}
pub use Rattle.session_text.specs.Turns.{Turn, asked_words, broken, cut_off, cut_payload, first_turn, is_line_feed, is_space, last_index, last_turn, line_end, line_limit, or_last, payload_size, request, turn_at, turn_of, turn_without_end, turns, turns_from, turns_up_to, whole_turn, without_return, words_before, words_of}
pub use Rattle.session_text.specs.Session.{BreaksAt, IsCut, IsInTurn, IsLast, IsNext, IsWhole, turn_asked}
pub use Rattle.std.proofs.lemmas.List.{drop-append-le, drop-drop, drop_all, drop_at, drop_min, get_or-take, get_or_append_left, length-take-le, take-append-le, take-take, take_all, take_at, take_min}

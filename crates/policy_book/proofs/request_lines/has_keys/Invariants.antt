use Rattle.policy_book.proofs.Common.{◌≡◌, map, has_keys, members_view}
use Rattle.policy_book.proofs.request_lines.has_keys.Given as goal

abbrev pub invariant-members : goal.invariant-members
invariant-members l = has_keys (map (λ k. k.now) l.fn.keys) (members_view l.key-iterator) ≡ has_keys (map (λ k. k.now) l.fn.keys) (members_view l.fn.members.entries)

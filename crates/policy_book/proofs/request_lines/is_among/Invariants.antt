use Rattle.policy_book.proofs.Common.{◌≡◌, map, drop, is_among}
use Rattle.policy_book.proofs.request_lines.is_among.Given as goal

abbrev pub invariant-loop-known : goal.invariant-loop-known
invariant-loop-known l = is_among (map (λ k. k.now) (drop l.known-index l.keys)) l.key ≡ is_among (map (λ k. k.now) l.keys) l.key

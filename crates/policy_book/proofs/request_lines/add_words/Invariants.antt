use Rattle.policy_book.proofs.Common.{◌≡◌, map, Some, joined, words_of, members_view}
use Rattle.policy_book.proofs.request_lines.add_words.Given as goal

-- the words so far before those of the other members are the words of them all
abbrev pub invariant-members : goal.invariant-members
invariant-members l =
    joined (Some l.initial.words.items) (words_of (map (λ k. k.now) l.fn.keys) (map (λ k. k.now) l.fn.parts) (members_view l.fn.members.entries))
    ≡ joined (Some l.words.items) (words_of (map (λ k. k.now) l.fn.keys) (map (λ k. k.now) l.fn.parts) (members_view l.key-iterator))

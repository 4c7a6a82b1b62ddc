use Rattle.policy_book.proofs.Common.{◌≡◌, ◌∙◌, ◌∷◌, ◌++◌, [], ℕ, List, map, Some, true, false, Bor, string_bytes, ap, arith, view, members_view, joined, is_among, text_of, word_of, words_of}
use Rattle.std.proofs.lemmas.Grind.{common_steps}
use Rattle.policy_book.proofs.LineLemmas.{words_more}
use Rattle.policy_book.proofs.request_lines.add_words.Goals as goal

pub members-preserved : goal.members-preserved
members-preserved c =
    let key = string_bytes c.in-Some.key.now in
    let value = view c.in-Some.value.now in
    let left = members_view c.next.new.self in
    let keys = map (λ (k : Bor (List ℕ)). k.now) c.args.keys.now in
    let parts = map (λ (k : Bor (List ℕ)). k.now) c.args.parts.now in
    let words = c.members.words.items in
    let text = c.in_ok-text.text in
    let other : is_among parts key ≡ false = grind (arith, common_steps) in
    let known : is_among keys key ≡ true = grind (arith, common_steps) in
    let read : text_of value ≡ Some text = c.in_ok-text.ensures in
    let step : c.members.key-iterator ≡ (c.in-Some.key.now, c.in-Some.value.now) ∷ c.next.new.self = c.in-Some.ensures.steps in
    let pushed : words ++ word_of key text ∷ [] ≡ c.push.new.self.items = grind (arith, common_steps) in
    c.members.invariant
    ∙ ap (λ es. joined (Some words) (words_of keys parts (members_view es))) step
    ∙ words_more keys parts key value left words text other known read
    ∙ ap (λ ws. joined (Some ws) (words_of keys parts left)) pushed

use Rattle.std.proofs.Common.{rules}
use Rattle.std.specs.Ordering.{is_lt}
use Rattle.std.proofs.lemmas.List.Sorted.{answers_always, ranks_by}
use Rattle.retention_rules.specs.Cleanup.{Kept, by_age}
use Rattle.retention_rules.proofs.StableLemmas.{stably_sorted}
use Rattle.retention_rules.proofs.ChoiceLemmas.{by_age_total}
use Rattle.retention_rules.proofs.cleanup.sort_by_age.Goals as goal

-- the closure compares by age
pub returns : goal.returns
returns c =
    let order = ranks_by by_age_total (λ (k : Kept). k) in
    stably_sorted by_age by_age_total c.args.candidates.now.items c.sort_by.new.self.items
    (c.in_ok-sort_by.ensures.sorted (λ x y. is_lt (by_age x y)) order (answers_always _ _ _ (λ f a r g called. search rules)))
    (c.in_ok-sort_by.ensures.stable (λ x y. is_lt (by_age x y)) order (answers_always _ _ _ (λ f a r g called. search rules)))

use Rattle.std.proofs.Common.{◌≡◌, ◌++◌, List, append-nil, sym, ◌∙◌, ap, subst}
use Rattle.std.specs.Option.{option_copied}
use Rattle.std.specs.Prelude.{OnOk}
use Rattle.retention_rules.specs.Cleanup.{Kept}
use Rattle.retention_rules.proofs.ChoiceLemmas.{none_go, no_candidates, go_under, candidates_under}
use Rattle.retention_rules.proofs.cleanup.choose_image.Goals as goal

pub returns-in-Some-clause-gone : goal.returns-in-Some-clause-gone
returns-in-Some-clause-gone c =
    subst (λ (l : List Kept). OnOk c.choose_copies.result (c.choose_copies.new.choices.gone.items ≡ c.args.choices.now.gone.items ++ l))
    (go_under c.args.image.now c.args.lifecycles.now c.args.moment c.in-Some.slp.now (sym c.find.ensures ∙ ap option_copied c.in-Some.is))
    c.choose_copies.ensures.gone

pub returns-in-Some-clause-candidates : goal.returns-in-Some-clause-candidates
returns-in-Some-clause-candidates c =
    subst (λ (l : List Kept). OnOk c.choose_copies.result (c.choose_copies.new.choices.candidates.items ≡ c.args.choices.now.candidates.items ++ l))
    (candidates_under c.args.image.now c.args.lifecycles.now c.args.moment c.in-Some.slp.now (sym c.find.ensures ∙ ap option_copied c.in-Some.is))
    c.choose_copies.ensures.candidates

pub returns-in-None-clause-gone : goal.returns-in-None-clause-gone
returns-in-None-clause-gone c =
    sym (ap (λ (l : List Kept). c.args.choices.now.gone.items ++ l) (none_go c.args.image.now c.args.lifecycles.now c.args.moment (sym c.find.ensures ∙ ap option_copied c.in-None.is)) ∙ append-nil c.args.choices.now.gone.items)

pub returns-in-None-clause-candidates : goal.returns-in-None-clause-candidates
returns-in-None-clause-candidates c =
    sym (ap (λ (l : List Kept). c.args.choices.now.candidates.items ++ l) (no_candidates c.args.image.now c.args.lifecycles.now c.args.moment (sym c.find.ensures ∙ ap option_copied c.in-None.is)) ∙ append-nil c.args.choices.now.candidates.items)

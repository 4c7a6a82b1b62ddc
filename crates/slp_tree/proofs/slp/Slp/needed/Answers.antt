use Rattle.slp_tree.proofs.Common.{◌≡◌, ◌∙◌, length, true, sym, rules, tests, arith, completed, is_child, waits}
use Rattle.std.proofs.lemmas.Iterator.{YieldsList-from_range}
use Rattle.std.proofs.lemmas.Iterator.Adapters.{option_map_id}
use Rattle.std.proofs.lemmas.Iterator.Consumers.{YieldsList-from_filter}
use Rattle.std.proofs.lemmas.Iterator.Search.{find_from_yields_List}
use Rattle.slp_tree.proofs.slp.Slp.needed.Goals as goal

pub returns : goal.returns
returns c =
    let complete : completed c.args.states.now c.args.op ≡ true = cc in
    rw complete (sym (option_map_id c.find.result) ∙ find_from_yields_List (waits c.args.states.now) _ _ _ c.find.ensures.ran
    (YieldsList-from_filter _ (is_child c.args.self.now.operations c.args.op) (YieldsList-from_range 0 c.count.result (length c.args.self.now.operations) c.filter.ensures.source (omega arith)) c.filter.ensures.closure (λ x b q k. search (rules, tests)))
    (λ x b q k. search (rules, tests)))

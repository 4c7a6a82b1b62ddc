use Rattle.std.proofs.Common.{[], ◌∷◌, ◌++◌, Some, sym, ap, ◌∙◌, subst}
use Rattle.atomic_table.specs.Table.{opening}
use Rattle.step_turn.specs.Order.{IsOrdered, maker}
use Rattle.step_turn.proofs.Making.{opens, new_of_turn}
use Rattle.step_turn.proofs.turn.Turn.new.Goals as goal

pub new-requires : goal.new-requires
new-requires g c =
    let M = g.S.Steps.meaning in
    let items = c.push_reserved.ensures.items ∙ ap (λ l. l ++ Some c.args.object ∷ []) c.in-Ok-with_capacity.ensures.items in
    subst (λ xs. IsOrdered M c.of.result.value c.from.result (opening (0 ∷ 0 ∷ []) xs (maker c.from.result))) (sym items)
    (opens M c.of.result.value c.from.result c.args.object c.of.ensures (ap M.stopped c.of.ensures ∙ c.requires.running))

pub returns-in-Ok-new-clause-of : goal.returns-in-Ok-new-clause-of
returns-in-Ok-new-clause-of g c = new_of_turn _ _ _ c.make_seats.ensures.1

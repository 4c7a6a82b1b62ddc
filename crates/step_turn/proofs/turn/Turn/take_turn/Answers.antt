use Rattle.std.proofs.Common.{[], ◌∷◌, Some, sym, ap, ◌∙◌, subst}
use Rattle.step_turn.specs.Histories.{Reaches}
use Rattle.step_turn.specs.Order.{IsAdded, Made, Advanced, first_number}
use Rattle.step_turn.proofs.Keeping.{same_object}
use Rattle.step_turn.proofs.turn.Turn.take_turn.Goals as goal

pub advance-requires-clause-added : goal.advance-requires-clause-added
advance-requires-clause-added g c =
    let M = g.S.Steps.meaning in
    let h = c.requires.holds in
    let v = c.args.place.now.me.0 in
    let out = c.take_out-object.ensures in
    let e = c.put_back.ensures.slot ∙ ap (λ m. (m.0, (0, Some c.serve-answer.new.object) ∷ [])) out.slot in
    let taken = same_object _ _ (sym h.1 ∙ out.object) in
    let added = c.serve-answer.ensures c.args.self.now.start v.seen (first_number v.chairs) (subst (λ o. Reaches M c.args.self.now.start v.seen o) taken h.2) in (
      c.serve-answer.new.object,
      ap (λ m. m.1) e,
      subst (λ m. IsAdded M c.args.self.now.start m.0.seen (first_number m.0.chairs) (g.S.StepsBy.asks c.args.question.now) c.serve-answer.result c.serve-answer.new.object) (sym e) added,
    )

pub returns-clause-advanced : goal.returns-clause-advanced
returns-clause-advanced g c =
    let M = g.S.Steps.meaning in
    let out = c.take_out-object.ensures in
    let e = c.put_back.ensures.slot ∙ ap (λ m. (m.0, (0, Some c.serve-answer.new.object) ∷ [])) out.slot in
    subst (λ m. Advanced (Made M c.args.self.now.start m.0.seen (first_number m.0.chairs) (g.S.StepsBy.asks c.args.question.now) c.serve-answer.result) m c.advance.new.place.me) e c.advance.ensures.advanced

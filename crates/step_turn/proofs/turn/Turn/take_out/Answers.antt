use Rattle.std.proofs.Common.{◌∷◌, Some, sym, ap, ◌∙◌}
use Rattle.atomic_table.specs.Table.{rest}
use Rattle.step_turn.proofs.turn.Turn.take_out.Goals as goal

pub exchange-slot-requires : goal.exchange-slot-requires
exchange-slot-requires g c =
    let h = c.requires.holds in
    (c.requires.place ∙ ap (λ t. t.id) (sym c.self.view_is), (Some h.0, h.1 ∙ ap (λ l. (0, Some h.0) ∷ l) (ap rest (sym h.1))))

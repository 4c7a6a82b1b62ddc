use Rattle.step_turn.proofs.turn.Turn.advance.Goals as goal

pub advance_as-requires-clause-made : goal.advance_as-requires-clause-made
advance_as-requires-clause-made g c =
    let a = c.requires.added in
    (a.0, a.2.0, a.2.1, a.1, a.2.2.seat_is, a.2.2.reaches, (a.0, a.2.2))

use Rattle.std.proofs.Common.{sym, ◌∙◌, rules}
use Rattle.vault_ledger.proofs.Adoptions.{named_fit, piece_is}
use Rattle.vault_ledger.proofs.adopting.name_piece.Goals as goal

pub returns-then-not-has_live-clause-named : goal.returns-then-not-has_live-clause-named
returns-then-not-has_live-clause-named g c = λ known named h. sym (piece_is known named c.args.pool.now c.args.slot c.args.length c.has_live.result c.has_live.ensures h) ∙ (search rules)

pub returns-clause-named : goal.returns-clause-named
returns-clause-named g c = λ known named h. named_fit known named c.args.pool.now c.raise_count.new.self c.args.slot c.args.length c.has_live.result c.has_live.ensures (search rules) c.raise_count.ensures h

use Rattle.std.proofs.Common.{rules}
use Rattle.vault_ledger.proofs.Adoptions.{adopted_fit}
use Rattle.vault_ledger.proofs.adopting.adopt_segment.Goals as goal

pub returns-clause-adopted : goal.returns-clause-adopted
returns-clause-adopted g c = λ known named h. adopted_fit known named c.args.pool.now c.adopt.new.self c.args.segment.now c.fits.result c.fits.ensures (search rules) c.in_ok-adopt.ensures.ok h

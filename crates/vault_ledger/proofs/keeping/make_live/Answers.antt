use Rattle.vault_ledger.proofs.Kept.{changed_once}
use Rattle.vault_ledger.proofs.keeping.make_live.Goals as goal

pub returns-clause-live : goal.returns-clause-live
returns-clause-live g c = λ what is. changed_once _ _ _ _ (c.make_live.ensures what is)

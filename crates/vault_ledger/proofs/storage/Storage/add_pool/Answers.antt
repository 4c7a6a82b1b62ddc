use Rattle.std.proofs.Common.{◌∙◌, ◌++◌, ◌∷◌, [], Some, None, ap, refl, subst, sym}
use Rattle.vault_ledger.specs.Storage.{HavePools, StorageState}
use Rattle.vault_ledger.proofs.UnitPools.{have_added, more_have}
use Rattle.vault_ledger.proofs.storage.Storage.add_pool.Goals as goal

pub returns-in_ok-push-clause-more : goal.returns-in_ok-push-clause-more
returns-in_ok-push-clause-more c = λ l follows same setting none.
    have_added l _ _ _ (Some c.in-Some.pool) _ (sym c.in-Some.is ∙ c.in_ok-pool.ensures) (c.in_ok-push.ensures.items ∙ ap (λ (s : StorageState). s.pools ++ c.in-Some.pool ∷ []) c.self.view_is) follows same none

pub returns-in_ok-push-clause-have : goal.returns-in_ok-push-clause-have
returns-in_ok-push-clause-have c = λ l have.
    subst (HavePools l) (sym (c.in_ok-push.ensures.items ∙ ap (λ (s : StorageState). s.pools ++ c.in-Some.pool ∷ []) c.self.view_is)) (more_have l (Some c.in-Some.pool) _ have)

pub returns-in_default-clause-more : goal.returns-in_default-clause-more
returns-in_default-clause-more c = λ l follows same setting none. have_added l _ _ _ None _ (sym c.in_default.is ∙ c.in_ok-pool.ensures) refl follows same none

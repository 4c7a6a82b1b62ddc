use Rattle.std.proofs.Common.{◌∙◌, ap, arith, length}
use Rattle.vault_disk.proofs.Moments.{same_on}
use Rattle.segment_pool.proofs.Placings.{looked_after}
use Rattle.vault_ledger.specs.Storage.{StorageState}
use Rattle.vault_ledger.proofs.SyncedStorage.{more_synced, number_fits, pool_at, synced_keeps}
use Rattle.vault_ledger.proofs.storage.Storage.sync_pools.Goals as goal

pub overflow_cast-number : goal.overflow_cast-number
overflow_cast-number g c =
    let few = number_fits _ _ _ (c.deref-pool-items.ensures.value ∙ ap (λ (s : StorageState). s.pools) c.self.view_is) c.loop-number-test.true c.requires.known in
    omega (arith, few)

pub overflow_add-number : goal.overflow_add-number
overflow_add-number g c =
    let few = number_fits _ _ _ (c.deref-pool-items.ensures.value ∙ ap (λ (s : StorageState). s.pools) c.self.view_is) c.loop-number-test.true c.requires.known in
    omega (arith, few)

pub loop-number-preserved : goal.loop-number-preserved
loop-number-preserved g c =
    let i = c.loop-number.invariant in
    record {
      same = same_on i.same c.sync_held.ensures.same;
      looked = λ told. looked_after _ _ _ (i.looked told) (c.sync_held.ensures.looked (i.same.tells told)) i.same;
      synced = λ told.
          more_synced _ c.loop-number.number _ _ _ (pool_at _ _ _ _ (c.deref-pool-items.ensures.value ∙ ap (λ (s : StorageState). s.pools) c.self.view_is) c.loop-number-test.true c.pool-item.is)
          (c.sync_held.ensures.looked (i.same.tells told)).rests (λ slot what is. c.in_ok-sync_held.ensures.durable slot what (i.same.tells told) is) (i.synced told);
    }

pub returns-clause-keeps : goal.returns-clause-keeps
returns-clause-keeps g c = λ l told follows.
    let same = c.deref-pool-items.ensures.value ∙ ap (λ (s : StorageState). s.pools) c.self.view_is in
    synced_keeps l _ follows _ c.loop-number.number (omega (arith, ap length same, c.loop-number-test.false)) (c.loop-number.invariant.synced told)

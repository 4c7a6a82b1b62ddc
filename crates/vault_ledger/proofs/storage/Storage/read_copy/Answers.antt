use Rattle.std.proofs.Common.{◌∙◌, ap, arith, length}
use Rattle.vault_ledger.specs.Copies.{copy_of}
use Rattle.vault_ledger.specs.Storage.{StorageState}
use Rattle.vault_ledger.proofs.ReadCopies.{found_held, pool_found, read_bytes, read_fails, read_whole, within_pools}
use Rattle.vault_ledger.proofs.storage.Storage.read_copy.Goals as goal

pub index_mut-requires : goal.index_mut-requires
index_mut-requires g c = omega (arith, within_pools _ _ _ c.requires.known, ap (λ (s : StorageState). length s.pools) c.self.view_is, c.self.inside.pools.ok)

pub read_all-requires : goal.read_all-requires
read_all-requires g c =
    found_held _ _ _ c.requires.known _ _ (c.in-Some.ensures ∙ ap (λ (s : StorageState). copy_of c.args.id.now s.copies) c.self.view_is)
    (pool_found _ _ _ c.requires.known _ _ (ap (λ (s : StorageState). s.pools) c.self.view_is) c.index_mut.ensures.value)

pub returns-clause-bytes : goal.returns-clause-bytes
returns-clause-bytes g c = λ l image copy follows on told.
    read_bytes l _ follows _ _ image copy on _ (c.in-Some.ensures ∙ ap (λ (s : StorageState). copy_of c.args.id.now s.copies) c.self.view_is) _
    (pool_found _ _ _ c.requires.known _ _ (ap (λ (s : StorageState). s.pools) c.self.view_is) c.index_mut.ensures.value)
    (λ v. v.items) _ c.read_all.result c.read_all.ensures.length (c.read_all.ensures.part told)

pub returns-clause-whole : goal.returns-clause-whole
returns-clause-whole g c = λ l image copy follows on told.
    read_whole l _ follows _ _ image copy on _ (c.in-Some.ensures ∙ ap (λ (s : StorageState). copy_of c.args.id.now s.copies) c.self.view_is) _
    (pool_found _ _ _ c.requires.known _ _ (ap (λ (s : StorageState). s.pools) c.self.view_is) c.index_mut.ensures.value)
    (λ v. v.items) _ c.read_all.result c.read_all.ensures.length (c.read_all.ensures.part told)

pub returns-clause-fails : goal.returns-clause-fails
returns-clause-fails g c = λ l image copy follows on told.
    read_fails l _ follows _ _ image copy on _ (c.in-Some.ensures ∙ ap (λ (s : StorageState). copy_of c.args.id.now s.copies) c.self.view_is) _
    (pool_found _ _ _ c.requires.known _ _ (ap (λ (s : StorageState). s.pools) c.self.view_is) c.index_mut.ensures.value)
    _ c.read_all.result (c.read_all.ensures.told told)

use Rattle.std.proofs.Common.{◌≡◌, ◌∙◌, ℕ, List, Some, ap, arith, subst, sym}
use Rattle.std.specs.Prelude.{is_some}
use Rattle.std.specs.Vec.{with_items}
use Rattle.std.proofs.lemmas.List.{with_items_is}
use Rattle.segment_pool.specs.Pieces.{CutBytes}
use Rattle.segment_pool.specs.Slots.{PoolState}
use Rattle.vault_ledger.specs.Copies.{copy_of}
use Rattle.vault_ledger.specs.Keeping.{Between}
use Rattle.vault_ledger.specs.Ledger.{state_over}
use Rattle.vault_ledger.specs.Sealing.{HasSlots, SealingFails, state_sealed}
use Rattle.vault_ledger.specs.Storage.{IsStored, IsUnstored, StorageState}
use Rattle.vault_ledger.proofs.SealedBackups.{nothing_between}
use Rattle.vault_ledger.proofs.StoredBackups.{filled, removed_again, copy_there, some_fragment, some_segment, with_pools}
use Rattle.vault_ledger.proofs.storage.Storage.store_backup.Goals as goal

pub cut-requires : goal.cut-requires
cut-requires g c = let known = c.requires.known in some_segment known.0 c.args.self.now known.1 c.args.image c.args.unit.now known.2

pub returns-in_err-cut-clause-between : goal.returns-in_err-cut-clause-between
returns-in_err-cut-clause-between g c = λ l follows is_for told kept. nothing_between l _ (g.V.Vault.disk c.args.vault.now) c.args.journal.now kept

pub returns-in_err-cut-clause-unfilled : goal.returns-in_err-cut-clause-unfilled
returns-in_err-cut-clause-unfilled g c = λ l follows is_for told kept lacks. nothing_between l _ (g.V.Vault.disk c.args.vault.now) c.args.journal.now kept

pub returns-in_err-id-clause-between : goal.returns-in_err-id-clause-between
returns-in_err-id-clause-between g c = λ l follows is_for told kept. nothing_between l _ (g.V.Vault.disk c.args.vault.now) c.args.journal.now kept

pub returns-in_err-id-clause-unfilled : goal.returns-in_err-id-clause-unfilled
returns-in_err-id-clause-unfilled g c = λ l follows is_for told kept lacks. nothing_between l _ (g.V.Vault.disk c.args.vault.now) c.args.journal.now kept

pub reserve_copy-requires-clause-some : goal.reserve_copy-requires-clause-some
reserve_copy-requires-clause-some g c = let known = c.requires.known in some_fragment known.0 c.args.self.now known.1 c.args.image c.args.unit.now known.2

pub returns-in_err-reserve_copy-clause-between : goal.returns-in_err-reserve_copy-clause-between
returns-in_err-reserve_copy-clause-between g c = λ l follows is_for told kept. nothing_between l _ (g.V.Vault.disk c.args.vault.now) c.args.journal.now kept

pub returns-in_err-reserve_copy-clause-unfilled : goal.returns-in_err-reserve_copy-clause-unfilled
returns-in_err-reserve_copy-clause-unfilled g c = λ l follows is_for told kept lacks. nothing_between l _ (g.V.Vault.disk c.args.vault.now) c.args.journal.now kept

pub seal_in-requires-clause-known : goal.seal_in-requires-clause-known
seal_in-requires-clause-known g c =
    let known = c.requires.known in
    let pools_are : c.deref_mut.result.now ≡ c.args.self.now.pools = c.deref_mut.ensures.value ∙ ap (λ (s : StorageState). s.pools) c.self.view_is ∙ c.reserve_copy.ensures.pools in
    (known.0, c.args.self.now.copies, with_pools known.0 c.args.self.now c.deref_mut.result.now pools_are known.1, known.2)

pub new-copy-requires-clause-some : goal.new-copy-requires-clause-some
new-copy-requires-clause-some g c = let known = c.requires.known in some_fragment known.0 c.args.self.now known.1 c.args.image c.args.unit.now known.2

pub fill-requires : goal.fill-requires
fill-requires g c = record {
  there =
      let reserved = c.in_ok-reserve_copy.ensures.reserved in
      ap (λ (s : StorageState). is_some (copy_of c.in_ok-id.id s.copies)) c.self.view_is ∙ copy_there c.in_ok-id.id reserved.0 c.args.self.now.copies c.reserve_copy.new.self.copies reserved.1;
}

pub returns-in-Ok-clause-stored : goal.returns-in-Ok-clause-stored
returns-in-Ok-clause-stored g c = λ l follows is_for.
    let pools_are : c.deref_mut.result.now ≡ c.args.self.now.pools = c.deref_mut.ensures.value ∙ ap (λ (s : StorageState). s.pools) c.self.view_is ∙ c.reserve_copy.ensures.pools in
    let back : (with_items c.self.inside.pools c.seal_in.new.pools).items ≡ c.seal_in.new.pools = with_items_is c.self.inside.pools c.seal_in.new.pools (omega arith) in
    let bytes_are : c.in_ok-cut.cut.bytes ≡ c.args.bytes.now = ap (λ (d : CutBytes). d.bytes) c.in_ok-cut.ensures in
    let sets = filled c.args.image c.args.unit.now c.in-Ok.slots.items c.args.bytes.now c.in_ok-id.id c.in_ok-reserve_copy.ensures.reserved.0 c.new-copy.result c.args.self.now.copies c.reserve_copy.new.self.copies c.self.inside.copies c.fill.new.self
    c.in_ok-id.ensures c.requires.length c.new-copy.ensures (ap (λ (s : StorageState). s.copies) c.self.view_is) c.in_ok-reserve_copy.ensures.reserved.1 c.fill.ensures in
    let old = g.V.Vault.disk c.args.vault.now in
    let new = g.V.Vault.disk c.seal_in.new.vault in
    subst (λ (ps : List PoolState). IsStored l c.args.image c.args.bytes.now old new c.args.journal.now c.seal_in.new.journal (record { pools = ps; copies = c.fill.new.self })) (sym back)
    (subst (λ (bytes : List ℕ). IsStored l c.args.image bytes old new c.args.journal.now c.seal_in.new.journal (record { pools = c.seal_in.new.pools; copies = c.fill.new.self })) bytes_are
    ((c.in-Ok.ensures.sealed l c.args.self.now.copies (with_pools l c.args.self.now c.deref_mut.result.now pools_are follows) is_for).stored c.fill.new.self sets))

pub returns-in-Ok-clause-between : goal.returns-in-Ok-clause-between
returns-in-Ok-clause-between g c = λ l follows is_for told kept.
    let pools_are : c.deref_mut.result.now ≡ c.args.self.now.pools = c.deref_mut.ensures.value ∙ ap (λ (s : StorageState). s.pools) c.self.view_is ∙ c.reserve_copy.ensures.pools in
    let old = g.V.Vault.disk c.args.vault.now in
    subst (λ (bytes : List ℕ). Between (state_over old.seen l) (state_sealed (state_over old.seen l) c.args.image bytes) old (g.V.Vault.disk c.seal_in.new.vault)) (ap (λ (d : CutBytes). d.bytes) c.in_ok-cut.ensures)
    (c.in-Ok.ensures.between l c.args.self.now.copies (with_pools l c.args.self.now c.deref_mut.result.now pools_are follows) is_for told kept)

pub returns-in-Ok-clause-slots : goal.returns-in-Ok-clause-slots
returns-in-Ok-clause-slots g c = λ l follows is_for told kept.
    let pools_are : c.deref_mut.result.now ≡ c.args.self.now.pools = c.deref_mut.ensures.value ∙ ap (λ (s : StorageState). s.pools) c.self.view_is ∙ c.reserve_copy.ensures.pools in
    subst (λ (bytes : List ℕ). HasSlots c.args.unit.now.slots (state_over (g.V.Vault.disk c.args.vault.now).seen l) c.args.image bytes) (ap (λ (d : CutBytes). d.bytes) c.in_ok-cut.ensures)
    (c.in-Ok.ensures.slots l c.args.self.now.copies (with_pools l c.args.self.now c.deref_mut.result.now pools_are follows) is_for told kept)

pub returns-clause-unstored : goal.returns-clause-unstored
returns-clause-unstored g c = λ l follows is_for other.
    let pools_are : c.deref_mut.result.now ≡ c.args.self.now.pools = c.deref_mut.ensures.value ∙ ap (λ (s : StorageState). s.pools) c.self.view_is ∙ c.reserve_copy.ensures.pools in
    let back : (with_items c.self.inside.pools c.seal_in.new.pools).items ≡ c.seal_in.new.pools = with_items_is c.self.inside.pools c.seal_in.new.pools (omega arith) in
    let same = removed_again l c.args.self.now follows c.args.image c.args.unit.now is_for c.in_ok-id.id (Some c.in_ok-reserve_copy.ensures.reserved.0) c.reserve_copy.new.self.copies c.self.inside.copies c.remove.new.self
    c.in_ok-id.ensures (ap (λ (s : StorageState). s.copies) c.self.view_is) c.in_ok-reserve_copy.ensures.reserved.1 c.remove.ensures in
    subst (λ (ps : List PoolState). IsUnstored l (g.V.Vault.disk c.args.vault.now) (g.V.Vault.disk c.seal_in.new.vault) c.args.journal.now c.seal_in.new.journal (record { pools = ps; copies = c.remove.new.self })) (sym back)
    ((c.in-Err.ensures.unsealed l c.args.self.now.copies (with_pools l c.args.self.now c.deref_mut.result.now pools_are follows) is_for other).unstored c.remove.new.self same)

pub returns-clause-between : goal.returns-clause-between
returns-clause-between g c = λ l follows is_for told kept.
    let pools_are : c.deref_mut.result.now ≡ c.args.self.now.pools = c.deref_mut.ensures.value ∙ ap (λ (s : StorageState). s.pools) c.self.view_is ∙ c.reserve_copy.ensures.pools in
    let old = g.V.Vault.disk c.args.vault.now in
    subst (λ (bytes : List ℕ). Between (state_over old.seen l) (state_sealed (state_over old.seen l) c.args.image bytes) old (g.V.Vault.disk c.seal_in.new.vault)) (ap (λ (d : CutBytes). d.bytes) c.in_ok-cut.ensures)
    (c.in-Err.ensures.between l c.args.self.now.copies (with_pools l c.args.self.now c.deref_mut.result.now pools_are follows) is_for told kept)

pub returns-clause-unfailed : goal.returns-clause-unfailed
returns-clause-unfailed g c = λ l follows is_for told kept.
    let pools_are : c.deref_mut.result.now ≡ c.args.self.now.pools = c.deref_mut.ensures.value ∙ ap (λ (s : StorageState). s.pools) c.self.view_is ∙ c.reserve_copy.ensures.pools in
    subst (λ (bytes : List ℕ). SealingFails c.args.unit.now.slots (state_over (g.V.Vault.disk c.args.vault.now).seen l) c.args.image bytes c.in-Err.fault) (ap (λ (d : CutBytes). d.bytes) c.in_ok-cut.ensures)
    (c.in-Err.ensures.unfailed l c.args.self.now.copies (with_pools l c.args.self.now c.deref_mut.result.now pools_are follows) is_for told kept)

pub returns-in-Ok-clause-unfilled : goal.returns-in-Ok-clause-unfilled
returns-in-Ok-clause-unfilled g c = λ l follows is_for told kept lacks.
    let pools_are : c.deref_mut.result.now ≡ c.args.self.now.pools = c.deref_mut.ensures.value ∙ ap (λ (s : StorageState). s.pools) c.self.view_is ∙ c.reserve_copy.ensures.pools in
    let bytes_are : c.in_ok-cut.cut.bytes ≡ c.args.bytes.now = ap (λ (d : CutBytes). d.bytes) c.in_ok-cut.ensures in
    c.in-Ok.ensures.unfilled l c.args.self.now.copies (with_pools l c.args.self.now c.deref_mut.result.now pools_are follows) is_for told kept
    (subst (λ (bytes : List ℕ). HasSlots c.args.unit.now.slots (state_over (g.V.Vault.disk c.args.vault.now).seen l) c.args.image bytes → ⊥) (sym bytes_are) lacks)

pub returns-clause-unfilled : goal.returns-clause-unfilled
returns-clause-unfilled g c = λ l follows is_for told kept lacks.
    let pools_are : c.deref_mut.result.now ≡ c.args.self.now.pools = c.deref_mut.ensures.value ∙ ap (λ (s : StorageState). s.pools) c.self.view_is ∙ c.reserve_copy.ensures.pools in
    let bytes_are : c.in_ok-cut.cut.bytes ≡ c.args.bytes.now = ap (λ (d : CutBytes). d.bytes) c.in_ok-cut.ensures in
    c.in-Err.ensures.unfilled l c.args.self.now.copies (with_pools l c.args.self.now c.deref_mut.result.now pools_are follows) is_for told kept
    (subst (λ (bytes : List ℕ). HasSlots c.args.unit.now.slots (state_over (g.V.Vault.disk c.args.vault.now).seen l) c.args.image bytes → ⊥) (sym bytes_are) lacks)

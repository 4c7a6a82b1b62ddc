use Rattle.std.proofs.Common.{◌∙◌, ℕ, ap, arith, length, subst, sym}
use Rattle.std.specs.Prelude.{IfErr, OnOk}
use Rattle.std.proofs.lemmas.Result.{IfOk-weaker}
use Rattle.segment_pool.specs.Pieces.{pieces}
use Rattle.vault_ledger.specs.Ledger.{state_over}
use Rattle.vault_ledger.specs.Sealing.{HasSlots, SealingFails}
use Rattle.vault_ledger.proofs.StoredBackups.{count_is, err_both, pool_for, ready, sealed_in, slots_are, some_segment, unsealed_in, within}
use Rattle.vault_ledger.proofs.storing.seal_in.Goals as goal

pub bounds-pools-unit : goal.bounds-pools-unit
bounds-pools-unit g c = let known = c.requires.known in within known.0 (record { pools = c.args.pools.now; copies = known.1 }) known.2 c.args.image c.args.unit.now known.3

pub seal_backup-requires-clause-file : goal.seal_backup-requires-clause-file
seal_backup-requires-clause-file g c =
    let is = ready c.args.pools.now c.args.image c.args.unit.now c.requires.known c.index-pools-unit.result c.args.cut.now.size c.args.cut.now.bytes c.requires.size c.requires.length in
    omega (arith, c.from-file.ensures, is.file)

pub seal_backup-requires-clause-size : goal.seal_backup-requires-clause-size
seal_backup-requires-clause-size g c = (ready c.args.pools.now c.args.image c.args.unit.now c.requires.known c.index-pools-unit.result c.args.cut.now.size c.args.cut.now.bytes c.requires.size c.requires.length).size_is

pub seal_backup-requires-clause-few : goal.seal_backup-requires-clause-few
seal_backup-requires-clause-few g c = (ready c.args.pools.now c.args.image c.args.unit.now c.requires.known c.index-pools-unit.result c.args.cut.now.size c.args.cut.now.bytes c.requires.size c.requires.length).few

pub seal_backup-requires-clause-pins : goal.seal_backup-requires-clause-pins
seal_backup-requires-clause-pins g c = (ready c.args.pools.now c.args.image c.args.unit.now c.requires.known c.index-pools-unit.result c.args.cut.now.size c.args.cut.now.bytes c.requires.size c.requires.length).pins

pub seal_backup-requires-clause-counts : goal.seal_backup-requires-clause-counts
seal_backup-requires-clause-counts g c = (ready c.args.pools.now c.args.image c.args.unit.now c.requires.known c.index-pools-unit.result c.args.cut.now.size c.args.cut.now.bytes c.requires.size c.requires.length).counts

pub returns-clause-sealed : goal.returns-clause-sealed
returns-clause-sealed g c = λ l copies follows is_for.
    IfOk-weaker c.seal_backup.result _ _
    (λ slots is.
    sealed_in l (record { pools = c.args.pools.now; copies = copies }) follows c.args.image c.args.unit.now is_for c.index-pools-unit.result c.seal_backup.new.pool (g.V.Vault.disk c.args.vault.now) (g.V.Vault.disk c.seal_backup.new.vault) c.args.journal.now c.seal_backup.new.journal
    c.args.cut.now.bytes slots.items c.seal_backup.ensures.pool is)
    (c.seal_backup.ensures.sealed l follows.order is_for.fits c.requires.length (pool_for l (record { pools = c.args.pools.now; copies = copies }) follows c.args.image c.args.unit.now is_for c.index-pools-unit.result))

pub returns-clause-unsealed : goal.returns-clause-unsealed
returns-clause-unsealed g c = λ l copies follows is_for.
    err_both c.seal_backup.result _ _ _
    (λ fault before is other.
    unsealed_in l (record { pools = c.args.pools.now; copies = copies }) follows c.args.image c.args.unit.now is_for c.index-pools-unit.result c.seal_backup.new.pool (g.V.Vault.disk c.args.vault.now) (g.V.Vault.disk c.seal_backup.new.vault) c.args.journal.now c.seal_backup.new.journal
    (before other).0 (is other))
    c.seal_backup.ensures.refused
    (c.seal_backup.ensures.unsealed l follows.order is_for.fits c.requires.length (pool_for l (record { pools = c.args.pools.now; copies = copies }) follows c.args.image c.args.unit.now is_for c.index-pools-unit.result))

pub returns-clause-between : goal.returns-clause-between
returns-clause-between g c = λ l copies follows is_for.
    c.seal_backup.ensures.between l follows.order is_for.fits c.requires.length (pool_for l (record { pools = c.args.pools.now; copies = copies }) follows c.args.image c.args.unit.now is_for c.index-pools-unit.result)

pub returns-clause-unfailed : goal.returns-clause-unfailed
returns-clause-unfailed g c = λ l copies follows is_for told kept.
    subst (λ (slots : ℕ). IfErr c.seal_backup.result (SealingFails slots (state_over (g.V.Vault.disk c.args.vault.now).seen l) c.args.image c.args.cut.now.bytes))
    (slots_are l (record { pools = c.args.pools.now; copies = copies }) follows c.args.image c.args.unit.now is_for c.index-pools-unit.result)
    (c.seal_backup.ensures.unfailed l follows.order is_for.fits c.requires.length (pool_for l (record { pools = c.args.pools.now; copies = copies }) follows c.args.image c.args.unit.now is_for c.index-pools-unit.result) told kept)

pub returns-clause-slots : goal.returns-clause-slots
returns-clause-slots g c = λ l copies follows is_for told kept.
    subst (λ (slots : ℕ). OnOk c.seal_backup.result (HasSlots slots (state_over (g.V.Vault.disk c.args.vault.now).seen l) c.args.image c.args.cut.now.bytes))
    (slots_are l (record { pools = c.args.pools.now; copies = copies }) follows c.args.image c.args.unit.now is_for c.index-pools-unit.result)
    (c.seal_backup.ensures.slots l follows.order is_for.fits c.requires.length (pool_for l (record { pools = c.args.pools.now; copies = copies }) follows c.args.image c.args.unit.now is_for c.index-pools-unit.result) told kept)

pub returns-clause-unfilled : goal.returns-clause-unfilled
returns-clause-unfilled g c = λ l copies follows is_for told kept lacks.
    c.seal_backup.ensures.unfilled l follows.order is_for.fits c.requires.length (pool_for l (record { pools = c.args.pools.now; copies = copies }) follows c.args.image c.args.unit.now is_for c.index-pools-unit.result) told kept
    (subst (λ (slots : ℕ). HasSlots slots (state_over (g.V.Vault.disk c.args.vault.now).seen l) c.args.image c.args.cut.now.bytes → ⊥)
    (sym (slots_are l (record { pools = c.args.pools.now; copies = copies }) follows c.args.image c.args.unit.now is_for c.index-pools-unit.result)) lacks)

pub returns-clause-count : goal.returns-clause-count
returns-clause-count g c =
    let known = c.requires.known in
    let some = some_segment known.0 (record { pools = c.args.pools.now; copies = known.1 }) known.2 c.args.image c.args.unit.now known.3 in
    IfOk-weaker c.seal_backup.result _ _ (λ slots is. count_is c.args.unit.now.segment (length slots.items) c.args.cut.now.bytes some (is ∙ ap (λ (n : ℕ). length (pieces n c.args.cut.now.bytes)) c.requires.size)) c.seal_backup.ensures.number

use Rattle.std.proofs.Common.{◌≡◌, ◌∙◌, true, subst, rules}
use Rattle.std.specs.Prelude.{IfErr}
use Rattle.segment_pool.specs.Faults.{IsDiskFault}
use Rattle.segment_pool.specs.declared.fault.PoolFault.TheVariants as fault
use Rattle.pool_journal.specs.declared.segments.Segments.{Segments}
use Rattle.copy_fragments.proofs.Refusing.{err_is}
use Rattle.vault_ledger.specs.Keeping.{Between, KeptLedger, SaysLedger}
use Rattle.vault_ledger.specs.Ledger.{backup_fits, live_on, named_on, state_over, with_backup}
use Rattle.vault_ledger.specs.Fitting.{whole_unit}
use Rattle.vault_ledger.specs.Sealing.{IsToRecord, IsUnsealed, SealingFails}
use Rattle.vault_ledger.proofs.SealedBackups.{nothing_between, placing_fails, placing_left, placing_unsealed, sealed_between, sealed_so, slots_enough, slots_lacking, some_size, true_before}
use Rattle.vault_ledger.proofs.sealing.seal_backup.Goals as goal

pub returns-in_err-room-clause-between : goal.returns-in_err-room-clause-between
returns-in_err-room-clause-between g c = λ l order fits long own told kept. nothing_between l _ (g.V.Vault.disk c.args.vault.now) c.args.journal.now kept

pub returns-in_err-room-clause-unfilled : goal.returns-in_err-room-clause-unfilled
returns-in_err-room-clause-unfilled g c = λ l order fits long own told kept lacks. nothing_between l _ (g.V.Vault.disk c.args.vault.now) c.args.journal.now kept

pub returns-in_err-slots-clause-unsealed : goal.returns-in_err-slots-clause-unsealed
returns-in_err-slots-clause-unsealed g c = λ l order fits long own.
    err_is c.from_residual-in_err-slots.result c.in_err-slots.field-0.0 (λ e. (IsDiskFault e → ⊥) → IsUnsealed l (g.V.Vault.disk c.args.vault.now) (g.V.Vault.disk c.store_pieces.new.vault) c.args.journal.now c.args.journal.now) (search rules)
    (λ other. placing_unsealed l order c.args.image c.args.cut.now.bytes c.args.pool.now own (g.V.Vault.disk c.args.vault.now) (g.V.Vault.disk c.store_pieces.new.vault) c.args.journal.now
    (λ told. (_, c.store_pieces.ensures.touches told)) (λ told. (_, c.in_err-slots.ensures.seen_refused told other)))

pub returns-in_err-slots-clause-between : goal.returns-in_err-slots-clause-between
returns-in_err-slots-clause-between g c = λ l order fits long own told kept.
    placing_left l order c.args.image c.args.cut.now.bytes c.args.pool.now own (g.V.Vault.disk c.args.vault.now) (g.V.Vault.disk c.store_pieces.new.vault) c.args.journal.now _ (_, c.store_pieces.ensures.touches told) kept

pub returns-in_err-slots-clause-unfilled : goal.returns-in_err-slots-clause-unfilled
returns-in_err-slots-clause-unfilled g c = λ l order fits long own told kept lacks.
    placing_left l order c.args.image c.args.cut.now.bytes c.args.pool.now own (g.V.Vault.disk c.args.vault.now) (g.V.Vault.disk c.store_pieces.new.vault) c.args.journal.now _ (_, c.store_pieces.ensures.touches told) kept

pub returns-in_err-slots-clause-unfailed : goal.returns-in_err-slots-clause-unfailed
returns-in_err-slots-clause-unfailed g c =
    let is : IfErr c.from_residual-in_err-slots.result (λ e. e ≡ c.in_err-slots.field-0.0) = search rules in
    λ l order fits long own told kept.
    let seen = (g.V.Vault.disk c.args.vault.now).seen in
    let is_true = true_before l order c.args.image c.args.cut.now.bytes c.args.pool.now own seen kept.is_true in
    err_is c.from_residual-in_err-slots.result c.in_err-slots.field-0.0 (SealingFails c.args.pool.now.slots (state_over seen l) c.args.image c.args.cut.now.bytes) is
    (placing_fails l order c.args.image c.args.cut.now.bytes c.args.pool.now own seen c.in_err-slots.field-0.0 _ _ (c.in_err-slots.ensures.told told is_true) (c.in_err-slots.ensures.cause_told told) (c.in_err-slots.ensures.undamaged told is_true))

pub returns-in_err-record_backup-clause-unsealed : goal.returns-in_err-record_backup-clause-unsealed
returns-in_err-record_backup-clause-unsealed g c = λ l order fits long own.
    err_is c.from_residual-in_err-record_backup.result fault.DiskFault (λ e. (IsDiskFault e → ⊥) → IsUnsealed l (g.V.Vault.disk c.args.vault.now) (g.V.Vault.disk c.record_backup.new.vault) c.args.journal.now c.record_backup.new.journal) (search rules)
    (λ other. absurd (other tt))

pub returns-in_err-record_backup-clause-between : goal.returns-in_err-record_backup-clause-between
returns-in_err-record_backup-clause-between g c = λ l order fits long own told kept.
    let old = g.V.Vault.disk c.args.vault.now in
    let mid = g.V.Vault.disk c.store_pieces.new.vault in
    let new = g.V.Vault.disk c.record_backup.new.vault in
    let some = some_size l order c.args.image c.args.cut.now.bytes c.args.pool.now own in
    let holds = c.in_ok-slots.ensures.kept (live_on (whole_unit l.outline c.args.image) l.live) (named_on (whole_unit l.outline c.args.image) l.placements) own.holds in
    let given : Segments = record { added = c.from_vec.result; pieces = c.from_vec-2.result } in
    let are : given ≡ record { added = c.store_pieces.new.added.items; pieces = c.in_ok-slots.slots.items } = λ i. record { added = c.from_vec.ensures i; pieces = (c.from_vec-2.ensures ∙ c.copy_slots.ensures ∙ c.deref.ensures.value) i } in
    sealed_between l order c.args.image c.args.cut.now.bytes c.args.pool.now own fits long c.store_pieces.new.added.items c.in_ok-slots.slots.items c.store_pieces.new.pool c.store_pieces.ensures.pool
    (c.in_ok-slots.ensures.fit (live_on (whole_unit l.outline c.args.image) l.live) (named_on (whole_unit l.outline c.args.image) l.placements) some own.holds) holds.0 holds.1
    old mid new c.args.journal.now c.args.journal.now c.args.file c.requires.file
    (_, c.store_pieces.ensures.touches told) (c.in_ok-slots.ensures.seen told) kept (c.in_ok-slots.ensures.stays_true _ _ told own.holds) (c.in_ok-slots.ensures.spells told some)
    c.store_pieces.ensures.same.sent
    (subst (λ (x : Segments). IsToRecord l c.args.image x c.args.file mid.seen → KeptLedger mid c.args.journal.now l → Between (state_over mid.seen l) (state_over mid.seen (with_backup c.args.image x l)) mid new) are
    (c.record_backup.ensures.between l (c.store_pieces.ensures.same.tells told)))

pub returns-clause-sealed : goal.returns-clause-sealed
returns-clause-sealed g c = λ l order fits long own.
    let old = g.V.Vault.disk c.args.vault.now in
    let mid = g.V.Vault.disk c.store_pieces.new.vault in
    let new = g.V.Vault.disk c.record_backup.new.vault in
    let some = some_size l order c.args.image c.args.cut.now.bytes c.args.pool.now own in
    let holds = c.in_ok-slots.ensures.kept (live_on (whole_unit l.outline c.args.image) l.live) (named_on (whole_unit l.outline c.args.image) l.placements) own.holds in
    let given : Segments = record { added = c.from_vec.result; pieces = c.from_vec-2.result } in
    let are : given ≡ record { added = c.store_pieces.new.added.items; pieces = c.in_ok-slots.slots.items } = λ i. record { added = c.from_vec.ensures i; pieces = (c.from_vec-2.ensures ∙ c.copy_slots.ensures ∙ c.deref.ensures.value) i } in
    sealed_so l order c.args.image c.args.cut.now.bytes c.args.pool.now own fits long c.store_pieces.new.added.items c.in_ok-slots.slots.items c.store_pieces.new.pool c.store_pieces.ensures.pool
    (c.in_ok-slots.ensures.fit (live_on (whole_unit l.outline c.args.image) l.live) (named_on (whole_unit l.outline c.args.image) l.placements) some own.holds) holds.0 holds.1
    old mid new c.args.journal.now c.record_backup.new.journal c.args.file c.requires.file
    (λ told. (_, c.store_pieces.ensures.touches told)) (λ told. c.in_ok-slots.ensures.seen told) (λ told. c.in_ok-slots.ensures.stays_true _ _ told own.holds) (λ told. c.in_ok-slots.ensures.spells told some)
    (λ told. subst (λ (x : Segments). backup_fits l c.args.image x ≡ true → SaysLedger mid c.args.journal.now l → SaysLedger new c.record_backup.new.journal (with_backup c.args.image x l)) are
    (c.in_ok-record_backup.ensures.says l (c.store_pieces.ensures.same.tells told)))
    (λ told. subst (λ (x : Segments). IsToRecord l c.args.image x c.args.file mid.seen → KeptLedger mid c.args.journal.now l → KeptLedger new c.record_backup.new.journal (with_backup c.args.image x l) × (state_over new.seen (with_backup c.args.image x l) ≡ state_over mid.seen (with_backup c.args.image x l))) are
    (c.in_ok-record_backup.ensures.kept l (c.store_pieces.ensures.same.tells told)))

pub returns-clause-between : goal.returns-clause-between
returns-clause-between g c = λ l order fits long own told kept.
    let old = g.V.Vault.disk c.args.vault.now in
    let mid = g.V.Vault.disk c.store_pieces.new.vault in
    let new = g.V.Vault.disk c.record_backup.new.vault in
    let some = some_size l order c.args.image c.args.cut.now.bytes c.args.pool.now own in
    let holds = c.in_ok-slots.ensures.kept (live_on (whole_unit l.outline c.args.image) l.live) (named_on (whole_unit l.outline c.args.image) l.placements) own.holds in
    let given : Segments = record { added = c.from_vec.result; pieces = c.from_vec-2.result } in
    let are : given ≡ record { added = c.store_pieces.new.added.items; pieces = c.in_ok-slots.slots.items } = λ i. record { added = c.from_vec.ensures i; pieces = (c.from_vec-2.ensures ∙ c.copy_slots.ensures ∙ c.deref.ensures.value) i } in
    sealed_between l order c.args.image c.args.cut.now.bytes c.args.pool.now own fits long c.store_pieces.new.added.items c.in_ok-slots.slots.items c.store_pieces.new.pool c.store_pieces.ensures.pool
    (c.in_ok-slots.ensures.fit (live_on (whole_unit l.outline c.args.image) l.live) (named_on (whole_unit l.outline c.args.image) l.placements) some own.holds) holds.0 holds.1
    old mid new c.args.journal.now c.args.journal.now c.args.file c.requires.file
    (_, c.store_pieces.ensures.touches told) (c.in_ok-slots.ensures.seen told) kept (c.in_ok-slots.ensures.stays_true _ _ told own.holds) (c.in_ok-slots.ensures.spells told some)
    c.store_pieces.ensures.same.sent
    (subst (λ (x : Segments). IsToRecord l c.args.image x c.args.file mid.seen → KeptLedger mid c.args.journal.now l → Between (state_over mid.seen l) (state_over mid.seen (with_backup c.args.image x l)) mid new) are
    (c.record_backup.ensures.between l (c.store_pieces.ensures.same.tells told)))

pub returns-clause-slots : goal.returns-clause-slots
returns-clause-slots g c = λ l order fits long own told kept.
    let seen = (g.V.Vault.disk c.args.vault.now).seen in
    let is_true = true_before l order c.args.image c.args.cut.now.bytes c.args.pool.now own seen kept.is_true in
    slots_enough l order c.args.image c.args.cut.now.bytes c.args.pool.now own seen (c.in_ok-slots.ensures.fits told is_true)

pub returns-in_err-record_backup-clause-unfilled : goal.returns-in_err-record_backup-clause-unfilled
returns-in_err-record_backup-clause-unfilled g c = λ l order fits long own told kept lacks.
    let seen = (g.V.Vault.disk c.args.vault.now).seen in
    let is_true = true_before l order c.args.image c.args.cut.now.bytes c.args.pool.now own seen kept.is_true in
    slots_lacking l order c.args.image c.args.cut.now.bytes c.args.pool.now own seen (c.in_ok-slots.ensures.fits told is_true) lacks _ _

pub returns-clause-unfilled : goal.returns-clause-unfilled
returns-clause-unfilled g c = λ l order fits long own told kept lacks.
    let seen = (g.V.Vault.disk c.args.vault.now).seen in
    let is_true = true_before l order c.args.image c.args.cut.now.bytes c.args.pool.now own seen kept.is_true in
    slots_lacking l order c.args.image c.args.cut.now.bytes c.args.pool.now own seen (c.in_ok-slots.ensures.fits told is_true) lacks _ _

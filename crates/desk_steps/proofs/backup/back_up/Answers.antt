use Rattle.std.proofs.Common.{ℕ, List, ap, refl, subst, sym}
use Rattle.site_types.specs.declared.answer.Answer.{Answer}
use Rattle.site_types.specs.declared.answer.Answer.TheVariants.{OutOfMemory}
use Rattle.vault_ledger.specs.Storage.{Follows}
use Rattle.desk_index.specs.Answers.{IsRefusal}
use Rattle.desk_index.specs.Index.{IsIndexOf}
use Rattle.desk_steps.specs.Backups.{SealsNow}
use Rattle.desk_steps.specs.Steps.{StepsOver}
use Rattle.desk_steps.proofs.StepCases.{refused_over}
use Rattle.desk_steps.proofs.StoredSteps.{done_over, fault_over, follows_still, index_back, lists_back, refusal_other, stored_index}
use Rattle.desk_steps.proofs.backup.back_up.Goals as goal

pub returns-in-Err-clause-steps : goal.returns-in-Err-clause-steps
returns-in-Err-clause-steps g c l is =
    refused_over l c.args.request.now c.args.payload.now c.args.moment c.in-Err.refusal (g.V.Vault.disk c.args.vault.now) c.args.journal.now c.args.index.now is (c.in-Err.ensures.refused l is)

pub returns-in_default-clause-steps : goal.returns-in_default-clause-steps
returns-in_default-clause-steps g c l is =
    refused_over l c.args.request.now c.args.payload.now c.args.moment OutOfMemory (g.V.Vault.disk c.args.vault.now) c.args.journal.now c.prepare.new.index (subst (IsIndexOf l) (sym c.in_default.ensures.unchanged) is) (λ d all. (tt, refl))

pub returns-in-Ok-store_backup-clause-steps : goal.returns-in-Ok-store_backup-clause-steps
returns-in-Ok-store_backup-clause-steps g c l is =
    let image = c.in-Ok.chosen.image in
    let line = c.in-Ok.chosen.line in
    let bytes = c.bytes-bytes.result.now in
    let old = g.V.Vault.disk c.args.vault.now in
    let new = g.V.Vault.disk c.store_backup.new.vault in
    let seals = subst (λ (b : List ℕ). SealsNow l c.args.request.now c.args.payload.now c.args.moment image b line) (sym c.bytes-bytes.ensures) (c.in-Ok.ensures.seals l is) in
    let is_for = c.in-Ok-prepare.ensures.unit l is seals.fits in
    let admitted = c.in-Ok-prepare.ensures.admitted in
    let follows = follows_still l image c.args.index.now c.prepare.new.index is admitted in
    let stored = c.in-Ok-store_backup.ensures.stored l follows is_for in
    done_over l c.args.request.now c.requires.backup c.args.payload.now c.args.moment image bytes line seals c.in-Ok-prepare.prepared.unit is_for old new c.args.journal.now c.store_backup.new.journal c.store_backup.new.self stored (record (c.prepare.new.index) { storage = c.store_backup.new.self })
    (stored_index l image bytes old new c.args.journal.now c.store_backup.new.journal c.args.index.now c.prepare.new.index c.store_backup.new.self is admitted stored)
    (c.in-Ok-store_backup.ensures.between l follows is_for) (c.in-Ok-store_backup.ensures.slots l follows is_for)

pub returns-clause-steps : goal.returns-clause-steps
returns-clause-steps g c l is =
    let image = c.in-Ok.chosen.image in
    let line = c.in-Ok.chosen.line in
    let bytes = c.bytes-bytes.result.now in
    let old = g.V.Vault.disk c.args.vault.now in
    let new = g.V.Vault.disk c.store_backup.new.vault in
    let seals = subst (λ (b : List ℕ). SealsNow l c.args.request.now c.args.payload.now c.args.moment image b line) (sym c.bytes-bytes.ensures) (c.in-Ok.ensures.seals l is) in
    let is_for = c.in-Ok-prepare.ensures.unit l is seals.fits in
    let admitted = c.in-Ok-prepare.ensures.admitted in
    let follows = follows_still l image c.args.index.now c.prepare.new.index is admitted in
    let unstored = c.in-Err-store_backup.ensures.unstored l follows is_for in
    let same = lists_back l image c.args.index.now c.prepare.new.index c.expel.new.self c.in-Ok-prepare.prepared.id c.in-Ok-prepare.prepared.last is seals.fits admitted c.in-Ok-prepare.ensures.id c.in-Ok-prepare.ensures.last c.expel.ensures.back in
    subst (λ (a : Answer). StepsOver l c.args.request.now c.args.payload.now c.args.moment a old new c.args.journal.now c.store_backup.new.journal c.expel.new.self) (sym c.unstored_answer.ensures)
    (fault_over l c.args.request.now c.requires.backup c.args.payload.now c.args.moment image bytes line seals c.in-Ok-prepare.prepared.unit is_for old new c.args.journal.now c.store_backup.new.journal c.in-Err-store_backup.fault c.store_backup.new.self c.expel.new.self unstored
    (λ other. index_back l c.args.index.now c.expel.new.self is same (subst (Follows l) (sym c.expel.ensures.storage) (unstored other).follows))
    (c.in-Err-store_backup.ensures.unfailed l follows is_for) (c.in-Err-store_backup.ensures.between l follows is_for) (c.in-Err-store_backup.ensures.unfilled l follows is_for)
    (λ none. ap g.V.Vault.disk (c.in-Err-store_backup.ensures.memory none)))

pub returns-clause-refused : goal.returns-clause-refused
returns-clause-refused g c refusal =
    let known = c.requires.known in
    let image = c.in-Ok.chosen.image in
    let admitted = c.in-Ok-prepare.ensures.admitted in (
      lists_back known.0 image c.args.index.now c.prepare.new.index c.expel.new.self c.in-Ok-prepare.prepared.id c.in-Ok-prepare.prepared.last known.1 (c.in-Ok.ensures.seals known.0 known.1).fits admitted c.in-Ok-prepare.ensures.id c.in-Ok-prepare.ensures.last c.expel.ensures.back,
      c.in-Err-store_backup.ensures.refused (refusal_other c.in-Err-store_backup.fault c.in-Ok-prepare.prepared.unit.slots (subst IsRefusal c.unstored_answer.ensures refusal)),
    )

use Rattle.std.proofs.Common.{◌∙◌, List, [], ◌∷◌, arith, refl, sym, subst}
use Rattle.std.specs.Prelude.{Contains}
use Rattle.site_types.specs.Classes.{class_of}
use Rattle.site_types.specs.declared.id.BackupId.{BackupId}
use Rattle.site_types.specs.declared.answer.Answer.{Answer}
use Rattle.desk_index.specs.Index.{IsIndexOf}
use Rattle.desk_steps.specs.Steps.{StepsOver}
use Rattle.desk_steps.specs.Readings.{IsWholeImage}
use Rattle.desk_steps.specs.Asked.{ReadsFail}
use Rattle.desk_steps.proofs.AskedImages.{damaged_so, fault_not_given, not_damaged, not_given, one_fails, one_read, only_read}
use Rattle.desk_steps.proofs.RestoredImages.{fault_over, given_over}
use Rattle.desk_steps.proofs.StepCases.{refused_over}
use Rattle.desk_steps.proofs.restoring.restore.Goals as goal

pub returns-in-Err-clause-steps : goal.returns-in-Err-clause-steps
returns-in-Err-clause-steps g c l end is =
    refused_over l c.args.request.now c.args.payload.now c.args.moment c.in-Err.refusal (g.V.Vault.disk c.args.vault.now) end c.args.index.now is (c.in-Err.ensures.refused l is)

pub returns-in-Ok-clause-steps : goal.returns-in-Ok-clause-steps
returns-in-Ok-clause-steps g c l end is =
    let r = c.requires.restore in
    let there = c.in_default.ensures.there l c.args.id.now r.0 is r.1 in
    given_over l c.read_image.new.index (subst (IsIndexOf l) (sym c.read_image.ensures.index) is) c.args.id.now there c.args.request.now c.args.payload.now c.args.moment (c.in_default.ensures.steps l c.args.id.now r.0 is r.1) (g.V.Vault.disk c.args.vault.now)
    (g.V.Vault.disk c.read_image.new.vault) end c.read_image.ensures.looked c.in-Ok.body (c.in-Ok.ensures.bytes l is there)

pub returns-in-Err-clause-whole : goal.returns-in-Err-clause-whole
returns-in-Err-clause-whole g c l given one is told same among = absurd (not_given c.in-Err.refusal c.in-Err.ensures.unread given same)

pub returns-in-Err-clause-damaged : goal.returns-in-Err-clause-damaged
returns-in-Err-clause-damaged g c l recorded found is told same = absurd (not_damaged c.in-Err.refusal c.in-Err.ensures.unread recorded found same)

pub returns-in-Ok-clause-whole : goal.returns-in-Ok-clause-whole
returns-in-Ok-clause-whole g c l given one is told same among =
    let r = c.requires.restore in
    let here = subst (λ (ids : List BackupId). Contains ids one) (sym (one_read c.args.id.now r.0 (class_of c.args.request.now) r.1 c.args.moment l.outline)) among in
    subst (λ (id : BackupId). IsWholeImage (g.V.Vault.disk c.args.vault.now).seen l id) (only_read c.args.id.now one here) (c.in-Ok.ensures.whole l is told)

pub returns-in-Err-read_image-clause-whole : goal.returns-in-Err-read_image-clause-whole
returns-in-Err-read_image-clause-whole g c l given one is told same among = absurd (fault_not_given c.in-Err-read_image.fault given (sym c.answer_of.ensures ∙ same))

pub returns-in-Err-read_image-clause-damaged : goal.returns-in-Err-read_image-clause-damaged
returns-in-Err-read_image-clause-damaged g c l recorded found is told same =
    let r = c.requires.restore in
    damaged_so (g.V.Vault.disk c.args.vault.now).seen l _ c.in-Err-read_image.fault recorded found
    (subst (λ (ids : List BackupId). ReadsFail (g.V.Vault.disk c.args.vault.now).seen l ids c.in-Err-read_image.fault) (one_read c.args.id.now r.0 (class_of c.args.request.now) r.1 c.args.moment l.outline)
    (one_fails (g.V.Vault.disk c.args.vault.now).seen l is.follows.order c.args.id.now (c.in_default.ensures.there l c.args.id.now r.0 is r.1) (c.args.id.now ∷ []) (0, omega arith, refl) c.in-Err-read_image.fault
    (λ image copy of. c.in-Err-read_image.ensures.fails l image copy is of told))) (sym c.answer_of.ensures ∙ same)

pub returns-in-Err-read_image-clause-steps : goal.returns-in-Err-read_image-clause-steps
returns-in-Err-read_image-clause-steps g c l end is =
    let r = c.requires.restore in
    subst (λ (a : Answer). StepsOver l c.args.request.now c.args.payload.now c.args.moment a (g.V.Vault.disk c.args.vault.now) (g.V.Vault.disk c.read_image.new.vault) end end c.read_image.new.index) (sym c.answer_of.ensures)
    (fault_over l c.read_image.new.index (subst (IsIndexOf l) (sym c.read_image.ensures.index) is) c.args.id.now (c.in_default.ensures.there l c.args.id.now r.0 is r.1) c.args.request.now c.args.payload.now c.args.moment (c.in_default.ensures.steps l c.args.id.now r.0 is r.1) (g.V.Vault.disk c.args.vault.now)
    (g.V.Vault.disk c.read_image.new.vault) end c.read_image.ensures.looked c.in-Err-read_image.fault (λ told image copy of. c.in-Err-read_image.ensures.fails l image copy is of told))

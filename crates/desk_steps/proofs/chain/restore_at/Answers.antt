use Rattle.std.proofs.Common.{◌∙◌, List, sym, subst}
use Rattle.std.specs.Prelude.{Contains}
use Rattle.site_types.specs.declared.answer.Answer.{Answer}
use Rattle.site_types.specs.declared.id.BackupId.{BackupId}
use Rattle.desk_model.specs.Restores.{given_by}
use Rattle.desk_index.specs.Index.{IsIndexOf}
use Rattle.desk_steps.specs.Steps.{StepsOver}
use Rattle.desk_steps.specs.Asked.{ReadsFail}
use Rattle.desk_steps.specs.Chains.{GivesChain}
use Rattle.desk_steps.proofs.AskedImages.{damaged_so, given_undamaged, not_damaged, not_given}
use Rattle.desk_steps.proofs.RestoredChains.{chain_over, unread_over, wanted_in}
use Rattle.desk_steps.proofs.StepCases.{refused_over}
use Rattle.desk_steps.proofs.chain.restore_at.Goals as goal

pub returns-in-Err-clause-steps : goal.returns-in-Err-clause-steps
returns-in-Err-clause-steps g c l end is =
    refused_over l c.args.request.now c.args.payload.now c.args.moment c.in-Err.refusal (g.V.Vault.disk c.args.vault.now) end c.args.index.now is (c.in-Err.ensures.refused l is)

pub read_images-requires : goal.read_images-requires
read_images-requires g c =
    let known = c.requires.known in
    record { there = (known.0, known.1, λ id among. c.in-Ok.ensures.there known.0 known.1 id (wanted_in c.in-Ok.chain.files c.in-Ok.chain.ids id (subst (λ (ids : List BackupId). Contains ids id) c.wanted.ensures among))) }

pub returns-in-Ok-read_images-clause-steps : goal.returns-in-Ok-read_images-clause-steps
returns-in-Ok-read_images-clause-steps g c l end is =
    let there = λ (id : BackupId) (among : Contains c.wanted.result.now id). c.in-Ok.ensures.there l is id (wanted_in c.in-Ok.chain.files c.in-Ok.chain.ids id (subst (λ (ids : List BackupId). Contains ids id) c.wanted.ensures among)) in
    chain_over l c.read_images.new.index (subst (IsIndexOf l) (sym c.read_images.ensures.index) is) c.in-Ok.chain.files c.wanted.result.now c.args.request.now c.args.payload.now c.args.moment
    (subst (λ (ids : List BackupId). GivesChain l c.in-Ok.chain.files ids c.args.request.now c.args.payload.now c.args.moment) (sym c.wanted.ensures) (c.in-Ok.ensures.steps l is))
    (g.V.Vault.disk c.args.vault.now) (g.V.Vault.disk c.read_images.new.vault) end c.read_images.ensures.looked c.in-Ok-read_images.images.items (c.in-Ok-read_images.ensures.bytes l is there) c.given_back.result c.given_back.ensures

pub returns-clause-steps : goal.returns-clause-steps
returns-clause-steps g c l end is =
    let there = λ (id : BackupId) (among : Contains c.wanted.result.now id). c.in-Ok.ensures.there l is id (wanted_in c.in-Ok.chain.files c.in-Ok.chain.ids id (subst (λ (ids : List BackupId). Contains ids id) c.wanted.ensures among)) in
    subst (λ (a : Answer). StepsOver l c.args.request.now c.args.payload.now c.args.moment a (g.V.Vault.disk c.args.vault.now) (g.V.Vault.disk c.read_images.new.vault) end end c.read_images.new.index) (sym c.answer_of.ensures)
    (unread_over l c.read_images.new.index (subst (IsIndexOf l) (sym c.read_images.ensures.index) is) c.in-Ok.chain.files c.wanted.result.now c.args.request.now c.args.payload.now c.args.moment
    (subst (λ (ids : List BackupId). GivesChain l c.in-Ok.chain.files ids c.args.request.now c.args.payload.now c.args.moment) (sym c.wanted.ensures) (c.in-Ok.ensures.steps l is))
    (g.V.Vault.disk c.args.vault.now) (g.V.Vault.disk c.read_images.new.vault) end c.read_images.ensures.looked c.requires.restore c.in-Err-read_images.fault (c.in-Err-read_images.ensures.undamaged l is there))

pub returns-in-Err-clause-whole : goal.returns-in-Err-clause-whole
returns-in-Err-clause-whole g c l given id is told same among = absurd (not_given c.in-Err.refusal c.in-Err.ensures.unread given same)

pub returns-in-Ok-read_images-clause-whole : goal.returns-in-Ok-read_images-clause-whole
returns-in-Ok-read_images-clause-whole g c l given id is told same among =
    c.in-Ok-read_images.ensures.whole l is told id (subst (λ (ids : List BackupId). Contains ids id) (sym (c.wanted.ensures ∙ c.in-Ok.ensures.asked l is)) among)

pub returns-in-Err-clause-damaged : goal.returns-in-Err-clause-damaged
returns-in-Err-clause-damaged g c l recorded found is told same = absurd (not_damaged c.in-Err.refusal c.in-Err.ensures.unread recorded found same)

pub returns-in-Ok-read_images-clause-damaged : goal.returns-in-Ok-read_images-clause-damaged
returns-in-Ok-read_images-clause-damaged g c l recorded found is told same =
    absurd (given_undamaged (given_by c.in-Ok.chain.files c.in-Ok-read_images.images.items) c.given_back.result c.given_back.ensures recorded found same)

pub returns-clause-damaged : goal.returns-clause-damaged
returns-clause-damaged g c l recorded found is told same =
    let there = λ (id : BackupId) (among : Contains c.wanted.result.now id). c.in-Ok.ensures.there l is id (wanted_in c.in-Ok.chain.files c.in-Ok.chain.ids id (subst (λ (ids : List BackupId). Contains ids id) c.wanted.ensures among)) in
    damaged_so (g.V.Vault.disk c.args.vault.now).seen l _ c.in-Err-read_images.fault recorded found
    (subst (λ (ids : List BackupId). ReadsFail (g.V.Vault.disk c.args.vault.now).seen l ids c.in-Err-read_images.fault) (c.wanted.ensures ∙ c.in-Ok.ensures.asked l is) (c.in-Err-read_images.ensures.fails l is there told)) (sym c.answer_of.ensures ∙ same)

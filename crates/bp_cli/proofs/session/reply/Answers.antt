use Rattle.std.proofs.Common.{refl, ◌∙◌, inl, inr}
use Rattle.site_types.specs.Answers.{text_of}
use Rattle.site_types.specs.declared.answer.Answer.TheVariants.{OutOfMemory}
use Rattle.bp_cli.proofs.Running.{sent_so}
use Rattle.bp_cli.proofs.session.reply.Goals as goal

pub returns-in-Some-clause-sent : goal.returns-in-Some-clause-sent
returns-in-Some-clause-sent g c = sent_so text_of c.args.answer.now c.args.answer.now c.in-Some.text.now c.number.result (g.M.Vault.disk c.args.machine.now) (g.M.Vault.disk c.deliver.new.machine) c.deliver.result (inl refl) c.in-Some.ensures c.number.ensures c.deliver.ensures.status c.deliver.ensures.delivers

pub returns-in-Ok-clause-sent : goal.returns-in-Ok-clause-sent
returns-in-Ok-clause-sent g c = sent_so text_of c.args.answer.now c.args.answer.now c.deref.result.now c.number-in-Ok.result (g.M.Vault.disk c.args.machine.now) (g.M.Vault.disk c.deliver-in-Ok.new.machine) c.deliver-in-Ok.result (inl refl) (c.deref.ensures.value ∙ c.in-Ok.ensures) c.number-in-Ok.ensures c.deliver-in-Ok.ensures.status c.deliver-in-Ok.ensures.delivers

pub returns-in-Err-clause-sent : goal.returns-in-Err-clause-sent
returns-in-Err-clause-sent g c = sent_so text_of c.args.answer.now OutOfMemory _ c.number-in-Err.result (g.M.Vault.disk c.args.machine.now) (g.M.Vault.disk c.deliver-in-Err.new.machine) c.deliver-in-Err.result (inr (refl, c.in-None.ensures)) refl c.number-in-Err.ensures c.deliver-in-Err.ensures.status c.deliver-in-Err.ensures.delivers

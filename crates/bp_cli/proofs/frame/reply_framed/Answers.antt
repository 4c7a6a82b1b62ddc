use Rattle.std.proofs.Common.{refl, ◌∙◌, ap, ℕ, inl, inr}
use Rattle.std.specs.Prelude.{codes}
use Rattle.site_types.specs.declared.answer.Answer.TheVariants.{OutOfMemory}
use Rattle.bp_cli.specs.Sessions.{frame, framed}
use Rattle.bp_cli.proofs.Running.{sent_so}
use Rattle.bp_cli.proofs.frame.reply_framed.Goals as goal

pub returns-in-Some-clause-sent : goal.returns-in-Some-clause-sent
returns-in-Some-clause-sent g c =
    sent_so framed c.args.answer.now c.args.answer.now (frame c.number.result c.in-Some.text.now) c.number.result (g.M.Vault.disk c.args.desk.now.vault) (g.M.Vault.disk c.send_numbered.new.desk.vault) c.send_numbered.result
    (inl refl) (λ i. frame (c.number.ensures i) (c.in-Some.ensures i)) c.number.ensures c.send_numbered.ensures.status c.send_numbered.ensures.delivers

pub returns-in-Ok-clause-sent : goal.returns-in-Ok-clause-sent
returns-in-Ok-clause-sent g c =
    sent_so framed c.args.answer.now c.args.answer.now (frame c.number-in-Ok.result c.deref.result.now) c.number-in-Ok.result (g.M.Vault.disk c.args.desk.now.vault) (g.M.Vault.disk c.send_numbered-in-Ok.new.desk.vault) c.send_numbered-in-Ok.result
    (inl refl) (λ i. frame (c.number-in-Ok.ensures i) ((c.deref.ensures.value ∙ c.in-Ok.ensures) i)) c.number-in-Ok.ensures c.send_numbered-in-Ok.ensures.status c.send_numbered-in-Ok.ensures.delivers

pub returns-in-Err-clause-sent : goal.returns-in-Err-clause-sent
returns-in-Err-clause-sent g c =
    sent_so framed c.args.answer.now OutOfMemory _ c.number-in-Err.result (g.M.Vault.disk c.args.desk.now.vault) (g.M.Vault.disk c.send_numbered-in-Err.new.desk.vault) c.send_numbered-in-Err.result
    (inr (refl, c.in-None.ensures)) (ap (λ (n : ℕ). frame n (codes "out of memory\n")) c.number-in-Err.ensures) c.number-in-Err.ensures c.send_numbered-in-Err.ensures.status c.send_numbered-in-Err.ensures.delivers

use Rattle.std.proofs.Common.{refl, sym, ◌∙◌, ap, subst, inl, inr}
use Rattle.site_types.specs.Answers.{NeedsMemory}
use Rattle.site_types.specs.declared.answer.Answer.TheVariants.{OutOfMemory, DiskFault, NotAVault}
use Rattle.pool_journal.specs.declared.fault.JournalFault.{JournalFault}
use Rattle.bp_cli.specs.Runs.{refusal_of}
use Rattle.bp_cli.specs.Sessions.{framed}
use Rattle.bp_cli.proofs.Framing.{frame_of_memory, frame_of_fault}
use Rattle.bp_cli.proofs.Running.{sent_so}
use Rattle.bp_cli.proofs.session.reply_unopened.Goals as goal

pub returns-in-NoMemory-clause-sent : goal.returns-in-NoMemory-clause-sent
returns-in-NoMemory-clause-sent g c =
    sent_so framed (refusal_of c.args.fault) OutOfMemory _ 1 (g.M.Vault.disk c.args.machine.now) (g.M.Vault.disk c.deliver.new.machine) c.deliver.result (inl (sym (ap refusal_of c.in-NoMemory.is))) frame_of_memory refl c.deliver.ensures.status c.deliver.ensures.delivers

pub returns-in-DiskFault-clause-sent : goal.returns-in-DiskFault-clause-sent
returns-in-DiskFault-clause-sent g c =
    sent_so framed (refusal_of c.args.fault) DiskFault _ 18 (g.M.Vault.disk c.args.machine.now) (g.M.Vault.disk c.deliver-in-DiskFault.new.machine) c.deliver-in-DiskFault.result (inl (sym (ap refusal_of c.in-DiskFault.is))) frame_of_fault refl c.deliver-in-DiskFault.ensures.status c.deliver-in-DiskFault.ensures.delivers

pub returns-in-Ok-clause-sent : goal.returns-in-Ok-clause-sent
returns-in-Ok-clause-sent g c =
    sent_so framed (refusal_of c.args.fault) (NotAVault c.in-NotAVault.offset) c.deref.result.now 22 (g.M.Vault.disk c.args.machine.now) (g.M.Vault.disk c.deliver-in-Ok.new.machine) c.deliver-in-Ok.result (inl (sym (ap refusal_of c.in-NotAVault.is))) (c.deref.ensures.value ∙ c.in-Ok.ensures) refl c.deliver-in-Ok.ensures.status c.deliver-in-Ok.ensures.delivers

pub returns-clause-sent : goal.returns-clause-sent
returns-clause-sent g c =
    sent_so framed (refusal_of c.args.fault) OutOfMemory _ 1 (g.M.Vault.disk c.args.machine.now) (g.M.Vault.disk c.deliver-in-Err.new.machine) c.deliver-in-Err.result (inr (refl, subst (λ (f : JournalFault). NeedsMemory (refusal_of f)) (sym c.in-NotAVault.is) tt)) frame_of_memory refl c.deliver-in-Err.ensures.status c.deliver-in-Err.ensures.delivers

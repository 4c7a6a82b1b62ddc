use Rattle.std.proofs.Common.{◌∙◌, ◌++◌, ap, sym, List, ℕ, length}
use Rattle.std.specs.Fmt.{decimal}
use Rattle.bp_cli.specs.Sessions.{frame}
use Rattle.bp_cli.proofs.Framing.{frame_split, sends_head, sends_both}
use Rattle.bp_cli.proofs.frame.send_frame.Goals as goal

pub returns-in-Ok-clause-sends : goal.returns-in-Ok-clause-sends
returns-in-Ok-clause-sends g c told =
    let all = frame_split (decimal c.args.number) (decimal (length c.args.text.now)) c.args.text.now ∙ ap (λ (l : List ℕ). l ++ c.args.text.now) (sym (c.deref.ensures.value ∙ c.write_head.ensures.items)) in
    sends_both c.deref.result.now c.args.text.now (frame c.args.number c.args.text.now) all (g.M.Vault.disk c.args.desk.now.vault) (g.M.Vault.disk c.send.new.self.vault) c.in-Ok.field-0 c.send-in-Ok.result (g.M.Vault.disk c.send-in-Ok.new.self.vault) (c.in-Ok.ensures.sends told) (c.send-in-Ok.ensures.sends (c.send.ensures.same.tells told))

pub returns-in-Err-clause-sends : goal.returns-in-Err-clause-sends
returns-in-Err-clause-sends g c told =
    let all = frame_split (decimal c.args.number) (decimal (length c.args.text.now)) c.args.text.now ∙ ap (λ (l : List ℕ). l ++ c.args.text.now) (sym (c.deref.ensures.value ∙ c.write_head.ensures.items)) in
    sends_head c.deref.result.now c.args.text.now (frame c.args.number c.args.text.now) all (g.M.Vault.disk c.args.desk.now.vault) (g.M.Vault.disk c.send.new.self.vault) c.in-Err.failed _ (c.in-Err.ensures.sends told)

use Rattle.std.proofs.Common.{◌∙◌, sym, subst}
use Rattle.site_types.specs.declared.answer.Answer.TheVariants.{OutOfMemory}
use Rattle.site_desk.specs.Desk.{DeskValue}
use Rattle.bp_cli.specs.Gather.{IsUnasked}
use Rattle.bp_cli.specs.Runs.{Sent}
use Rattle.bp_cli.specs.Sessions.{framed}
use Rattle.bp_cli.proofs.Asking.{unasked}
use Rattle.bp_cli.proofs.Turning.{running_on, turned_by}
use Rattle.bp_cli.proofs.turn.take_turn.Goals as goal

pub returns-in-Some-clause-turns : goal.returns-in-Some-clause-turns
returns-in-Some-clause-turns g c =
    turned_by c.args.asked.now.words c.args.asked.now.payload c.args.desk.now.state c.answer_request.new.desk.state c.reply_framed.new.desk.state (g.M.Vault.disk c.args.desk.now.vault) (g.M.Vault.disk c.answer_request.new.desk.vault) (g.M.Vault.disk c.reply_framed.new.desk.vault) (g.C.Clock.ticks c.args.clock.now) (g.C.Clock.ticks c.answer_request.new.clock)
    c.in-Some.answer c.reply_framed.result c.behind_reply.result c.behind_reply.ensures c.in-Some.ensures.acted c.answer_request.ensures.same c.reply_framed.ensures.same c.reply_framed.ensures.state c.reply_framed.ensures.sent

pub returns-in-Some-clause-running : goal.returns-in-Some-clause-running
returns-in-Some-clause-running g c on =
    c.reply_framed.ensures.stopped ∙ c.in-Some.ensures.running (running_on framed c.in-Some.answer (g.M.Vault.disk c.answer_request.new.desk.vault) (g.M.Vault.disk c.reply_framed.new.desk.vault) c.reply_framed.result c.behind_reply.result c.reply_framed.ensures.sent c.behind_reply.ensures on)

pub returns-in-None-clause-turns : goal.returns-in-None-clause-turns
returns-in-None-clause-turns g c =
    let same = c.answer_request.ensures.unread c.in-None.is in (
      subst (λ (x : DeskValue g.row.M.Denot). Sent framed OutOfMemory (g.M.Vault.disk x.vault) (g.M.Vault.disk c.reply_framed-in-None.new.desk.vault) c.reply_framed-in-None.result) same.0 c.reply_framed-in-None.ensures.sent,
      subst (λ (x : g.row.C.Denot). IsUnasked (g.C.Clock.ticks c.args.clock.now) (g.C.Clock.ticks x)) (sym same.1) (unasked (g.C.Clock.ticks c.args.clock.now)),
    )

use Rattle.std.proofs.Common.{◌++◌, ℕ, refl, sym, subst, arith}
use Rattle.bp_cli.specs.Sessions.{IsTurned, ServesOn}
use Rattle.bp_cli.specs.declared.turn.Turned.{Turned}
use Rattle.bp_cli.proofs.Asking.{unasked}
use Rattle.bp_cli.proofs.Later.{later_none, later_on, input_none, input_on, clock_none, clock_on}
use Rattle.bp_cli.proofs.Serving.{served_none, served_more, served_all, over, closed, broken_off, last_turn}
use Rattle.bp_cli.proofs.serve.serve.Goals as goal

pub loop-init : goal.loop-init
loop-init g c = record {
  running = c.requires.running;
  room = c.requires.room;
  later = later_none (g.M.Vault.disk c.args.desk.now.vault);
  input = input_none (g.S.Source.input c.args.source.now);
  clock = clock_none (g.C.Clock.ticks c.args.clock.now);
  served = served_none c.args.desk.now.state (g.M.Vault.disk c.args.desk.now.vault) (g.S.Source.input c.args.source.now) c.args.text.now (g.C.Clock.ticks c.args.clock.now) c.requires.new;
}

pub returns-in-Over-clause-serves : goal.returns-in-Over-clause-serves
returns-in-Over-clause-serves g c =
    let i = c.loop.invariant in
    let turned = subst (λ (t : Turned). IsTurned c.in-Request.asked.words c.in-Request.asked.payload c.loop.desk.state c.take_turn.new.desk.state (g.M.Vault.disk c.loop.desk.vault) (g.M.Vault.disk c.take_turn.new.desk.vault) (g.C.Clock.ticks c.loop.clock) (g.C.Clock.ticks c.take_turn.new.clock) t) c.in-Over.is c.take_turn.ensures.turns in
    over i.served i.later i.input i.clock c.in-Request.asked.words c.in-Request.asked.payload (g.S.Source.input c.next.new.source) (c.next.new.self ++ (g.S.Source.input c.next.new.source).left) (λ tells. c.in-Request.ensures.turns (i.input.tells tells)) turned.0 turned.1

pub returns-in-Closed-clause-serves : goal.returns-in-Closed-clause-serves
returns-in-Closed-clause-serves g c =
    let i = c.loop.invariant in
    let turned = subst (λ (t : Turned). IsTurned c.in-Request.asked.words c.in-Request.asked.payload c.loop.desk.state c.take_turn.new.desk.state (g.M.Vault.disk c.loop.desk.vault) (g.M.Vault.disk c.take_turn.new.desk.vault) (g.C.Clock.ticks c.loop.clock) (g.C.Clock.ticks c.take_turn.new.clock) t) c.in-Closed.is c.take_turn.ensures.turns in
    closed i.served i.later i.input i.clock (g.S.Source.input c.next.new.source) (g.C.Clock.ticks c.take_turn.new.clock) turned.1 turned.0 (λ z. omega (arith, z)) tt (c.loop.text ++ (g.S.Source.input c.loop.source).left) (λ tells. refl) tt

pub returns-in-Last-clause-serves : goal.returns-in-Last-clause-serves
returns-in-Last-clause-serves g c =
    let i = c.loop.invariant in
    subst (λ (n : ℕ). ServesOn c.args.desk.now.state (g.M.Vault.disk c.args.desk.now.vault) (g.M.Vault.disk c.take_turn-in-Last.new.desk.vault) (g.S.Source.input c.args.source.now) (g.S.Source.input c.next.new.source) (g.C.Clock.ticks c.args.clock.now) (g.C.Clock.ticks c.take_turn-in-Last.new.clock) n) (sym c.last_status.ensures)
    (last_turn i.served i.later i.input i.clock c.in-Last.asked.words c.in-Last.asked.payload c.take_turn-in-Last.new.desk.state (g.M.Vault.disk c.take_turn-in-Last.new.desk.vault) (g.C.Clock.ticks c.take_turn-in-Last.new.clock) (g.S.Source.input c.next.new.source) c.next.new.self (λ tells. c.in-Last.ensures.turns (i.input.tells tells)) (λ tells. (c.in-Last.ensures.whole (i.input.tells tells)).1)
    c.take_turn-in-Last.result c.take_turn-in-Last.ensures.turns (later_on i.later c.take_turn-in-Last.ensures.later) (input_on i.input c.next.ensures.same) (clock_on i.clock c.take_turn-in-Last.ensures.clock))

pub returns-in-Broken-clause-serves : goal.returns-in-Broken-clause-serves
returns-in-Broken-clause-serves g c =
    let i = c.loop.invariant in
    broken_off i.served i.later i.input i.clock (g.S.Source.input c.next.new.source) (g.C.Clock.ticks c.loop.clock) (unasked (g.C.Clock.ticks c.loop.clock)) c.reply_framed.ensures.sent (λ z. omega (arith, z)) tt c.in-Broken.index refl (λ tells. c.in-Broken.ensures.turns (i.input.tells tells))

pub returns-in-End-clause-serves : goal.returns-in-End-clause-serves
returns-in-End-clause-serves g c =
    let i = c.loop.invariant in
    served_all i.served i.later i.input i.clock (g.S.Source.input c.next.new.source) c.next.new.self (λ tells. (c.in-End.ensures.next (i.input.tells tells)).0) (λ tells. (c.in-End.ensures.next (i.input.tells tells)).1)

pub returns-in-Failed-clause-serves : goal.returns-in-Failed-clause-serves
returns-in-Failed-clause-serves g c =
    let i = c.loop.invariant in
    closed i.served i.later i.input i.clock (g.S.Source.input c.next.new.source) (g.C.Clock.ticks c.loop.clock) (unasked (g.C.Clock.ticks c.loop.clock)) c.reply_framed-in-Failed.ensures.sent (λ z. omega (arith, z)) (c.next.ensures.failed c.in-Failed.is) (c.next.new.self ++ (g.S.Source.input c.next.new.source).left)
    (λ tells. (c.in-Failed.ensures.next (i.input.tells tells)).0) (λ tells. (c.next.new.self, refl, (c.in-Failed.ensures.next (i.input.tells tells)).1))

pub returns-in-NoMemory-clause-serves : goal.returns-in-NoMemory-clause-serves
returns-in-NoMemory-clause-serves g c =
    let i = c.loop.invariant in
    closed i.served i.later i.input i.clock (g.S.Source.input c.next.new.source) (g.C.Clock.ticks c.loop.clock) (unasked (g.C.Clock.ticks c.loop.clock)) c.reply_framed-in-NoMemory.ensures.sent (λ z. omega (arith, z)) tt (c.loop.text ++ (g.S.Source.input c.loop.source).left) (λ tells. refl) tt

pub loop-preserved : goal.loop-preserved
loop-preserved g c =
    let i = c.loop.invariant in
    let turned = subst (λ (t : Turned). IsTurned c.in-Request.asked.words c.in-Request.asked.payload c.loop.desk.state c.take_turn.new.desk.state (g.M.Vault.disk c.loop.desk.vault) (g.M.Vault.disk c.take_turn.new.desk.vault) (g.C.Clock.ticks c.loop.clock) (g.C.Clock.ticks c.take_turn.new.clock) t) c.in-On.is c.take_turn.ensures.turns in
    record {
      running = c.take_turn.ensures.running c.in-On.is;
      room = c.take_turn.ensures.room;
      later = later_on i.later c.take_turn.ensures.later;
      input = input_on i.input c.next.ensures.same;
      clock = clock_on i.clock c.take_turn.ensures.clock;
      served = served_more i.served i.later i.input i.clock c.in-Request.asked.words c.in-Request.asked.payload (g.S.Source.input c.next.new.source) (c.next.new.self ++ (g.S.Source.input c.next.new.source).left) (λ tells. c.in-Request.ensures.turns (i.input.tells tells)) turned.1 turned.2 c.next.new.self (λ tells. refl);
    }

pub returns-clause-serves : goal.returns-clause-serves
returns-clause-serves g c =
    let i = c.loop.invariant in
    closed i.served i.later i.input i.clock (g.S.Source.input c.loop.source) (g.C.Clock.ticks c.loop.clock) (unasked (g.C.Clock.ticks c.loop.clock)) c.reply_framed-2.ensures.sent (λ z. omega (arith, z)) tt (c.loop.text ++ (g.S.Source.input c.loop.source).left) (λ tells. refl) tt

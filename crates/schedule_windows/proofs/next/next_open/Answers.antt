use Rattle.schedule_windows.proofs.Common.{◌≡◌, ◌∙◌, ◌+◌, ◌-◌, ◌<◌, ℕ, w32, FitsSigned, arith, to_z-of_z, signed_arith, ZoneOf}
use Rattle.site_types.specs.declared.window.Windows.{Windows}
use Rattle.schedule_windows.proofs.Opens.{is_open_later, closed_on}
use Rattle.schedule_windows.proofs.next.next_open.Goals as goal

pub returns-then-wait-until-clause-value : goal.returns-then-wait-until-clause-value
returns-then-wait-until-clause-value c =
    let windows : Windows = c.args.windows.now in
    let zone : ZoneOf = c.args.zone.now in
    let at : ℕ = c.loop-at.at in
    let wait : ℕ = c.wait_within-wait.result in
    let known = c.loop-at.invariant in
    let until = c.same_offset_until-until.ensures in
    let fits : FitsSigned w32 c.seconds_at.result = omega (arith, signed_arith) in
    let ahead = to_z-of_z w32 c.seconds_at.result fits ∙ c.seconds_at.ensures.value in
    let opens = is_open_later windows zone at c.same_offset_until-until.result c.week_count.result _ ahead until.same c.week_count.ensures.value in
    let soon : wait < c.same_offset_until-until.result - at = c.if-wait-until.true in
    record {
      later = omega arith;
      soon = omega arith;
      open_then = opens wait soon ∙ c.wait_within-wait.ensures.open_then soon;
      least = closed_on windows zone c.args.moment at wait known.closed (λ k h. opens k (omega arith) ∙ c.wait_within-wait.ensures.closed k h);
    }

pub loop-at-preserved : goal.loop-at-preserved
loop-at-preserved c =
    let windows : Windows = c.args.windows.now in
    let zone : ZoneOf = c.args.zone.now in
    let at : ℕ = c.loop-at.at in
    let wait : ℕ = c.wait_within-wait.result in
    let known = c.loop-at.invariant in
    let until = c.same_offset_until-until.ensures in
    let fits : FitsSigned w32 c.seconds_at.result = omega (arith, signed_arith) in
    let ahead = to_z-of_z w32 c.seconds_at.result fits ∙ c.seconds_at.ensures.value in
    let opens = is_open_later windows zone at c.same_offset_until-until.result c.week_count.result _ ahead until.same c.week_count.ensures.value in
    let full = c.if-wait-until.false in
    let whole : at + (c.same_offset_until-until.result - at) ≡ c.same_offset_until-until.result = omega arith in
    record {
      low = omega arith;
      high = omega arith;
      closed = rw whole at (closed_on windows zone c.args.moment at (c.same_offset_until-until.result - at) known.closed (λ k h. opens k h ∙ c.wait_within-wait.ensures.closed k (omega arith)));
    }

use Rattle.schedule_windows.proofs.Common.{◌∙◌, ap, sym, subst}
use Rattle.schedule_windows.specs.Sources.{zone_of, IsRead}
use Rattle.schedule_windows.proofs.Rules.{offset_at-rule, offset_at-fixed}
use Rattle.schedule_windows.proofs.zone.Zone.same_offset_until.Goals as goal

pub returns-in-Fixed-clause-same : goal.returns-in-Fixed-clause-same
returns-in-Fixed-clause-same c = λ k low high.
    let zone = sym c.self.view_is ∙ ap zone_of c.in-Fixed.is in
    rw zone (offset_at-fixed _ k ∙ sym (offset_at-fixed _ c.args.at))

pub returns-in-Rule-clause-same : goal.returns-in-Rule-clause-same
returns-in-Rule-clause-same c = λ k low high.
    let zone = sym c.self.view_is ∙ ap zone_of c.in-Rule.is in
    let read = subst IsRead c.in-Rule.is c.self.invariant in
    rw (zone, offset_at-rule c.in-Rule.text c.in-Rule.read k read, offset_at-rule c.in-Rule.text c.in-Rule.read c.args.at read) (c.same_offset_until.ensures.same k low high)

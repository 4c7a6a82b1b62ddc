use Rattle.schedule_windows.proofs.Common.{◌∙◌, ap, sym, subst, w32, arith, FitsSigned, to_z-of_z, signed_arith, ZoneOf}
use Rattle.schedule_windows.specs.Sources.{zone_of, IsRead}
use Rattle.schedule_windows.specs.Zones.{offset_at}
use Rattle.schedule_windows.proofs.Rules.{offset_at-rule, offset_at-fixed}
use Rattle.schedule_windows.proofs.zone.Zone.seconds_at.Goals as goal

pub returns-in-Fixed-clause-value : goal.returns-in-Fixed-clause-value
returns-in-Fixed-clause-value c =
    let zone = sym c.self.view_is ∙ ap zone_of c.in-Fixed.is in
    let within = subst IsRead c.in-Fixed.is c.self.invariant in
    let fits : FitsSigned w32 c.in-Fixed.seconds = omega (arith, signed_arith) in
    to_z-of_z w32 c.in-Fixed.seconds fits ∙ sym (offset_at-fixed c.in-Fixed.seconds c.args.moment) ∙ sym (ap (λ (z : ZoneOf). offset_at z c.args.moment) zone)

pub returns-in-Rule-clause-value : goal.returns-in-Rule-clause-value
returns-in-Rule-clause-value c =
    let zone = sym c.self.view_is ∙ ap zone_of c.in-Rule.is in
    let read = subst IsRead c.in-Rule.is c.self.invariant in
    let fits : FitsSigned w32 c.seconds_at.result = omega (arith, signed_arith) in
    to_z-of_z w32 c.seconds_at.result fits ∙ c.seconds_at.ensures.value ∙ sym (offset_at-rule c.in-Rule.text c.in-Rule.read c.args.moment read) ∙ sym (ap (λ (z : ZoneOf). offset_at z c.args.moment) zone)

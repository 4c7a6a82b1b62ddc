use Rattle.std.proofs.Common.{◌∙◌, sym, ap, subst}
use Rattle.site_desk.specs.Desk.{DeskValue}
use Rattle.site_desk.proofs.Stepping.{known_rests, state_rests}
use Rattle.site_desk.proofs.desk.Desk.send.Goals as goal

pub invariant_of-self : goal.invariant_of-self
invariant_of-self g c stopped =
    known_rests (g.M.Vault.disk c.self.inside.vault) (g.M.Vault.disk c.send.new.self) c.self.inside.journal c.self.inside.index c.send.ensures.same.told (λ told. (c.send.ensures.sends told).rests) (c.self.invariant stopped)

pub returns-clause-state : goal.returns-clause-state
returns-clause-state g c told_now =
    let is = c.self.view_is in
    let told = subst (λ (d : DeskValue _). (g.M.Vault.disk d.vault).tells) (sym is) told_now in
    state_rests (g.M.Vault.disk c.self.inside.vault) (g.M.Vault.disk c.send.new.self) (c.send.ensures.sends told).rests ∙ ap (λ (d : DeskValue _). d.state) is

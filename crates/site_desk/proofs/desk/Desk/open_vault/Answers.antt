use Rattle.site_desk.proofs.Opening.{fault_opened, found_known, found_opened, found_sound, found_standing}
use Rattle.site_desk.proofs.desk.Desk.open_vault.Goals as goal

pub invariant_of-result : goal.invariant_of-result
invariant_of-result g c stopped = found_known (g.V.Vault.disk c.args.vault) (g.V.Vault.disk c.open.new.vault) c.in-Ok.opened.journal c.in-Ok.opened.index c.open.ensures.same.told c.in-Ok.ensures.known c.in-Ok.ensures.found

pub returns-in-Ok-clause-state : goal.returns-in-Ok-clause-state
returns-in-Ok-clause-state g c told = found_opened (g.V.Vault.disk c.args.vault) (g.V.Vault.disk c.open.new.vault) c.in-Ok.opened.journal c.in-Ok.opened.index (c.in-Ok.ensures.found told)

pub returns-in-Ok-clause-standing : goal.returns-in-Ok-clause-standing
returns-in-Ok-clause-standing g c s told is = found_standing (g.V.Vault.disk c.args.vault) (g.V.Vault.disk c.open.new.vault) c.in-Ok.opened.journal c.in-Ok.opened.index (c.in-Ok.ensures.found told) s is

pub returns-in-Ok-clause-sound : goal.returns-in-Ok-clause-sound
returns-in-Ok-clause-sound g c s told is = found_sound (g.V.Vault.disk c.args.vault) (g.V.Vault.disk c.open.new.vault) c.in-Ok.opened.journal c.in-Ok.opened.index (c.in-Ok.ensures.found told) s is

pub returns-in-Err-clause-not_a_vault : goal.returns-in-Err-clause-not_a_vault
returns-in-Err-clause-not_a_vault g c told = fault_opened (g.V.Vault.disk c.args.vault).seen c.in-Err.fault (c.in-Err.ensures.not_a_vault told)

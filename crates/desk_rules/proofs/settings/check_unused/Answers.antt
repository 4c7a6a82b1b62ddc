use Rattle.desk_rules.proofs.Common.{◌∙◌, Some, ap, sym}
use Rattle.desk_rules.specs.Removals.{removal_seen}
use Rattle.desk_rules.specs.declared.settings.Removal.{Removal}
use Rattle.desk_rules.proofs.RefusalLemmas.{passes_as}
use Rattle.desk_rules.proofs.SeenLemmas.{client_use, policy_use}
use Rattle.desk_rules.proofs.settings.check_unused.Goals as goal

pub returns-in-Some-Client : goal.returns-in-Some-Client
returns-in-Some-Client c = λ site. passes_as _ _ _ (client_use site c.args.images.now _ _ _ (sym c.in-Some-Client.ensures ∙ ap (λ (r : Removal). Some (removal_seen r)) c.in-Some-Client.field-0-is) c.first_of_client.ensures) c.check_use.ensures

pub returns-in-Some-Policy : goal.returns-in-Some-Policy
returns-in-Some-Policy c = λ site. passes_as _ _ _ (policy_use site c.args.images.now _ _ _ (sym c.in-Some-Policy.ensures ∙ ap (λ (r : Removal). Some (removal_seen r)) c.in-Some-Policy.field-0-is) c.first_under.ensures) c.check_use-in-Some-Policy.ensures

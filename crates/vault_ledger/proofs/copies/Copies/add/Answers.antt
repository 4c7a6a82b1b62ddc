use Rattle.std.proofs.Common.{◌∙◌, ap, List, Some}
use Rattle.std.specs.Prelude.{cond}
use Rattle.std.specs.BTreeMap.{is_at}
use Rattle.site_types.specs.declared.id.BackupId.{BackupId}
use Rattle.copy_fragments.specs.Copies.{Copy}
use Rattle.vault_ledger.specs.Copies.{copy_of, id_cmp}
use Rattle.vault_ledger.proofs.copies.Copies.add.Goals as goal

pub returns-clause-added : goal.returns-clause-added
returns-clause-added c q =
    c.in_ok-insert.ensures.updates.0 q ∙ ap (λ (es : List (BackupId × Copy)). cond (is_at (id_cmp c.args.id) q) (Some c.args.copy) (copy_of q es)) c.self.view_is

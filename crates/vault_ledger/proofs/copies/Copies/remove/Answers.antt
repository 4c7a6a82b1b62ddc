use Rattle.std.proofs.Common.{◌∙◌, ap, List, None}
use Rattle.std.specs.Prelude.{cond}
use Rattle.std.specs.BTreeMap.{is_at}
use Rattle.site_types.specs.declared.id.BackupId.{BackupId}
use Rattle.copy_fragments.specs.Copies.{Copy}
use Rattle.vault_ledger.specs.Copies.{copy_of, id_cmp}
use Rattle.vault_ledger.proofs.copies.Copies.remove.Goals as goal

pub returns : goal.returns
returns c q = c.remove.ensures.updates.0 q ∙ ap (λ (es : List (BackupId × Copy)). cond (is_at (id_cmp c.args.id.now) q) None (copy_of q es)) c.self.view_is

use Rattle.std.proofs.Common.{◌∙◌, ap, List, Some, rules}
use Rattle.std.specs.Prelude.{cond}
use Rattle.std.specs.BTreeMap.{is_at}
use Rattle.site_types.specs.declared.id.BackupId.{BackupId}
use Rattle.copy_fragments.specs.Copies.{Copy}
use Rattle.vault_ledger.specs.Copies.{copy_of, id_cmp}
use Rattle.vault_ledger.proofs.copies.Copies.fill.Goals as goal

pub returns : goal.returns
returns c q =
    ((c.get_mut.follows.holds c.args.copy).3 (search rules)).0 q
    ∙ ap (λ (es : List (BackupId × Copy)). cond (is_at (id_cmp c.args.id.now) q) (Some c.args.copy) (copy_of q es)) c.self.view_is

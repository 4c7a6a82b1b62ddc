use Rattle.std.proofs.Common.{ap}
use Rattle.site_types.specs.declared.id.BackupId.{BackupId}
use Rattle.desk_index.proofs.AdmittedImages.{site_back}
use Rattle.desk_index.proofs.index.Index.expel.Goals as goal

pub returns-clause-back : goal.returns-clause-back
returns-clause-back c before image same none site_is catalogue_is known = (
  site_back c.args.self.now.site before.site c.unseal_client.new.self c.args.id.now.client image.id.client image.id.time c.args.last c.unseal_client.ensures.back (ap (λ (id : BackupId). id.client) same) site_is known,
  c.remove_image.ensures.undone image before.catalogue none catalogue_is same,
)

use Rattle.vault_disk.proofs.Files.{appended}
use Rattle.vault_disk.proofs.contents.Contents.place_for.Goals as goal

pub returns-clause-same : goal.returns-clause-same
returns-clause-same c = appended c.args.self.now c.self.inside.files.items c.push.new.self.items c.args.file c.new.result.items c.in_ok-push.ensures.items c.new.ensures.items c.self.view_is

use Rattle.std.proofs.Common.{◌∙◌}
use Rattle.vault_disk.proofs.Files.{found, missing}
use Rattle.vault_disk.proofs.contents.Contents.get.Goals as goal

pub returns-in-Some : goal.returns-in-Some
returns-in-Some c = c.bytes.ensures ∙ found _ _ _ _ c.in-Some.place c.index.result.now c.deref.ensures.value c.self.view_is c.in-Some.ensures c.index.ensures

pub returns-in-None : goal.returns-in-None
returns-in-None c = missing _ _ _ _ c.deref.ensures.value c.self.view_is c.in-None.ensures

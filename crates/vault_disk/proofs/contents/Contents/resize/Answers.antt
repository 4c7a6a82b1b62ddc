use Rattle.std.proofs.Common.{rules}
use Rattle.vault_disk.specs.Steps.{cut_to}
use Rattle.vault_disk.proofs.Files.{placed}
use Rattle.vault_disk.proofs.contents.Contents.resize.Goals as goal

pub returns-clause-ok : goal.returns-clause-ok
returns-clause-ok c =
    placed c.args.self.now c.place_for.new.self c.self.inside.files.items c.args.file c.in_ok-place.place c.index_mut.result.now c.resize.new.self (λ l. cut_to l c.args.length) (search rules) c.in_ok-place.ensures.place c.in_ok-place.ensures.same (search rules) (search rules)

use Rattle.std.proofs.Common.{rules}
use Rattle.vault_disk.specs.Steps.{written}
use Rattle.vault_disk.proofs.Files.{placed}
use Rattle.vault_disk.proofs.contents.Contents.write.Goals as goal

pub returns-clause-ok : goal.returns-clause-ok
returns-clause-ok c =
    placed c.args.self.now c.place_for.new.self c.self.inside.files.items c.args.file c.in_ok-place.place c.index_mut.result.now c.write.new.self (λ l. written l c.args.at c.args.bytes.now) (search rules) c.in_ok-place.ensures.place c.in_ok-place.ensures.same (search rules) (search rules)

use Rattle.std.proofs.Common.{rules}
use Rattle.vault_disk.proofs.Padded.{overwritten}
use Rattle.vault_disk.proofs.contents.overwrite.Goals as goal

pub returns-clause-ok : goal.returns-clause-ok
returns-clause-ok c =
    let e = c.in-Some.ensures in
    overwritten c.args.all.now.items c.deref_mut.result.now c.args.bytes.now c.copy_from_slice.new.self _ c.args.at c.in-Some.end c.lengthen.new.all.len (search rules) e.1 c.copy_from_slice.ensures.after (search rules)

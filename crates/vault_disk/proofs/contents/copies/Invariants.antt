use Rattle.std.proofs.Common.{◌≡◌, take}
use Rattle.vault_disk.proofs.contents.copies.Given as goal

abbrev pub invariant-loop-stored : goal.invariant-loop-stored
invariant-loop-stored l = l.all.items ≡ take l.stored-index l.files

use Rattle.std.proofs.Common.{take}
use Rattle.vault_disk.specs.Stored.{HasNo}
use Rattle.vault_disk.proofs.contents.place_of.Given as goal

abbrev pub invariant-loop-place : goal.invariant-loop-place
invariant-loop-place l = HasNo (take l.place l.files) l.file

use Rattle.std.proofs.Common.{◌≡◌, take, reverse, length}
use Rattle.vault_disk.specs.Memory.{sent_of}
use Rattle.vault_disk.proofs.recording.sent_length.Given as goal

abbrev pub invariant-loop-call : goal.invariant-loop-call
invariant-loop-call l = l.total ≡ length (sent_of (reverse (take l.call-index l.calls)))

use Rattle.std.proofs.Common.{◌≡◌, ℕ, take, reverse}
use Rattle.vault_disk.specs.Memory.{content}
use Rattle.vault_disk.specs.Stops.{stop_image}
use Rattle.vault_disk.specs.Stored.{bytes_of}
use Rattle.vault_disk.proofs.recording.left_after.Given as goal

abbrev pub invariant-loop-call : goal.invariant-loop-call
invariant-loop-call l = record {
  seen : (f : ℕ) → bytes_of l.seen f ≡ content (bytes_of l.first) (reverse (take l.call-index l.calls)) f;
  left : (f : ℕ) → bytes_of l.left f ≡ stop_image l.stop (bytes_of l.first) (reverse (take l.call-index l.calls)) f;
}

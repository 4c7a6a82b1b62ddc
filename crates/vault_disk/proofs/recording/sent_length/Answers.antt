use Rattle.std.proofs.Common.{arith}
use Rattle.vault_disk.proofs.Sent.{room_for}
use Rattle.vault_disk.proofs.recording.sent_length.Goals as goal

pub overflow_add-total : goal.overflow_add-total
overflow_add-total c =
    let fits = room_for _ _ _ _ c.as_slice.result.now _ _ c.loop-call-test.true c.call-item.is c.in-Sent.is c.as_slice.ensures c.loop-call.invariant c.requires in
    omega (arith, fits)

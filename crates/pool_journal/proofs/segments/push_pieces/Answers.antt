use Rattle.pool_journal.proofs.Common.{spelled_slot}
use Rattle.pool_journal.proofs.Rooms.{room_at}
use Rattle.pool_journal.proofs.segments.push_pieces.Goals as goal

pub push_number-requires : goal.push_number-requires
push_number-requires c = record { room = room_at spelled_slot c.args.pieces.now c.loop-slot.slot-index 0 c.args.out.now c.loop-slot.out c.loop-slot-test.true c.loop-slot.invariant.0 c.requires.room }

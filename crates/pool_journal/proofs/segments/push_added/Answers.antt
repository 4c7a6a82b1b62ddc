use Rattle.pool_journal.proofs.Common.{spelled_segment}
use Rattle.pool_journal.proofs.Rooms.{room_at}
use Rattle.pool_journal.proofs.segments.push_added.Goals as goal

pub push_segment-requires : goal.push_segment-requires
push_segment-requires c = record { room = room_at spelled_segment c.args.added.now c.loop-segment.segment-index _ c.args.out.now c.loop-segment.out c.loop-segment-test.true c.loop-segment.invariant.0 c.requires.room }

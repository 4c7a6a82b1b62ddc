use Rattle.std.specs.List.{AllWithin}
use Rattle.std.specs.Prelude.{flat_map}
use Rattle.pool_journal.proofs.Common.{take, spelled_segment, SegmentFits}
use Rattle.pool_journal.specs.Rooms.{Gets}
use Rattle.pool_journal.proofs.segments.push_added.Given as goal

abbrev pub invariant-loop-segment : goal.invariant-loop-segment
invariant-loop-segment l = Gets (flat_map spelled_segment (take l.segment-index l.added)) l.fn.out l.out × AllWithin SegmentFits l.added 0 l.segment-index

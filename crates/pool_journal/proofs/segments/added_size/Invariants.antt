use Rattle.std.specs.Prelude.{flat_map}
use Rattle.pool_journal.proofs.Common.{◌≡◌, ◌-◌, ◌*◌, ◌^◌, min, length, take, spelled_segment}
use Rattle.pool_journal.proofs.segments.added_size.Given as goal

abbrev pub invariant-loop-segment : goal.invariant-loop-segment
invariant-loop-segment l = record {
  size : l.size ≡ min (length (flat_map spelled_segment (take l.segment-index l.added))) (2 ^ 64 - 1);
  fixed : length (flat_map spelled_segment (take l.segment-index l.added)) ≡ 40 * length (take l.segment-index l.added);
}

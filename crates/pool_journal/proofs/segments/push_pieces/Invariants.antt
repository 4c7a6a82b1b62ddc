use Rattle.std.specs.List.{AllWithin}
use Rattle.std.specs.Prelude.{flat_map}
use Rattle.pool_journal.proofs.Common.{take, spelled_slot, SlotFits}
use Rattle.pool_journal.specs.Rooms.{Gets}
use Rattle.pool_journal.proofs.segments.push_pieces.Given as goal

abbrev pub invariant-loop-slot : goal.invariant-loop-slot
invariant-loop-slot l = Gets (flat_map spelled_slot (take l.slot-index l.pieces)) l.fn.out l.out × AllWithin SlotFits l.pieces 0 l.slot-index

use Rattle.pool_journal.proofs.Common.{take, strings}
use Rattle.pool_journal.specs.Rooms.{Gets}
use Rattle.pool_journal.proofs.spelling.push_strings.Given as goal

abbrev pub invariant-loop-text : goal.invariant-loop-text
invariant-loop-text l = Gets (strings (take l.text-index l.texts)) l.fn.out l.out

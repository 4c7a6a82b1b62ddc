use Rattle.pool_journal.proofs.Common.{◌≡◌, ◌-◌, ◌^◌, min, length, take, strings}
use Rattle.pool_journal.proofs.size.strings_size.Given as goal

abbrev pub invariant-loop-text : goal.invariant-loop-text
invariant-loop-text l = l.size ≡ min (length (strings (take l.text-index l.texts))) (2 ^ 64 - 1)

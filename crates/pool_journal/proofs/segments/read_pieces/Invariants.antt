use Rattle.pool_journal.proofs.Common.{◌≡◌, ◌-◌, many_field, count_field}
use Rattle.pool_journal.proofs.Many.{behind_many}
use Rattle.pool_journal.proofs.segments.read_pieces.Given as goal

abbrev pub invariant-loop : goal.invariant-loop
invariant-loop l = many_field count_field l.count l.fn.fields ≡ behind_many l.pieces.items (many_field count_field (l.count - l.counter) l.fields)

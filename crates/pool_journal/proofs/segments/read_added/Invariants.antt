use Rattle.pool_journal.proofs.Common.{◌≡◌, ◌-◌, many_field, segment_field}
use Rattle.pool_journal.proofs.Many.{behind_many}
use Rattle.pool_journal.proofs.segments.read_added.Given as goal

abbrev pub invariant-loop : goal.invariant-loop
invariant-loop l = many_field segment_field l.count l.fn.fields ≡ behind_many l.added.items (many_field segment_field (l.count - l.counter) l.fields)

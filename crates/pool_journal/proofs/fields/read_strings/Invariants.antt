use Rattle.pool_journal.proofs.Common.{◌≡◌, ◌-◌, strings_field}
use Rattle.pool_journal.proofs.Many.{behind_many}
use Rattle.pool_journal.proofs.fields.read_strings.Given as goal

abbrev pub invariant-loop : goal.invariant-loop
invariant-loop l = strings_field l.count l.fn.fields ≡ behind_many l.texts.items (strings_field (l.count - l.counter) l.fields)

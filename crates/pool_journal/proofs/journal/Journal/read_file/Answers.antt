use Rattle.pool_journal.proofs.Common.{◌<◌, ◌^◌, rules, ◌∙◌, sym, length}
use Rattle.pool_journal.proofs.Opening.{settled, foreign_at, opened_as}
use Rattle.pool_journal.proofs.journal.Journal.read_file.Goals as goal

pub returns-then-not-starts_with-clause-not_a_vault : goal.returns-then-not-starts_with-clause-not_a_vault
returns-then-not-starts_with-clause-not_a_vault g c told =
    let long : 17 < length c.in_ok-bytes.bytes.items = search rules in
    rw (← c.in_ok-bytes.ensures.bytes told) (foreign_at c.in_ok-bytes.bytes.items _ long (rw c.deref.ensures.value at (sym c.if-not-starts_with.ensures.value)) (rw c.deref-then-not-starts_with.ensures.value at c.first_difference.ensures))

pub returns-clause-found : goal.returns-clause-found
returns-clause-found g c told durable =
    let long : length c.deref-2.result.now < 2 ^ 63 = search rules in
    opened_as _ _ c.deref-2.result.now _ _ _ _ long (settled _ _ durable (c.read_whole.ensures.looked told)) (c.deref-2.ensures.value ∙ c.in_ok-bytes.ensures.bytes told) c.at-2.ensures c.in_ok-records.ensures.told

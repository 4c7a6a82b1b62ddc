use Rattle.pool_journal.proofs.Common.{arith, ◌≡◌, ◌∙◌, ◌+◌, ◌-◌, ◌<◌, ◌^◌, min, ℕ, length, ap, sym, spelled_entry, staged_record}
use Rattle.pool_journal.proofs.Append.{first_stop, second_stop, done}
use Rattle.pool_journal.proofs.Bytes.{length_staged}
use Rattle.pool_journal.proofs.Growth.{grows, file_grew}
use Rattle.pool_journal.proofs.journal.Journal.write.Goals as goal

pub returns-in_err-write_durably-clause-stops : goal.returns-in_err-write_durably-clause-stops
returns-in_err-write_durably-clause-stops g c e staged fs told rest =
    first_stop fs e _ staged.writable _ rest _ _ _ _ (omega (arith, rest.short)) (c.deref.ensures.value ∙ c.staged.view_is ∙ staged.is) (c.write_durably.ensures.wrote told)

pub returns-in_err-write_durably-2-clause-stops : goal.returns-in_err-write_durably-2-clause-stops
returns-in_err-write_durably-2-clause-stops g c e staged fs told rest =
    second_stop fs e _ staged.writable _ rest _ _ _ _ _ _ _ staged.spellable (omega (arith, rest.short)) c.self.view_is (c.deref.ensures.value ∙ c.staged.view_is ∙ staged.is)
    (c.in_ok-write_durably.ensures.wrote told) c.write_durably.ensures.same (c.write_durably-2.ensures.wrote (c.write_durably.ensures.same.tells told))

pub returns-clause-stops : goal.returns-clause-stops
returns-clause-stops g c e staged fs told rest =
    second_stop fs e _ staged.writable _ rest _ _ _ _ _ _ _ staged.spellable (omega (arith, rest.short)) c.self.view_is (c.deref.ensures.value ∙ c.staged.view_is ∙ staged.is)
    (c.in_ok-write_durably.ensures.wrote told) c.write_durably.ensures.same (c.write_durably-2.ensures.wrote (c.write_durably.ensures.same.tells told))

pub returns-in_err-write_durably-clause-moves : goal.returns-in_err-write_durably-clause-moves
returns-in_err-write_durably-clause-moves g c e staged = grows e _ _ _ staged (omega arith)

pub returns-in_err-write_durably-2-clause-moves : goal.returns-in_err-write_durably-2-clause-moves
returns-in_err-write_durably-2-clause-moves g c e staged = grows e _ _ _ staged (omega arith)

pub returns-clause-moves : goal.returns-clause-moves
returns-clause-moves g c e staged = grows e _ _ _ staged (omega (arith, ap length (c.deref.ensures.value ∙ c.staged.view_is)))

pub returns-clause-grows : goal.returns-clause-grows
returns-clause-grows g c e staged fs told rest =
    grows e _ _ _ staged (file_grew fs _ _ _ _ _ _ _ _ _ _ rest (omega (arith, rest.short)) c.self.view_is (c.deref.ensures.value ∙ c.staged.view_is) (c.in_ok-write_durably.ensures.wrote told) (c.in_ok-write_durably-2.ensures.wrote (c.write_durably.ensures.same.tells told)))

pub returns-clause-appended : goal.returns-clause-appended
returns-clause-appended g c e staged fs told rest =
    let bytes_are : c.deref.result.now ≡ staged_record (spelled_entry e) = c.deref.ensures.value ∙ c.staged.view_is ∙ staged.is in
    let size = sym c.deref.ensures.len ∙ ap length bytes_are ∙ length_staged (spelled_entry e) in
    done fs e _ staged.writable _ rest _ _ _ _ _ _ _ _ staged.spellable (omega (arith, rest.short)) c.self.view_is bytes_are
    (c.in_ok-write_durably.ensures.wrote told) (c.in_ok-write_durably-2.ensures.wrote (c.write_durably.ensures.same.tells told))
    (ends _ _ _ _ _ _ c.saturating_add-self-inside.ensures c.self.view_is c.len.ensures size (omega (arith, rest.short, staged.writable.0)))
  where
    ends : (end now at count n : ℕ) (m : ℕ) → end ≡ min (now + count) (2 ^ 64 - 1) → now ≡ at → count ≡ n → n ≡ 5 + m → at + 5 + m < 2 ^ 64 → end ≡ at + 5 + m
    ends end now at count n m is now_is count_is n_is small = omega arith

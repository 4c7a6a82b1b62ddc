use Rattle.pool_journal.proofs.Common.{◌≡◌, slice_index_or, sym, subst, ℕ, List, string}
use Rattle.pool_journal.proofs.Lines.{short_at}
use Rattle.pool_journal.proofs.Rooms.{nothing_put, room_for_one}
use Rattle.pool_journal.proofs.spelling.push_strings.Goals as goal

pub loop-text-init : goal.loop-text-init
loop-text-init c = nothing_put c.args.out.now

pub push_string-requires-clause-short : goal.push_string-requires-clause-short
push_string-requires-clause-short c = rw c.bytes.ensures (short_at c.args.texts.now c.loop-text.text-index c.text-item.result c.requires.short c.loop-text-test.true c.text-item.is)

pub push_string-requires-clause-room : goal.push_string-requires-clause-room
push_string-requires-clause-room c =
    room_for_one string c.args.texts.now c.loop-text.text-index c.bytes.result.now c.args.out.now c.loop-text.out c.loop-text-test.true (subst (λ (l : List ℕ). l ≡ slice_index_or c.args.texts.now c.loop-text.text-index l) (sym c.bytes.ensures) c.text-item.is) c.loop-text.invariant c.requires.room

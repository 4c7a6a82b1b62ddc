use Rattle.image_kinds.proofs.Common.{[], letters_of}
use Rattle.image_kinds.proofs.Writing.{entry_length_at, written_more, written_all}
use Rattle.image_kinds.specs.declared.format.Format.TheVariants as format
use Rattle.image_kinds.proofs.encode.encode_stream.Goals as goal

pub write_entry-requires : goal.write_entry-requires
write_entry-requires c = rw (c.entry-item.is, c.entries-entries.ensures.entries) (entry_length_at [] c.args.value.now c.loop-entry.entry-index c.entry-item.result c.entries-entries.ensures.stream.rising (rw c.entries-entries.ensures.entries at c.loop-entry-test.true))

pub loop-entry-preserved : goal.loop-entry-preserved
loop-entry-preserved c = written_more c.loop-entry.out.items c.write_entry.new.out.items (letters_of format.Stream) c.entries-entries.result.now c.loop-entry.entry-index c.entry-item.result c.loop-entry-test.true c.entry-item.is c.loop-entry.invariant c.in_ok-write_entry.ensures

pub returns-clause-spelling : goal.returns-clause-spelling
returns-clause-spelling c =
    rw (← c.entries-entries.ensures.entries) (written_all c.loop-entry.out.items c.push.new.self.items (letters_of format.Stream) c.entries-entries.result.now c.loop-entry.entry-index c.loop-entry-test.false c.loop-entry.invariant c.in_ok-push.ensures.items)

use Rattle.image_kinds.proofs.Common.{◌≡◌, ◌++◌, take, flat_map, letters_of, spelled_entry}
use Rattle.image_kinds.specs.declared.format.Format.TheVariants as format
use Rattle.image_kinds.proofs.encode.encode_stream.Given as goal

abbrev pub invariant-loop-entry : goal.invariant-loop-entry
invariant-loop-entry l = l.out.items ≡ letters_of format.Stream ++ flat_map spelled_entry (take l.entry-index l.entries)

use Rattle.site_types.proofs.Common.{◌≡◌, take, written}
use Rattle.site_types.proofs.path_word.written_path.Given as goal

abbrev pub invariant-loop-byte : goal.invariant-loop-byte
invariant-loop-byte l = l.word.items ≡ written (take l.byte-index l.byte-items)

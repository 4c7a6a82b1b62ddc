use Rattle.pool_journal.proofs.Common.{sym}
use Rattle.pool_journal.proofs.Many.{taken_length}
use Rattle.pool_journal.proofs.segments.read_digest.Goals as goal

pub copy_from_slice-requires : goal.copy_from_slice-requires
copy_from_slice-requires c = sym (taken_length 32 c.args.fields.now c.in_ok-bytes.bytes.now c.bytes.new.self c.in_ok-bytes.ensures)

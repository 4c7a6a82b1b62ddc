use Rattle.pool_journal.proofs.Lines.{size_of, taken_of}
use Rattle.pool_journal.proofs.segments.segments_size.Goals as goal

pub returns-clause-size : goal.returns-clause-size
returns-clause-size c =
    size_of c.args.segments.now c.as_slice.result.now c.as_slice-2.result.now c.saturating_mul-pieces.result c.added_size.result c.saturating_add.result c.saturating_add-2.result c.as_slice.ensures c.as_slice-2.ensures c.saturating_mul-pieces.ensures c.added_size.ensures.size c.saturating_add.ensures c.saturating_add-2.ensures

pub returns-clause-taken : goal.returns-clause-taken
returns-clause-taken c = taken_of c.args.segments.now c.as_slice-2.result.now c.as_slice-2.ensures c.added_size.ensures.fixed

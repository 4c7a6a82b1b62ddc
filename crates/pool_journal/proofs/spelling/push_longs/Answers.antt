use Rattle.pool_journal.proofs.Rooms.{two_put}
use Rattle.pool_journal.proofs.spelling.push_longs.Goals as goal

pub returns-clause-spelled : goal.returns-clause-spelled
returns-clause-spelled c = two_put _ _ _ _ _ c.push_long.ensures.spelled c.push_long-2.ensures.spelled

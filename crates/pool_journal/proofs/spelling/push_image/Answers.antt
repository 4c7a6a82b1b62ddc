use Rattle.pool_journal.proofs.Rooms.{two_put}
use Rattle.pool_journal.proofs.spelling.push_image.Goals as goal

pub returns-clause-spelled : goal.returns-clause-spelled
returns-clause-spelled c =
    two_put _ _ _ _ _ (two_put _ _ _ _ _ (two_put _ _ _ _ _ (two_put _ _ _ _ _ c.push_id.ensures.spelled c.push_names.ensures.spelled) c.push_kind_and_base.ensures.spelled) c.push_lifecycle.ensures.spelled) c.push_longs.ensures.spelled

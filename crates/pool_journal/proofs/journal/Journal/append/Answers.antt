use Rattle.pool_journal.proofs.journal.Journal.append.Goals as goal

pub returns-in_err-write-clause-stops : goal.returns-in_err-write-clause-stops
returns-in_err-write-clause-stops g c fs told rest = c.write.ensures.stops _ c.in_ok-staged.ensures fs told rest

pub returns-clause-appended : goal.returns-clause-appended
returns-clause-appended g c fs told rest = c.in_ok-write.ensures.appended _ c.in_ok-staged.ensures fs told rest

pub returns-clause-stops : goal.returns-clause-stops
returns-clause-stops g c fs told rest = c.write.ensures.stops _ c.in_ok-staged.ensures fs told rest

pub returns-clause-placed : goal.returns-clause-placed
returns-clause-placed g c told = c.in_ok-write.ensures.placed _ c.in_ok-staged.ensures told

use Rattle.pool_journal.proofs.Opening.{durable_now, synced_on}
use Rattle.pool_journal.proofs.journal.Journal.open_file.Goals as goal

pub returns-clause-stops : goal.returns-clause-stops
returns-clause-stops g c told =
    let synced = c.in_ok-sync.ensures.synced told in
    let told' = c.sync.ensures.same.tells told in
    synced_on _ _ _ synced _ c.sync.ensures.same (λ c' b left. g.met.V.Vault.only_now c.sync.new.self c' b told' left) (c.read_file.ensures.stops told' (durable_now _ _ _ synced))

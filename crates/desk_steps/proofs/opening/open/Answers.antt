use Rattle.std.proofs.Common.{◌∙◌, sym, subst, ℕ}
use Rattle.std.specs.Prelude.{Option}
use Rattle.pool_journal.specs.Records.{reading}
use Rattle.pool_journal.specs.Stops.{IsOpened}
use Rattle.desk_index.specs.Replays.{IsReplayed}
use Rattle.desk_steps.proofs.OpenedJournals.{journal_kept, journal_refused}
use Rattle.desk_steps.proofs.OpenedVaults.{found_stands, is_found, read_opening, stops_opened, stops_refused, stops_unsynced, unfit_opening}
use Rattle.desk_steps.proofs.opening.open.Goals as goal

pub returns-in_err-found-clause-stops : goal.returns-in_err-found-clause-stops
returns-in_err-found-clause-stops g c s told is = stops_refused _ _ c.open_file.ensures.same (c.open_file.ensures.stops told) (c.open_file.ensures.looked told) s is

pub returns-in_err-replayed-clause-stops : goal.returns-in_err-replayed-clause-stops
returns-in_err-replayed-clause-stops g c s told is = stops_refused _ _ c.open_file.ensures.same (c.open_file.ensures.stops told) (c.open_file.ensures.looked told) s is

pub returns-in-Some-clause-stops : goal.returns-in-Some-clause-stops
returns-in-Some-clause-stops g c s told is = stops_refused _ _ c.open_file.ensures.same (c.open_file.ensures.stops told) (c.open_file.ensures.looked told) s is

pub returns-in-Some-clause-not_a_vault : goal.returns-in-Some-clause-not_a_vault
returns-in-Some-clause-not_a_vault g c told =
    unfit_opening (g.V.Vault.disk c.args.vault.now).seen (g.V.Vault.disk c.open_file.new.vault) c.in_ok-found.found.journal c.in-Some.offset c.in_ok-found.found.entries.items c.in_ok-found.found.bad c.in_ok-replayed.replayed.index (c.in_ok-found.ensures.found told)
    (λ fs are. subst (λ (o : Option ℕ). IsReplayed fs c.in_ok-replayed.replayed.index o) c.in-Some.is (c.in_ok-replayed.ensures.replayed fs (are ∙ sym c.deref.ensures.value)))

pub returns-in-Some-bad-clause-stops : goal.returns-in-Some-bad-clause-stops
returns-in-Some-bad-clause-stops g c s told is = stops_refused _ _ c.open_file.ensures.same (c.open_file.ensures.stops told) (c.open_file.ensures.looked told) s is

pub returns-in_err-sync_pools-clause-stops : goal.returns-in_err-sync_pools-clause-stops
returns-in_err-sync_pools-clause-stops g c s told is =
    let told' = c.open_file.ensures.same.tells told in
    let told'' = c.sync_pools.ensures.same.tells told' in
    let opened = subst (λ (o : Option ℕ). IsOpened (reading ((g.V.Vault.disk c.args.vault.now).seen 0)) (g.V.Vault.disk c.open_file.new.vault) c.in_ok-found.found.journal c.in_ok-found.found.entries.items o) c.in_default-bad.is (c.in_ok-found.ensures.found told) in
    stops_unsynced _ _ c.open_file.ensures.same (c.open_file.ensures.stops told) (c.open_file.ensures.looked told) s is _ (c.sync_pools.ensures.looked told') c.sync_pools.ensures.same (λ i b left. g.met.V.Vault.only_now c.sync_pools.new.vault i b told'' left) _ c.in_ok-replayed.replayed.index
    (read_opening (g.V.Vault.disk c.args.vault.now).seen _ _ _ c.in_ok-replayed.replayed.index opened
    (λ fs are. subst (λ (o : Option ℕ). IsReplayed fs c.in_ok-replayed.replayed.index o) c.in_default.is (c.in_ok-replayed.ensures.replayed fs (are ∙ sym c.deref.ensures.value))))

pub returns-clause-found : goal.returns-clause-found
returns-clause-found g c told =
    let told' = c.open_file.ensures.same.tells told in
    let opened = subst (λ (o : Option ℕ). IsOpened (reading ((g.V.Vault.disk c.args.vault.now).seen 0)) (g.V.Vault.disk c.open_file.new.vault) c.in_ok-found.found.journal c.in_ok-found.found.entries.items o) c.in_default-bad.is (c.in_ok-found.ensures.found told) in
    let read = read_opening (g.V.Vault.disk c.args.vault.now).seen _ _ _ c.in_ok-replayed.replayed.index opened
    (λ fs are. subst (λ (o : Option ℕ). IsReplayed fs c.in_ok-replayed.replayed.index o) c.in_default.is (c.in_ok-replayed.ensures.replayed fs (are ∙ sym c.deref.ensures.value))) in
    is_found _ _ _ _ c.in_ok-replayed.replayed.index read (c.open_file.ensures.looked told) (c.sync_pools.ensures.looked told') (c.in_ok-sync_pools.ensures.keeps read.ledger told' read.is.follows)

pub returns-clause-stops : goal.returns-clause-stops
returns-clause-stops g c s told is =
    let told' = c.open_file.ensures.same.tells told in
    let told'' = c.sync_pools.ensures.same.tells told' in
    let opened = subst (λ (o : Option ℕ). IsOpened (reading ((g.V.Vault.disk c.args.vault.now).seen 0)) (g.V.Vault.disk c.open_file.new.vault) c.in_ok-found.found.journal c.in_ok-found.found.entries.items o) c.in_default-bad.is (c.in_ok-found.ensures.found told) in
    let read = read_opening (g.V.Vault.disk c.args.vault.now).seen _ _ _ c.in_ok-replayed.replayed.index opened
    (λ fs are. subst (λ (o : Option ℕ). IsReplayed fs c.in_ok-replayed.replayed.index o) c.in_default.is (c.in_ok-replayed.ensures.replayed fs (are ∙ sym c.deref.ensures.value))) in
    stops_opened _ _ c.open_file.ensures.same (c.open_file.ensures.stops told) (c.open_file.ensures.looked told) s is _ (c.sync_pools.ensures.looked told') c.sync_pools.ensures.same (λ i b left. g.met.V.Vault.only_now c.sync_pools.new.vault i b told'' left)
    (found_stands _ _ _ _ c.in_ok-replayed.replayed.index read (c.open_file.ensures.looked told) (c.sync_pools.ensures.looked told') (c.in_ok-sync_pools.ensures.keeps read.ledger told' read.is.follows) s is)

pub returns-in_err-found-clause-journal : goal.returns-in_err-found-clause-journal
returns-in_err-found-clause-journal g c told = journal_refused _ _ c.open_file.ensures.same (c.open_file.ensures.stops told)

pub returns-in_err-replayed-clause-journal : goal.returns-in_err-replayed-clause-journal
returns-in_err-replayed-clause-journal g c told = journal_refused _ _ c.open_file.ensures.same (c.open_file.ensures.stops told)

pub returns-in-Some-clause-journal : goal.returns-in-Some-clause-journal
returns-in-Some-clause-journal g c told = journal_refused _ _ c.open_file.ensures.same (c.open_file.ensures.stops told)

pub returns-in-Some-bad-clause-journal : goal.returns-in-Some-bad-clause-journal
returns-in-Some-bad-clause-journal g c told = journal_refused _ _ c.open_file.ensures.same (c.open_file.ensures.stops told)

pub returns-in_err-sync_pools-clause-journal : goal.returns-in_err-sync_pools-clause-journal
returns-in_err-sync_pools-clause-journal g c told =
    let told' = c.open_file.ensures.same.tells told in
    let told'' = c.sync_pools.ensures.same.tells told' in
    let opened = subst (λ (o : Option ℕ). IsOpened (reading ((g.V.Vault.disk c.args.vault.now).seen 0)) (g.V.Vault.disk c.open_file.new.vault) c.in_ok-found.found.journal c.in_ok-found.found.entries.items o) c.in_default-bad.is (c.in_ok-found.ensures.found told) in
    journal_kept _ _ c.open_file.ensures.same (c.open_file.ensures.stops told) _ _ c.in_ok-replayed.replayed.index (c.sync_pools.ensures.looked told') c.sync_pools.ensures.same (λ i b left. g.met.V.Vault.only_now c.sync_pools.new.vault i b told'' left)
    (read_opening (g.V.Vault.disk c.args.vault.now).seen _ _ _ c.in_ok-replayed.replayed.index opened
    (λ fs are. subst (λ (o : Option ℕ). IsReplayed fs c.in_ok-replayed.replayed.index o) c.in_default.is (c.in_ok-replayed.ensures.replayed fs (are ∙ sym c.deref.ensures.value))))

pub returns-clause-journal : goal.returns-clause-journal
returns-clause-journal g c told =
    let told' = c.open_file.ensures.same.tells told in
    let told'' = c.sync_pools.ensures.same.tells told' in
    let opened = subst (λ (o : Option ℕ). IsOpened (reading ((g.V.Vault.disk c.args.vault.now).seen 0)) (g.V.Vault.disk c.open_file.new.vault) c.in_ok-found.found.journal c.in_ok-found.found.entries.items o) c.in_default-bad.is (c.in_ok-found.ensures.found told) in
    journal_kept _ _ c.open_file.ensures.same (c.open_file.ensures.stops told) _ _ c.in_ok-replayed.replayed.index (c.sync_pools.ensures.looked told') c.sync_pools.ensures.same (λ i b left. g.met.V.Vault.only_now c.sync_pools.new.vault i b told'' left)
    (read_opening (g.V.Vault.disk c.args.vault.now).seen _ _ _ c.in_ok-replayed.replayed.index opened
    (λ fs are. subst (λ (o : Option ℕ). IsReplayed fs c.in_ok-replayed.replayed.index o) c.in_default.is (c.in_ok-replayed.ensures.replayed fs (are ∙ sym c.deref.ensures.value))))

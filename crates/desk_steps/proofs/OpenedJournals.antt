-- What a stop in an opening leaves of the journal.
use Rattle.desk_model.proofs.Common.{◌≡◌, ◌∙◌, ⊎_elim, ℕ, List, ap, arith}
use Rattle.std.proofs.Common.{◌⊎◌, inl, inr}
use Rattle.vault_disk.specs.Disk.{Disk, Image as DiskImage, IsSame, Now}
use Rattle.vault_disk.specs.Steps.{LookedAround}
use Rattle.vault_disk.proofs.Moments.{goes_on, weaker}
use Rattle.pool_journal.specs.Records.{reading}
use Rattle.pool_journal.specs.Stops.{Leaves, OpenStops, SameReading}
use Rattle.vault_ledger.specs.Ledger.{journal_reads, ledger_of}
use Rattle.desk_index.specs.declared.index.Index.{Index}
use Rattle.desk_steps.specs.Openings.{KeepsJournal}
use Rattle.desk_steps.proofs.OpenedVaults.{Read}

module _ (old mid : Disk) (same : IsSame old mid) (stops : OpenStops old mid) where
  abbrev Then : DiskImage → Type 0
  Then c = journal_reads c ≡ journal_reads old.seen

  abbrev Either : DiskImage → List ℕ → Type 0
  Either c b = (old.may_leave c ⊎ Then c) × (b ≡ old.sent)

  either : (c : DiskImage) → old.may_leave c ⊎ SameReading old c → old.may_leave c ⊎ Then c
  either c = ⊎_elim (λ was. inl was) (λ from. inr (ap ledger_of from.inside))

  leaves : Leaves (λ c. old.may_leave c ⊎ Then c) old mid
  leaves = ⊎_elim
      (λ unsynced. record { left = λ c left. inl (unsynced.left c left); during = weaker old mid (λ c b. old.may_leave c × (b ≡ old.sent)) Either (λ c b left. (inl left.0, left.1)) unsynced.during })
      (λ synced. record {
        left = λ c left. either c (synced.leaves.left c left);
        during = weaker old mid (λ c b. (old.may_leave c ⊎ SameReading old c) × (b ≡ old.sent)) Either (λ c b left. (either c left.0, left.1)) synced.leaves.during;
      })
      stops

  -- it was refused behind the reading of the journal
  pub journal_refused : KeepsJournal old mid
  journal_refused = ⊎_elim
      (λ unsynced. inl unsynced)
      (λ synced. inr (record { leaves = leaves; since = synced.since; within = synced.within; from_then = λ c b left. let still = synced.from_then c b left in (ap ledger_of still.0.inside, still.1) }))
      stops

  -- the journal was read, and then the pools were synced as far as they could be
  pub journal_kept : (new : Disk) (end : ℕ) (index : Index) → LookedAround mid new → IsSame mid new → ((c : DiskImage) (b : List ℕ) → new.left_since new.moment c b → new.may_leave c × (b ≡ new.sent)) → Read (reading (old.seen 0)) mid end index → KeepsJournal old new
  journal_kept new end index looked same_new only_now read =
      let now : (c : DiskImage) → new.may_leave c → Then c = λ c left. ap ledger_of (ap reading (read.says.rest.durable.only c (looked.rests.left c left)) ∙ read.same) in
      inr (record {
        leaves = record { left = λ c left. inr (now c left); during = goes_on old mid new Either leaves.during (weaker mid new (Now mid) Either (λ c b left. (leaves.left c left.0, left.1 ∙ same.sent)) looked.during) };
        since = new.moment;
        within = omega arith;
        from_then = λ c b left. let still = only_now c b left in (now c still.0, still.1 ∙ same_new.sent ∙ same.sent);
      })

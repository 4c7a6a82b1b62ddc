-- A backup's record, written once its new segments are durable, takes a ledger to the next one.
use Rattle.desk_model.proofs.Common.{◌≡◌, ◌≢◌, ◌∙◌, ℕ, true, List, [], ◌∷◌, ◌++◌, map, sym, refl, ap, subst, Bool, Some, None, Result, Ok, Err, if◌then◌else◌}
use Rattle.std.proofs.Common.{inl, ⊎_elim}
use Rattle.std.specs.Prelude.{OnOk}
use Rattle.std.proofs.lemmas.List.{append-nil}
use Rattle.vault_disk.specs.Disk.{Disk, During, Image as DiskImage, Now}
use Rattle.vault_disk.specs.Steps.{Rests}
use Rattle.vault_disk.proofs.Moments.{weaker}
use Rattle.pool_journal.specs.Records.{Found}
use Rattle.pool_journal.specs.Stops.{Appended, AtRest, Stops}
use Rattle.pool_journal.specs.declared.entry.Entry.TheVariants as entry
use Rattle.pool_journal.specs.declared.entry.WholeImage.{WholeImage}
use Rattle.pool_journal.specs.declared.segments.NewSegment.{NewSegment}
use Rattle.pool_journal.specs.declared.segments.Segments.{Segments}
use Rattle.desk_model.specs.State.{State}
use Rattle.vault_ledger.specs.Fitting.{whole_unit}
use Rattle.vault_ledger.specs.Keeping.{Between, KeepsLive, KeptLedger, SaysLedger, StandsFor}
use Rattle.vault_ledger.specs.Ledger.{Ledger, LiveSlot, are_true, backup_fits, live_on, new_ledger, piece_in, pieces_on, pool_file, recorded, segment_of, state_over, with_backup}
use Rattle.vault_ledger.specs.Sealing.{IsToRecord}
use Rattle.vault_ledger.proofs.AppendedLedgers.{append_between, append_kept, recorded_push}
use Rattle.vault_ledger.proofs.KeptLedgers.{kept_rests, rest_still}
use Rattle.vault_ledger.proofs.SyncedPools.{between_on, rested_between, synced_backup}

-- a step that leaves the state as it was leaves it or another one
pub between_wider : (s t : State) (old new : Disk) → Between s s old new → Between s t old new
between_wider s t old new same = record {
  left = λ c left. inl (⊎_elim (λ is. is) (λ is. is) (same.left c left));
  during = weaker old new (λ c b. StandsFor s s c × (b ≡ old.sent)) (λ c b. StandsFor s t c × (b ≡ old.sent)) (λ c b left. (inl (⊎_elim (λ is. is) (λ is. is) left.0), left.1)) same.during;
}

-- a backup whose segments fit is recorded
pub backup_recorded : (l : Ledger) (w : WholeImage) (segments : Segments) → backup_fits l w segments ≡ true → recorded l (entry.BackupSealed w segments) ≡ Some (with_backup w segments l)
backup_recorded l w segments fits = ap (λ (b : Bool). if b then Some (with_backup w segments l) else None) fits

-- a backup without new segments leaves the live slots as they were
none_added : (c : DiskImage) (l : Ledger) (w : WholeImage) (segments : Segments) → segments.added ≡ [] → (unit : List ℕ) → pieces_on c (with_backup w segments l) unit ≡ pieces_on c l unit
none_added c l w segments none unit =
    ap (λ (live : List LiveSlot). map (piece_in (c (pool_file unit l.outline)) (segment_of unit l.outline)) (live_on unit live))
    (ap (λ (added : List NewSegment). l.live ++ map (λ s. record { unit = whole_unit l.outline w; segment = s }) added) none ∙ append-nil l.live)

-- the segments of a backup are kept, once the new ones are durable
synced_any : (old new : Disk) (l : Ledger) (w : WholeImage) (segments : Segments) → Rests old new → (segments.added ≢ [] → (c : DiskImage) → new.may_leave c → c (pool_file (whole_unit l.outline w) l.outline) ≡ old.seen (pool_file (whole_unit l.outline w) l.outline))
    → KeepsLive old l → KeepsLive new (with_backup w segments l)
synced_any old new l w segments rests durable keeps = at segments.added refl
  where
    seen : new.seen ≡ old.seen
    seen = λ i f. rests.seen f i

    at : (added : List NewSegment) → segments.added ≡ added → KeepsLive new (with_backup w segments l)
    at [] none = record {
      each = λ c left unit.
          none_added c l w segments none unit ∙ keeps.each c (rests.left c left) unit ∙ sym (none_added old.seen l w segments none unit)
          ∙ ap (λ (d : DiskImage). pieces_on d (with_backup w segments l) unit) (sym seen);
    }
    at (s ∷ more) some = synced_backup old new l w segments rests (durable (λ none. absurd (cc (some, none)))) keeps

module _ (old mid : Disk) (end : ℕ) (l : Ledger) (w : WholeImage) (segments : Segments) (rests : Rests old mid) where
  abbrev m : Ledger
  m = with_backup w segments l

  seen : mid.seen ≡ old.seen
  seen = λ i f. rests.seen f i

  -- what the journal says, where it was read
  recorded_says : (new : Disk) (end' : ℕ) → backup_fits l w segments ≡ true → SaysLedger old end l → ((fs : List Found) → AtRest mid end fs → Appended fs end (entry.BackupSealed w segments) mid new end') → SaysLedger new end' m
  recorded_says new end' fits says append = record {
    records = _;
    rest = (append says.records (rest_still old mid end says.records (rests.seen 0) (λ c left. says.rest.durable.only c (rests.left c left)) says.rest)).rest;
    says = recorded_push 0 (Some new_ledger) says.records end (entry.BackupSealed w segments) l m says.says (backup_recorded l w segments fits);
  }

  pub ok_says : {T E : Type 0} (r : Result T E) (new : Disk) (end' : ℕ) → backup_fits l w segments ≡ true → SaysLedger old end l → ((fs : List Found) → AtRest mid end fs → OnOk r (Appended fs end (entry.BackupSealed w segments) mid new end')) → OnOk r (SaysLedger new end' m)
  ok_says (Ok v) new end' fits says append = recorded_says new end' fits says append
  ok_says (Err e) new end' fits says append = tt

  module _ (file : ℕ) (ready : IsToRecord l w segments file old.seen) (kept : KeptLedger old end l) where
    abbrev s : State
    s = state_over old.seen l

    abbrev t : State
    t = state_over old.seen m

    mid_kept : KeptLedger mid end l
    mid_kept = (kept_rests old mid end l rests kept).0

    true_mid : are_true mid.seen m m.outline.stored ≡ true
    true_mid = ap (λ (c : DiskImage). are_true c m m.outline.stored) seen ∙ ready.is_true

    sync_between : During old mid (Now mid) → mid.sent ≡ old.sent → Between s s old mid
    sync_between during sent = rested_between old mid end l kept rests during sent

    -- a sync that failed
    pub unsynced_between : During old mid (Now mid) → mid.sent ≡ old.sent → Between s t old mid
    unsynced_between during sent = between_wider s t old mid (sync_between during sent)

    module _ (durable : segments.added ≢ [] → (c : DiskImage) → mid.may_leave c → c file ≡ old.seen file) (new : Disk) (stops : (fs : List Found) → AtRest mid end fs → Stops fs end (entry.BackupSealed w segments) mid new) where
      keeps : KeepsLive mid m
      keeps = synced_any old mid l w segments rests (subst (λ (f : ℕ). segments.added ≢ [] → (c : DiskImage) → mid.may_leave c → c f ≡ old.seen f) ready.file_is durable) kept.keeps

      stops_here : Stops mid_kept.records end (entry.BackupSealed w segments) mid new
      stops_here = stops mid_kept.records mid_kept.rest

      -- each stop, from the sync on
      pub recorded_between : During old mid (Now mid) → mid.sent ≡ old.sent → Between s t old new
      recorded_between during sent = between_on s t old mid new sent (sync_between during sent)
          (subst (λ (c : DiskImage). Between (state_over c l) (state_over c m) mid new) seen
          (append_between l m (entry.BackupSealed w segments) mid new end mid_kept (backup_recorded l w segments ready.fits) true_mid keeps stops_here))

      -- the next ledger is known
      recorded_kept : (end' : ℕ) → ((fs : List Found) → AtRest mid end fs → Appended fs end (entry.BackupSealed w segments) mid new end') → KeptLedger new end' m × (state_over new.seen m ≡ t)
      recorded_kept end' append =
          let done = append_kept l m (entry.BackupSealed w segments) mid new end mid_kept (backup_recorded l w segments ready.fits) true_mid keeps stops_here end' (append mid_kept.records mid_kept.rest) in
          (done.0, done.2 ∙ ap (λ (c : DiskImage). state_over c m) seen)

      pub ok_kept : {T E : Type 0} (r : Result T E) (end' : ℕ) → ((fs : List Found) → AtRest mid end fs → OnOk r (Appended fs end (entry.BackupSealed w segments) mid new end')) → OnOk r (KeptLedger new end' m × (state_over new.seen m ≡ t))
      ok_kept (Ok v) end' append = recorded_kept end' append
      ok_kept (Err e) end' append = tt

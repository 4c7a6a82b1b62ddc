-- A backup whose pieces are placed in its unit's pool and then recorded takes a ledger to the next one.
use Rattle.desk_model.proofs.Common.{◌≡◌, ◌∙◌, ◌≤◌, ◌+◌, ℕ, zero, suc, Bool, true, false, List, [], ◌∷◌, ◌++◌, ◌&&◌, if◌then◌else◌, length, map, sym, refl, ap, subst, arith, Contains, bytes_eq, bytes_eq-Decides, false≢true, length-map, text_is, Stored}
use Rattle.std.proofs.Common.{inl, max}
use Rattle.std.proofs.lemmas.List.{length-append}
use Rattle.sha2.specs.Sha256.{sha256}
use Rattle.vault_disk.specs.Disk.{Disk, Image as DiskImage}
use Rattle.pool_journal.specs.declared.entry.WholeImage.{WholeImage}
use Rattle.pool_journal.specs.declared.segments.NewSegment.{NewSegment}
use Rattle.pool_journal.specs.declared.segments.Segments.{Segments}
use Rattle.segment_pool.specs.Faults.{IsDamage}
use Rattle.segment_pool.specs.Placing.{IsTruePool, KeepsPieces, Touches}
use Rattle.segment_pool.specs.Slots.{PoolState, number_held}
use Rattle.segment_pool.specs.declared.fault.PoolFault.{PoolFault}
use Rattle.segment_pool.specs.declared.fault.PoolFault.TheVariants as fault
use Rattle.copy_fragments.specs.Placings.{PlacingFails, PlacingTold, lacking, new_pieces}
use Rattle.desk_model.specs.Pieces.{pieces}
use Rattle.desk_model.specs.State.{State, stored_on}
use Rattle.vault_ledger.specs.Fitting.{image_fits, whole_unit}
use Rattle.vault_ledger.specs.Following.{IsSamePool}
use Rattle.vault_ledger.specs.Keeping.{Between, KeptLedger, SaysLedger}
use Rattle.vault_ledger.specs.Ledger.{Ledger, are_true, backup_fits, live_on, named_on, pieces_on, pool_file, segment_of, segments_fit, set_over, spelled, state_over, with_backup}
use Rattle.vault_ledger.specs.Pools.{HoldsLive, slots_in, unrecorded}
use Rattle.vault_ledger.specs.Sealing.{HasSlots, IsPoolFor, IsSealed, IsToRecord, IsUnsealed, IsWithin, SealingFails, pieces_after, pieces_before, state_sealed}
use Rattle.vault_ledger.specs.Wellformed.{IsLedger}
use Rattle.vault_ledger.proofs.HeldSlots.{held_count, new_alike}
use Rattle.vault_ledger.proofs.KeptLedgers.{rest_still}
use Rattle.vault_ledger.proofs.Lacking.{with_lacking}
use Rattle.vault_ledger.proofs.LedgerStates.{backup_over}
use Rattle.vault_ledger.proofs.LedgerUnits.{set_there, some_segment}
use Rattle.vault_ledger.proofs.PoolLedgers.{backup_pools, ledger_pool}
use Rattle.vault_ledger.proofs.RecordedBackups.{backup_recorded, between_wider}
use Rattle.vault_ledger.proofs.SyncedPools.{between_on, looked_between}
use Rattle.vault_ledger.proofs.TouchedPools.{journal_beside, touched_between, touched_kept}

-- Where nothing was done.

pub nothing_unsealed : (l : Ledger) (d : Disk) (end : ℕ) → IsUnsealed l d d end end
nothing_unsealed l d end = record { says = λ told says. says; kept = λ told kept. (kept, refl) }

pub nothing_between : (l : Ledger) (t : State) (d : Disk) (end : ℕ) → KeptLedger d end l → Between (state_over d.seen l) t d d
nothing_between l t d end kept = between_wider (state_over d.seen l) t d d (looked_between d d end l kept (record {
  rests = record { seen = λ f. refl; left = λ c left. left };
  during = record { later = omega arith; each = λ m c b le left. inl left };
}))

-- the pieces of a unit with a set are those of its live slots
stored_over : (c : DiskImage) (l : Ledger) (unit : List ℕ) (sets : List Stored) (set : Stored) → Contains sets set → set.unit ≡ unit → stored_on unit (map (set_over c l) sets) ≡ pieces_on c l unit
stored_over c l unit [] set (k, lt, is) own = absurd (omega arith)
stored_over c l unit (s ∷ sets) set among own = at (bytes_eq s.unit unit) refl among (λ later. stored_over c l unit sets set later own)
  where
    at : (b : Bool) → bytes_eq s.unit unit ≡ b → Contains (s ∷ sets) set → (Contains sets set → stored_on unit (map (set_over c l) sets) ≡ pieces_on c l unit) → (if b then pieces_on c l s.unit else stored_on unit (map (set_over c l) sets)) ≡ pieces_on c l unit
    at true same there later = ap (pieces_on c l) (text_is s.unit unit same)
    at false differs (zero, lt, is) later = absurd (false≢true (sym differs ∙ (bytes_eq-Decides s.unit unit).1 (ap (λ (x : Stored). x.unit) is ∙ own)))
    at false differs (suc k, lt, is) later = later (k, omega arith, is)

module _ (l : Ledger) (in_order : IsLedger l) (w : WholeImage) (bytes : List ℕ) (pool : PoolState) (own : IsPoolFor l w pool) where
  abbrev unit : List ℕ
  unit = whole_unit l.outline w

  abbrev known : List NewSegment
  known = live_on unit l.live

  abbrev named : List ℕ
  named = named_on unit l.placements

  pub some_size : 1 ≤ pool.size
  some_size = omega (arith, some_segment l in_order unit own.there, own.size)

  pub true_before : (c : DiskImage) → are_true c l l.outline.stored ≡ true → IsTruePool sha256 pool c
  true_before c is_true = ledger_pool c l in_order is_true unit own.there pool own.file own.size named own.holds

  -- Placing.

  module _ (old mid : Disk) (end : ℕ) where
    abbrev HasGrown : Type 0
    HasGrown = (grown : ℕ) × KeepsPieces pool grown old.seen mid.seen

    abbrev AreTouched : Type 0
    AreTouched = (most : ℕ) × Touches pool most old mid

    says_still : AreTouched → HasGrown → SaysLedger old end l → SaysLedger mid end l
    says_still touches keeps says = record {
      records = says.records;
      rest = rest_still old mid end says.records (beside keeps.0 old.seen mid.seen keeps.1) (λ c left. let from = touches.1.left c left in beside touches.0 from.0 c from.2 ∙ says.rest.durable.only from.0 from.1) says.rest;
      says = says.says;
    }
      where
        beside : (e : ℕ) (d c : DiskImage) → KeepsPieces pool e d c → c 0 ≡ d 0
        beside e d c kept = journal_beside l in_order unit own.there pool own.file own.size named own.holds e d c kept

    kept_still : AreTouched → HasGrown → KeptLedger old end l → KeptLedger mid end l × (state_over mid.seen l ≡ state_over old.seen l)
    kept_still touches keeps kept =
        let all = touched_kept old mid end l kept unit own.there pool own.file own.size named own.holds touches.0 touches.1 keeps.0 keeps.1 in
        (all.0, all.2)

    -- pieces that were refused leave the ledger known
    pub placing_unsealed : (old.tells → AreTouched) → (old.tells → HasGrown) → IsUnsealed l old mid end end
    placing_unsealed touches keeps = record {
      says = λ told. says_still (touches told) (keeps told);
      kept = λ told. kept_still (touches told) (keeps told);
    }

    placing_between : AreTouched → KeptLedger old end l → Between (state_over old.seen l) (state_over old.seen l) old mid
    placing_between touches kept = touched_between old mid end l kept unit own.there pool own.file own.size named own.holds touches.0 touches.1

    pub placing_left : (t : State) → AreTouched → KeptLedger old end l → Between (state_over old.seen l) t old mid
    placing_left t touches kept = between_wider (state_over old.seen l) t old mid (placing_between touches kept)

  -- The slots.

  module _ (c : DiskImage) where
    abbrev s : State
    s = state_over c l

    before_is : pieces_before s w ≡ pieces_on c l unit
    before_is =
        let set = set_there l in_order unit own.there in
        stored_over c l unit l.outline.stored set.0 set.1 set.2

    before_count : length (pieces_before s w) ≡ number_held pool
    before_count = ap length before_is ∙ length_map_known ∙ sym (held_count known (in_order.slots unit) named pool own.holds)
      where
        length_map_known : length (pieces_on c l unit) ≡ length known
        length_map_known = length-map known _

    after_count : length (pieces_after s w bytes) ≡ number_held pool + length (new_pieces pool c bytes)
    after_count =
        let more = new_alike known (in_order.slots unit) named pool own.holds c (c (pool_file unit l.outline)) (ap c own.file) (segment_of unit l.outline) own.size bytes in
        let lacks : length (lacking (pieces_before s w) (pieces (segment_of unit l.outline) bytes)) ≡ length (new_pieces pool c bytes) = ap (λ (set : List (List ℕ)). length (lacking set (pieces (segment_of unit l.outline) bytes))) before_is ∙ ap length (sym more) in
        ap length (with_lacking (pieces_before s w) (pieces (segment_of unit l.outline) bytes))
        ∙ length-append (pieces_before s w) (lacking (pieces_before s w) (pieces (segment_of unit l.outline) bytes))
        ∙ (λ i. before_count i + lacks i)

    pub slots_enough : IsWithin pool (new_pieces pool c bytes) → HasSlots pool.slots s w bytes
    slots_enough within more = let some : 1 ≤ length (new_pieces pool c bytes) = omega (arith, more, before_count, after_count) in omega (arith, within some, after_count)

    -- so where there aren't, they weren't placed
    pub slots_lacking : IsWithin pool (new_pieces pool c bytes) → (HasSlots pool.slots s w bytes → ⊥) → (old new : Disk) → Between s s old new
    slots_lacking within lacks old new = absurd (lacks (slots_enough within))

    -- what a refusal tells
    pub placing_fails : (e : PoolFault) (faults now : ℕ) → PlacingTold sha256 pool c bytes e → PlacingFails pool faults now e → (IsDamage e → ⊥) → SealingFails pool.slots s w bytes e
    placing_fails fault.NoMemory faults now told fails undamaged = tt
    placing_fails fault.DiskFault faults now told fails undamaged = tt
    placing_fails (fault.Damaged recorded found) faults now told fails undamaged = absurd (undamaged tt)
    placing_fails (fault.Full count) faults now told fails undamaged =
        (omega (arith, told.0, before_count, after_count), omega (arith, told.1, after_count), fails ∙ ap (λ (n : ℕ). max pool.slots n + 1) (sym before_count))

  -- The record.

  module _ (fits : image_fits l.outline w ≡ true) (long : w.length ≡ length bytes) (added : List NewSegment) (slots : List ℕ) (after : PoolState) (same : IsSamePool pool after)
      (segments_so : segments_fit pool.size known (length bytes) (record { added = added; pieces = slots }) ≡ true) (holds : HoldsLive (known ++ added) (named ++ slots) after) (order : slots_in added ≡ unrecorded (slots_in known) slots) where
    abbrev segments : Segments
    segments = record { added = added; pieces = slots }

    abbrev m : Ledger
    m = with_backup w segments l

    fits_so : backup_fits l w segments ≡ true
    fits_so =
        let moved : segments_fit (segment_of unit l.outline) known w.length segments ≡ true = (λ i. segments_fit (sym own.size i) known (long i) segments) ∙ segments_so in
        λ i. fits i && moved i

    module _ (old mid new : Disk) (end end' file : ℕ) (file_is : file ≡ pool.file) where
      abbrev Spells : Type 0
      Spells = spelled (mid.seen pool.file) pool.size (length bytes) slots ≡ bytes

      module _ (touches : AreTouched old mid end) (keeps : HasGrown old mid end) (kept : KeptLedger old end l) (stays : IsTruePool sha256 pool old.seen → IsTruePool sha256 after mid.seen) (spells : Spells) where
        mid_kept : KeptLedger mid end l × (state_over mid.seen l ≡ state_over old.seen l)
        mid_kept = kept_still old mid end touches keeps kept

        ready : IsToRecord l w segments file mid.seen
        ready = record {
          fits = fits_so;
          is_true = backup_pools mid.seen l in_order w segments fits_so mid_kept.0.is_true after after (record { file = refl; size = refl; was = λ slot x is. (x, is, refl, refl) }) (stays (true_before old.seen kept.is_true)) (same.file ∙ own.file) (same.size ∙ own.size) (named ++ slots) holds;
          file_is = file_is ∙ own.file;
        }

        state_is : state_over mid.seen m ≡ state_sealed (state_over old.seen l) w bytes
        state_is =
            backup_over mid.seen l in_order w segments fits_so ready.is_true order bytes ((λ i. spelled (mid.seen (sym own.file i)) (sym own.size i) (long i) slots) ∙ spells)
            ∙ ap (λ (t : State). state_sealed t w bytes) mid_kept.1

        -- each stop, where it is recorded or where that fails
        pub sealed_between : mid.sent ≡ old.sent → (IsToRecord l w segments file mid.seen → KeptLedger mid end l → Between (state_over mid.seen l) (state_over mid.seen m) mid new) → Between (state_over old.seen l) (state_sealed (state_over old.seen l) w bytes) old new
        sealed_between sent recording = between_on (state_over old.seen l) (state_sealed (state_over old.seen l) w bytes) old mid new sent (placing_between old mid end touches kept)
            (subst (λ (a : State). Between a (state_sealed (state_over old.seen l) w bytes) mid new) mid_kept.1 (subst (λ (b : State). Between (state_over mid.seen l) b mid new) state_is (recording ready mid_kept.0)))

        next_kept : (IsToRecord l w segments file mid.seen → KeptLedger mid end l → KeptLedger new end' m × (state_over new.seen m ≡ state_over mid.seen m)) → KeptLedger new end' m × (state_over new.seen m ≡ state_sealed (state_over old.seen l) w bytes)
        next_kept recording = let done = recording ready mid_kept.0 in (done.0, done.1 ∙ state_is)

      -- the backup is sealed
      pub sealed_so : (old.tells → AreTouched old mid end) → (old.tells → HasGrown old mid end) → (old.tells → IsTruePool sha256 pool old.seen → IsTruePool sha256 after mid.seen) → (old.tells → Spells)
          → (old.tells → backup_fits l w segments ≡ true → SaysLedger mid end l → SaysLedger new end' m)
          → (old.tells → IsToRecord l w segments file mid.seen → KeptLedger mid end l → KeptLedger new end' m × (state_over new.seen m ≡ state_over mid.seen m))
          → IsSealed l w bytes old new end end' after slots
      sealed_so touches keeps stays spells says kept = record {
        segments = segments;
        pieces_are = refl;
        fits = backup_recorded l w segments fits_so;
        holds = holds;
        says = λ told was. says told fits_so (says_still old mid end (touches told) (keeps told) was);
        kept = λ told was. next_kept (touches told) (keeps told) was (stays told) (spells told) (kept told);
      }

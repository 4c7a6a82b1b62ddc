-- A record that is added to a journal takes its vault from one ledger to the next.
use Rattle.desk_model.proofs.Common.{◌≡◌, ◌≢◌, ◌∙◌, ⊎_elim, ℕ, List, [], ◌∷◌, map, true, sym, refl, ap, arith, Option, Some, None, Ok}
use Rattle.std.proofs.Common.{inl, inr}
use Rattle.vault_disk.specs.Disk.{Disk, Image as DiskImage}
use Rattle.vault_disk.proofs.Moments.{weaker}
use Rattle.pool_journal.specs.declared.entry.Entry.{Entry}
use Rattle.pool_journal.specs.Records.{Found}
use Rattle.pool_journal.specs.Stops.{Appended, Appending, FromBefore, IsBeforeOrAfter, Stops, with_one}
use Rattle.desk_model.specs.State.{State}
use Rattle.vault_ledger.specs.Keeping.{Between, KeepsLive, KeptLedger, StandsFor}
use Rattle.vault_ledger.specs.Ledger.{Ledger, all_recorded, are_true, ledger_of, live_on, new_ledger, piece_in, pieces_on, pool_file, recorded, recorded_from, segment_of, state_over}
use Rattle.vault_ledger.proofs.Frames.{over_alike, true_alike}
use Rattle.vault_ledger.proofs.JournalLedgers.{journal_kept}
use Rattle.vault_ledger.proofs.KeptLedgers.{stands_too}

-- pieces are seen of the pools' files alone, none of which is the journal
pub pieces_beside : (c d : DiskImage) (l : Ledger) → ((g : ℕ) → g ≢ 0 → c g ≡ d g) → (unit : List ℕ) → pieces_on c l unit ≡ pieces_on d l unit
pieces_beside c d l others unit = ap (λ (file : List ℕ). map (piece_in file (segment_of unit l.outline)) (live_on unit l.live)) (others (pool_file unit l.outline) (λ is. absurd (omega arith)))

pub recorded_push : (at : ℕ) (o : Option Ledger) (fs : List Found) (end : ℕ) (e : Entry) (l m : Ledger) → recorded_from at o fs ≡ Ok l → recorded l e ≡ Some m → recorded_from at o (with_one fs end e) ≡ Ok m
recorded_push at None fs end e l m is fits = absurd (cc is)
recorded_push at (Some k) [] end e l m is fits =
    let same : k ≡ l = cc is in
    ap (λ (x : Ledger). recorded_from end (recorded x e) []) same ∙ ap (λ (o : Option Ledger). recorded_from end o []) fits
recorded_push at (Some k) (f ∷ fs) end e l m is fits = recorded_push f.at (recorded k f.is) fs end e l m is fits

module _ (l m : Ledger) (e : Entry) (old new : Disk) (end : ℕ) (kept : KeptLedger old end l) (fits : recorded l e ≡ Some m) (is_true : are_true old.seen m m.outline.stored ≡ true) (keeps : KeepsLive old m) where
  abbrev s : State
  s = state_over old.seen l

  abbrev t : State
  t = state_over old.seen m

  says_more : all_recorded (with_one kept.records end e) ≡ Ok m
  says_more = recorded_push 0 (Some new_ledger) kept.records end e l m kept.says fits

  either : (c : DiskImage) → FromBefore old (IsBeforeOrAfter kept.records end e) c → StandsFor s t c
  either c from = ⊎_elim
      (λ before. inl (stands_too c old.seen l (ap ledger_of before ∙ kept.says) kept.is_true (λ unit. pieces_beside c from.from l from.others unit ∙ kept.keeps.each from.from from.left unit)))
      (λ after. inr (stands_too c old.seen m (ap ledger_of after ∙ says_more) is_true (λ unit. pieces_beside c from.from m from.others unit ∙ keeps.each from.from from.left unit)))
      from.inside

  -- each stop in an append leaves the state before or the one after
  pub append_between : Stops kept.records end e old new → Between s t old new
  append_between stops = record {
    left = λ c left. either c (stops.left c left);
    during = weaker old new (Appending kept.records end e old) (λ c b. StandsFor s t c × (b ≡ old.sent)) (λ c b left. (either c left.0, left.1)) stops.during;
  }

  -- and where it succeeded the next ledger is known, with its state over what was read before
  pub append_kept : Stops kept.records end e old new → (end' : ℕ) → Appended kept.records end e old new end' → (more : KeptLedger new end' m) × (more.records ≡ with_one kept.records end e) × (state_over new.seen m ≡ t)
  append_kept stops end' appended =
      let same : (unit : List ℕ) → pieces_on new.seen m unit ≡ pieces_on old.seen m unit = pieces_beside new.seen old.seen m appended.others in (
        record {
          records = with_one kept.records end e;
          rest = appended.rest;
          says = says_more;
          is_true = true_alike new.seen old.seen m same m.outline.stored ∙ is_true;
          keeps = record {
            each = λ c left unit.
                let from = stops.left c left in
                pieces_beside c from.from m from.others unit ∙ keeps.each from.from from.left unit ∙ sym (same unit);
          };
        },
        refl,
        over_alike new.seen old.seen m same (journal_kept new.seen m (ap ledger_of appended.rest.reads ∙ says_more)),
      )

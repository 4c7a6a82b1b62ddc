-- What a step over the index of a ledger keeps, in each case of what it did.
use Rattle.desk_model.proofs.Common.{◌≡◌, ◌∙◌, ℕ, true, List, refl, sym, ap, subst, Some, Answer, Request, State, step}
use Rattle.site_types.specs.Classes.{class_of}
use Rattle.site_types.specs.declared.answer.Answer.TheVariants.{Done, DiskFault}
use Rattle.vault_disk.specs.Disk.{Disk, Image as DiskImage, IsSame, Now}
use Rattle.vault_disk.specs.Steps.{LookedAround}
use Rattle.vault_disk.proofs.Moments.{goes_on, started, weaker}
use Rattle.pool_journal.specs.declared.entry.Entry.{Entry}
use Rattle.pool_journal.specs.Records.{Found}
use Rattle.pool_journal.specs.Stops.{Appended, AtRest, Stops, with_one}
use Rattle.vault_ledger.specs.Keeping.{Between, KeepsLive, KeptLedger}
use Rattle.vault_ledger.specs.Ledger.{Ledger, are_true, new_ledger, recorded, state_over}
use Rattle.vault_ledger.proofs.AppendedLedgers.{append_between, append_kept, recorded_push}
use Rattle.vault_ledger.proofs.KeptLedgers.{kept_rests}
use Rattle.vault_ledger.proofs.KnownLedgers.{says_rests}
use Rattle.vault_ledger.proofs.RecordedBackups.{between_wider}
use Rattle.vault_ledger.proofs.SyncedPools.{looked_between}
use Rattle.desk_index.specs.Answers.{Answered, IsRefused, MayFail, Moved, reached}
use Rattle.desk_index.specs.Index.{IsIndexOf}
use Rattle.desk_index.specs.declared.index.Index.{Index}
use Rattle.desk_steps.specs.Steps.{StepsOver}

-- a disk with which nothing was done
pub nothing_done : (disk : Disk) → LookedAround disk disk
nothing_done disk = record { rests = record { seen = λ f. refl; left = λ c left. left }; during = started disk (Now disk) }

-- one look round after another
pub looked_after : (a b c : Disk) → LookedAround a b → LookedAround b c → IsSame a b → LookedAround a c
looked_after a b c first second same = record {
  rests = record { seen = λ f. second.rests.seen f ∙ first.rests.seen f; left = λ i left. first.rests.left i (second.rests.left i left) };
  during = goes_on a b c (Now a) first.during (weaker b c (Now b) (Now a) (λ i sent now. (first.rests.left i now.0, now.1 ∙ same.sent)) second.during);
}

-- the answer fits the state, which stays
abbrev pub Stays : State → Request → List ℕ → ℕ → Answer → Type 0
Stays s request payload moment answer = Answered s request payload moment answer × Moved s request payload moment answer s

module _ (l : Ledger) (request : Request) (payload : List ℕ) (moment : ℕ) (answer : Answer) (old new : Disk) (end : ℕ) (index : Index) where
  -- the vault was looked around, and the ledger stays
  pub looked_over : IsIndexOf l index → (old.tells → LookedAround old new) → (old.tells → KeptLedger old end l → Stays (state_over old.seen l) request payload moment answer) → StepsOver l request payload moment answer old new end end index
  looked_over is looked stays = record {
    goes_on = λ other. record {
      ledger = l;
      is = is;
      says = λ told says. says_rests old new end l (looked told).rests says;
      kept = λ told kept.
          let more = kept_rests old new end l (looked told).rests kept in
          (more.0, subst (λ (s : State). Moved (state_over old.seen l) request payload moment answer s) (sym more.2) (stays told kept).1);
    };
    from = λ told kept. record {
      answers = (stays told kept).0;
      stops = between_wider (state_over old.seen l) (reached (state_over old.seen l) request payload moment answer) old new (looked_between old new end l kept (looked told));
    };
  }

-- the disk failed, and nothing more is known of what the vault says
pub failed_over : (l : Ledger) (request : Request) (payload : List ℕ) (moment : ℕ) (old new : Disk) (end end' : ℕ) (index : Index)
    → (old.tells → KeptLedger old end l → MayFail (class_of request) (step (state_over old.seen l) request payload moment).0 × Between (state_over old.seen l) (step (state_over old.seen l) request payload moment).1 old new)
    → StepsOver l request payload moment DiskFault old new end end' index
failed_over l request payload moment old new end end' index from = record {
  goes_on = λ other. absurd (other refl);
  from = λ told kept. let both = from told kept in record { answers = both.0; stops = both.1 };
}

-- it was refused without a call of the vault, where the pools are true
pub refused_over : (l : Ledger) (request : Request) (payload : List ℕ) (moment : ℕ) (answer : Answer) (disk : Disk) (end : ℕ) (index : Index) → IsIndexOf l index
    → ((c : DiskImage) → are_true c l l.outline.stored ≡ true → IsRefused (state_over c l) request payload moment answer) → StepsOver l request payload moment answer disk disk end end index
refused_over l request payload moment answer disk end index is refused = looked_over l request payload moment answer disk disk end index is (λ told. nothing_done disk) (λ told kept. refused disk.seen kept.is_true)

-- What a record does that takes a ledger to another one.

module _ (l m : Ledger) (e : Entry) (request : Request) (payload : List ℕ) (moment : ℕ) (body : List ℕ) (old new : Disk) (end : ℕ) (fits : recorded l e ≡ Some m)
    (steps : (c : DiskImage) → step (state_over c l) request payload moment ≡ (Done body, state_over c m))
    (next : KeptLedger old end l → (are_true old.seen m m.outline.stored ≡ true) × KeepsLive old m)
    (stops : old.tells → (fs : List Found) → AtRest old end fs → Stops fs end e old new) where
  between : old.tells → (kept : KeptLedger old end l) → Between (state_over old.seen l) (step (state_over old.seen l) request payload moment).1 old new
  between told kept =
      let after = next kept in
      subst (λ (t : State). Between (state_over old.seen l) t old new) (sym (ap (λ (p : Answer × State). p.1) (steps old.seen)))
      (append_between l m e old new end kept fits after.0 after.1 (stops told kept.records kept.rest))

  -- it was written
  pub recorded_over : (end' : ℕ) (index' : Index) → IsIndexOf m index' → (old.tells → (fs : List Found) → AtRest old end fs → Appended fs end e old new end') → StepsOver l request payload moment (Done body) old new end end' index'
  recorded_over end' index' is appended = record {
    goes_on = λ other. record {
      ledger = m;
      is = is;
      says = λ told says. record {
        records = with_one says.records end e;
        rest = (appended told says.records says.rest).rest;
        says = recorded_push 0 (Some new_ledger) says.records end e l m says.says fits;
      };
      kept = λ told kept.
          let after = next kept in
          let more = append_kept l m e old new end kept fits after.0 after.1 (stops told kept.records kept.rest) end' (appended told kept.records kept.rest) in
          (more.0, more.2 ∙ sym (ap (λ (p : Answer × State). p.1) (steps old.seen)));
    };
    from = λ told kept. record {
      answers = sym (ap (λ (p : Answer × State). p.0) (steps old.seen));
      stops = between told kept;
    };
  }

  -- the disk failed: it may be there or not
  pub unrecorded_over : (end' : ℕ) (index' : Index) → StepsOver l request payload moment DiskFault old new end end' index'
  unrecorded_over end' index' = failed_over l request payload moment old new end end' index' (λ told kept. (
    subst (MayFail (class_of request)) (sym (ap (λ (p : Answer × State). p.0) (steps old.seen))) tt,
    between told kept,
  ))

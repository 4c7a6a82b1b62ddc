-- A disk whose ledger is known stands for the ledger's state, whatever a stop leaves.
use Rattle.desk_model.proofs.Common.{◌≡◌, ◌∙◌, ℕ, List, refl, sym, ap, subst, Bool, true, Some, None, Result, Ok, if◌then◌else◌, option_and_then}
use Rattle.std.specs.Result.{result_ok}
use Rattle.vault_disk.specs.Disk.{Disk, Image as DiskImage}
use Rattle.vault_disk.specs.Steps.{Rests}
use Rattle.pool_journal.specs.Records.{Found, Holds, reading}
use Rattle.pool_journal.specs.Stops.{AtRest}
use Rattle.desk_model.specs.State.{State}
use Rattle.vault_ledger.specs.Keeping.{KeptLedger}
use Rattle.vault_ledger.specs.Ledger.{Ledger, are_true, journal_reads, ledger_of, pieces_on, stands, state_over, state_where}
use Rattle.vault_ledger.proofs.Frames.{over_alike, true_alike}
use Rattle.vault_ledger.specs.Wellformed.{IsLedger}
use Rattle.vault_ledger.proofs.JournalLedgers.{journal_kept}

-- what reads as a ledger's journal and has true pools stands for its state
pub stands_for : (c : DiskImage) (l : Ledger) → journal_reads c ≡ Ok l → are_true c l l.outline.stored ≡ true → stands c ≡ Some (state_over c l)
stands_for c l reads is_true =
    ap (λ (r : Result Ledger ℕ). option_and_then (state_where c) (result_ok r)) reads
    ∙ ap (λ (b : Bool). if b then Some (state_over c l) else None) is_true

-- and so does one whose live slots have the bytes of true pools
pub stands_too : (c d : DiskImage) (l : Ledger) → journal_reads c ≡ Ok l → are_true d l l.outline.stored ≡ true → ((unit : List ℕ) → pieces_on c l unit ≡ pieces_on d l unit) → stands c ≡ Some (state_over d l)
stands_too c d l reads is_true same =
    stands_for c l reads (true_alike c d l same l.outline.stored ∙ is_true)
    ∙ ap (λ (s : State). Some s) (over_alike c d l same (journal_kept c l reads))

module _ (disk : Disk) (end : ℕ) (l : Ledger) (kept : KeptLedger disk end l) where
  pub kept_reads : journal_reads disk.seen ≡ Ok l
  kept_reads = ap ledger_of kept.rest.reads ∙ kept.says

  -- a known ledger is in order
  pub kept_in_order : IsLedger l
  kept_in_order = journal_kept disk.seen l kept_reads

  -- what is read of the disk stands for its state
  pub kept_seen : stands disk.seen ≡ Some (state_over disk.seen l)
  kept_seen = stands_for disk.seen l kept_reads kept.is_true

  -- and so does each image that a stop may leave
  pub kept_stands : (c : DiskImage) → disk.may_leave c → stands c ≡ Some (state_over disk.seen l)
  kept_stands c left =
      stands_too c disk.seen l (ap (λ (bytes : List ℕ). ledger_of (reading bytes)) (kept.rest.durable.only c left) ∙ kept_reads) kept.is_true (kept.keeps.each c left)

-- the journal is at rest on a disk that reads the same of it, where a stop leaves no more than before
pub rest_still : (old new : Disk) (end : ℕ) (records : List Found) → new.seen 0 ≡ old.seen 0 → ((c : DiskImage) → new.may_leave c → c 0 ≡ old.seen 0) → AtRest old end records → AtRest new end records
rest_still old new end records same only rest = record {
  holds = subst (λ (bytes : List ℕ). Holds bytes records end) (sym same) rest.holds;
  reads = ap reading same ∙ rest.reads;
  durable = record { only = λ c left. only c left ∙ sym same };
  short = rest.short;
}

-- a look round leaves a ledger known, with its state
pub kept_rests : (old new : Disk) (end : ℕ) (l : Ledger) → Rests old new → (kept : KeptLedger old end l) → (more : KeptLedger new end l) × (more.records ≡ kept.records) × (state_over new.seen l ≡ state_over old.seen l)
kept_rests old new end l rests kept =
    let seen : new.seen ≡ old.seen = λ i f. rests.seen f i in (
      record {
        records = kept.records;
        rest = rest_still old new end kept.records (rests.seen 0) (λ c left. kept.rest.durable.only c (rests.left c left)) kept.rest;
        says = kept.says;
        is_true = ap (λ (c : DiskImage). are_true c l l.outline.stored) seen ∙ kept.is_true;
        keeps = record { each = λ c left unit. kept.keeps.each c (rests.left c left) unit ∙ ap (λ (d : DiskImage). pieces_on d l unit) (sym seen) };
      },
      refl,
      ap (λ (c : DiskImage). state_over c l) seen,
    )

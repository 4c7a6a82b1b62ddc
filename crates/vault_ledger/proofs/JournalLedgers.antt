-- What a journal says is in order.
use Rattle.desk_model.proofs.Common.{◌≡◌, ℕ, zero, suc, List, [], ◌∷◌, refl, sym, ap, subst, arith, Option, Some, None, Result, Ok, Err, Contains, Stored, initial}
use Rattle.site_types.proofs.OptionLemmas.{guarded, mapped}
use Rattle.vault_disk.specs.Disk.{Image as DiskImage}
use Rattle.pool_journal.specs.declared.entry.Entry.{Entry}
use Rattle.pool_journal.specs.declared.entry.Entry.TheVariants as entry
use Rattle.pool_journal.specs.Records.{Found, Reading, found, broken, foreign, reading}
use Rattle.desk_model.proofs.SoundSteps.{sound_initial}
use Rattle.vault_ledger.specs.Fitting.{settled}
use Rattle.vault_ledger.specs.Ledger.{Ledger, all_recorded, backup_fits, journal_reads, ledger_of, new_ledger, recorded, recorded_from, unless_before, with_backup, with_outline}
use Rattle.vault_ledger.specs.Wellformed.{IsLedger}
use Rattle.vault_ledger.proofs.KeptBackups.{backup_kept}
use Rattle.vault_ledger.proofs.KeptSettings.{lines_kept}

pub new_kept : IsLedger new_ledger
new_kept = record {
  shape = record { images = []; stored = initial.stored; listed = refl; units = refl; sound = sound_initial };
  no_bytes = λ image (k, lt, is). absurd (omega arith);
  no_pieces = only;
  sets = (λ other (k, lt, is). absurd (omega arith), tt);
  live = λ s (k, lt, is). absurd (omega arith);
  slots = λ unit. tt;
  images = λ image (k, lt, is). absurd (omega arith);
}
  where
    only : (set : Stored) → Contains initial.stored set → set.pieces ≡ []
    only set (zero, lt, is) = ap (λ (s : Stored). s.pieces) (sym is)
    only set (suc k, lt, is) = absurd (omega arith)

recorded_kept : (l : Ledger) → IsLedger l → (e : Entry) (m : Ledger) → recorded l e ≡ Some m → IsLedger m
recorded_kept l kept (entry.Settings lines) m is =
    let done = mapped (with_outline l) (settled l.outline lines) m is in
    subst IsLedger done.2 (lines_kept lines l done.0 kept done.1)
recorded_kept l kept (entry.BackupSealed image segments) m is =
    let done = guarded (backup_fits l image segments) (Some (with_backup image segments l)) m is in
    let same : with_backup image segments l ≡ m = cc done.1 in
    subst IsLedger same (backup_kept l kept image segments done.0)
recorded_kept l kept (entry.CopySealed id copy completed segments) m is = absurd (cc is)

all_kept : (fs : List Found) (at : ℕ) (o : Option Ledger) (m : Ledger) → ((l : Ledger) → o ≡ Some l → IsLedger l) → recorded_from at o fs ≡ Ok m → IsLedger m
all_kept fs at None m kept is = absurd (cc is)
all_kept [] at (Some l) m kept is = let same : l ≡ m = cc is in subst IsLedger same (kept l refl)
all_kept (f ∷ fs) at (Some l) m kept is = all_kept fs f.at (recorded l f.is) m (λ k made. recorded_kept l (kept l refl) f.is k made) is

reading_kept : (r : Reading) (l : Ledger) → ledger_of r ≡ Ok l → IsLedger l
reading_kept (found fs) l is = all_kept fs 0 (Some new_ledger) l (λ k some. let same : new_ledger ≡ k = cc some in subst IsLedger same new_kept) is
reading_kept (broken fs at) l is = never (all_recorded fs) is
  where
    never : (o : Result Ledger ℕ) → unless_before at o ≡ Ok l → IsLedger l
    never (Ok k) none = absurd (cc none)
    never (Err earlier) none = absurd (cc none)
reading_kept (foreign at) l is = absurd (cc is)

-- what a journal says is in order
pub journal_kept : (c : DiskImage) (l : Ledger) → journal_reads c ≡ Ok l → IsLedger l
journal_kept c l is = reading_kept (reading (c 0)) l is

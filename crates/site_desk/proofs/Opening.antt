-- What an opening finds is the state of a desk.
use Rattle.std.proofs.Common.{◌≡◌, ◌∙◌, ℕ, Some, Ok, Result, sym, ap, subst}
use Rattle.vault_disk.specs.Disk.{Disk, Image as DiskImage}
use Rattle.pool_journal.specs.declared.fault.JournalFault.{JournalFault}
use Rattle.pool_journal.specs.declared.fault.JournalFault.TheVariants as journal
use Rattle.desk_model.specs.State.{State}
use Rattle.desk_model.specs.Sound.{Sound, KeepsCopies}
use Rattle.vault_ledger.specs.Ledger.{Ledger, journal_reads, stands}
use Rattle.desk_index.specs.Index.{IsIndexOf}
use Rattle.desk_index.specs.declared.index.Index.{Index}
use Rattle.desk_steps.specs.Openings.{IsFound, IsFaultOf as IsFaultIn}
use Rattle.site_desk.specs.Desk.{IsFaultOf, Known, desk_state}
use Rattle.site_desk.specs.Stands.{Standing, opened, state_by}
use Rattle.site_desk.proofs.Standings.{disk_sound, kept_standing, kept_state, state_is}

module _ (old new : Disk) (end : ℕ) (index : Index) (found : IsFound old new end index) where
  -- what the vault read as
  pub found_opened : opened old.seen ≡ Ok (desk_state new)
  found_opened =
      ap (λ (r : Result Ledger ℕ). state_by old.seen r) found.reads
      ∙ ap (λ (s : State). Ok s) (sym (state_is new end found.ledger found.says ∙ found.over))

  -- and what it stood for
  pub found_standing : (s : State) → stands old.seen ≡ Some s → (desk_state new ≡ s) × Standing new (desk_state new)
  found_standing s is =
      let kept = found.kept s is in
      let there = kept_state new end found.ledger kept.0 in
      (there ∙ kept.1, subst (λ (t : State). Standing new t) (sym there) (kept_standing new end found.ledger kept.0))

  pub found_sound : (s : State) → stands old.seen ≡ Some s → Sound (desk_state new) × KeepsCopies (desk_state new)
  found_sound s is = subst (λ (t : State). Sound t × KeepsCopies t) (sym (found_standing s is).0) (disk_sound old.seen s is)

-- what is known of an index that was found
pub found_known : (old new : Disk) (end : ℕ) (index : Index) → (new.tells → old.tells) → ((l : Ledger) × IsIndexOf l index) → (old.tells → IsFound old new end index) → Known new end index
found_known old new end index told any found = record {
  is = any;
  says = λ told'. let there = found (told told') in (there.ledger, there.is, there.says);
}

-- where the journal reads as no vault's there is no state
pub fault_opened : (c : DiskImage) (fault : JournalFault) → IsFaultIn (journal_reads c) fault → IsFaultOf (opened c) fault
fault_opened c journal.NoMemory is = tt
fault_opened c journal.DiskFault is = tt
fault_opened c (journal.NotAVault offset) is = ap (λ (r : Result Ledger ℕ). state_by c r) is

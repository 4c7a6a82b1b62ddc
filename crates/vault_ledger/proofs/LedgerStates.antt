-- What a ledger in order stands for, after a change of the site and after a backup.
use Rattle.desk_model.proofs.Common.{◌≡◌, ◌∙◌, ℕ, zero, suc, Bool, true, false, List, [], ◌∷◌, ◌++◌, refl, sym, ap, subst, arith, map, Option, Some, None, is_none, ◌&&◌, if◌then◌else◌, Contains, bytes_eq, option_map, and_parts, CopyRecord, Request, Answer, has, unit_name, pieces, State, first_refusal, setting_refusals, set_by, is_setting, sealed, option_and_then}
use Rattle.std.specs.Result.{result_ok}
use Rattle.site_types.specs.Lines.{line_of, read_line}
use Rattle.vault_disk.specs.Disk.{Image as DiskImage}
use Rattle.pool_journal.specs.declared.entry.WholeImage.{WholeImage}
use Rattle.pool_journal.specs.declared.segments.NewSegment.{NewSegment}
use Rattle.pool_journal.specs.declared.segments.Segments.{Segments}
use Rattle.copy_fragments.specs.Placings.{lacking}
use Rattle.vault_ledger.specs.Fitting.{is_settled, settled, settled_as, settled_by, whole_entry, whole_unit}
use Rattle.vault_ledger.specs.Ledger.{Ledger, are_distinct, are_true, are_whole, backup_fits, image_over, live_on, piece_in, pieces_on, pool_file, segment_of, set_over, spelled, state_over, with_backup, with_outline}
use Rattle.vault_ledger.specs.Pools.{slots_in, unrecorded}
use Rattle.vault_ledger.specs.Wellformed.{IsLedger}
use Rattle.vault_ledger.proofs.KeptBackups.{backup_kept, here, segments_so, unit_there}
use Rattle.vault_ledger.proofs.KeptSettings.{line_kept, refusals_same}
use Rattle.vault_ledger.proofs.SettledLines.{none_there}
use Rattle.vault_ledger.proofs.LedgerUnits.{some_segment, unit_of_set}
use Rattle.vault_ledger.proofs.SealedStates.{live_grown, sealed_state}
use Rattle.vault_ledger.proofs.SettledStates.{AreThere, settled_over}
use Rattle.vault_ledger.proofs.SlotPieces.{added_lacking}
use Rattle.vault_ledger.proofs.SoundLedgers.{entries_over, true_unit}

-- what it names is there
pub all_there : (l : Ledger) → IsLedger l → AreThere l
all_there l kept = record {
  copies = λ image among copy has_copy.
      let placed = kept.images image among in
      subst (λ (k : CopyRecord). has unit_name k.unit l.outline.site.book.units ≡ true) (only placed.copy copy (subst (λ (copies : List CopyRecord). Contains copies copy) placed.only has_copy)) placed.unit;
  sets = unit_of_set l kept;
  slots = λ s among. (kept.live s among).unit;
}
  where
    only : (a b : CopyRecord) → Contains (a ∷ []) b → a ≡ b
    only a b (zero, lt, is) = is
    only a b (suc k, lt, is) = absurd (omega arith)

-- Changes of the site.

-- the same is refused
pub refused_over : (c : DiskImage) (l : Ledger) (r : Request) → setting_refusals r (state_over c l) ≡ setting_refusals r l.outline
refused_over c l r = refusals_same r l.outline (map (image_over c l) l.outline.images) (map (set_over c l) l.outline.stored) (entries_over c l l.outline.images)

-- and the same is done
pub set_over_both : (c : DiskImage) (l : Ledger) → IsLedger l → (r : Request) → first_refusal (setting_refusals r l.outline) ≡ None → set_by r (state_over c l) ≡ state_over c (with_outline l (set_by r l.outline))
set_over_both c l kept r none = settled_over c l (all_there l kept) r none

line_over : (c : DiskImage) (l : Ledger) → IsLedger l → (line : List ℕ) → settled_by (state_over c l) line ≡ option_map (λ t. state_over c (with_outline l t)) (settled_by l.outline line)
line_over c l kept line = at (result_ok (read_line line))
  where
    made : (r : Request) (b : Bool) → is_settled l.outline line r ≡ b → (if b then Some (set_by r (state_over c l)) else None) ≡ option_map (λ t. state_over c (with_outline l t)) (if b then Some (set_by r l.outline) else None)
    made r false is = refl
    made r true is = ap (λ (s : State). Some s) (set_over_both c l kept r (none_there (first_refusal (setting_refusals r l.outline)) (and_parts (is_setting r && bytes_eq (line_of r) line) (is_none (first_refusal (setting_refusals r l.outline))) is).1))

    at : (o : Option Request) → option_and_then (settled_as (state_over c l) line) o ≡ option_map (λ t. state_over c (with_outline l t)) (option_and_then (settled_as l.outline line) o)
    at None = refl
    at (Some r) =
        let alike : is_settled (state_over c l) line r ≡ is_settled l.outline line r = ap (λ (refusals : List (Bool × Answer)). is_setting r && bytes_eq (line_of r) line && is_none (first_refusal refusals)) (refused_over c l r) in
        (λ i. if alike i then Some (set_by r (state_over c l)) else None) ∙ made r (is_settled l.outline line r) refl

-- lines settle both alike
pub lines_over : (c : DiskImage) (lines : List (List ℕ)) (l : Ledger) → IsLedger l → settled (state_over c l) lines ≡ option_map (λ t. state_over c (with_outline l t)) (settled l.outline lines)
lines_over c [] l kept = refl
lines_over c (line ∷ lines) l kept =
    ap (λ (o : Option State). option_and_then (λ t. settled t lines) o) (line_over c l kept line)
    ∙ at (settled_by l.outline line) (λ t is. lines_over c lines (with_outline l t) (line_kept l kept line t is))
  where
    at : (o : Option State) → ((t : State) → o ≡ Some t → settled (state_over c (with_outline l t)) lines ≡ option_map (λ u. state_over c (with_outline l u)) (settled t lines))
        → option_and_then (λ t. settled t lines) (option_map (λ t. state_over c (with_outline l t)) o) ≡ option_map (λ u. state_over c (with_outline l u)) (option_and_then (λ t. settled t lines) o)
    at None later = refl
    at (Some t) later = later t refl

-- A backup.

module _ (c : DiskImage) (l : Ledger) (kept : IsLedger l) (w : WholeImage) (segments : Segments) (fits : backup_fits l w segments ≡ true) where
  abbrev unit : List ℕ
  unit = whole_unit l.outline w

  abbrev file : List ℕ
  file = c (pool_file unit l.outline)

  abbrev size : ℕ
  size = segment_of unit l.outline

  abbrev known : List NewSegment
  known = live_on unit l.live

  abbrev new : Ledger
  new = with_backup w segments l

  -- the pieces that it adds are those that the unit lacks; where the pools are true with them, the ledger stands for the state after the backup
  pub backup_over : are_true c new new.outline.stored ≡ true → slots_in segments.added ≡ unrecorded (slots_in known) segments.pieces → (bytes : List ℕ) → spelled file size w.length segments.pieces ≡ bytes
      → state_over c new ≡ sealed (record { entry = whole_entry l.outline.site.book w; bytes = bytes }) unit (state_over c l)
  backup_over all order bytes spells =
      let there = unit_there l kept w segments fits in
      let fit = segments_so l kept w segments fits in
      let pool = true_unit c new (backup_kept l kept w segments fits) all unit there in
      let live : live_on unit new.live ≡ known ++ segments.added = live_grown unit l.live segments.added in
      let whole : are_whole file size (known ++ segments.added) ≡ true = subst (λ (live : List NewSegment). are_whole file size live ≡ true) live pool.0 in
      let distinct : are_distinct (map (piece_in file size) (known ++ segments.added)) ≡ true = subst (λ (live : List NewSegment). are_distinct (map (piece_in file size) live) ≡ true) live pool.1 in
      let lacks : lacking (pieces_on c l unit) (pieces size bytes) ≡ map (piece_in file size) segments.added =
      ap (λ (b : List ℕ). lacking (pieces_on c l unit) (pieces size b)) (sym spells) ∙ added_lacking file size known segments.added w.length segments.pieces (some_segment l kept unit there) (kept.slots unit) fit.0 fit.1 whole distinct order in
      sealed_state c l w segments bytes lacks kept.sets (here l kept w segments fits).fresh spells

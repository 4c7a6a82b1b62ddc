-- A catalogue with one image more, or one less: its map's entries, and what is counted.
use Rattle.image_catalogue.proofs.Common.{◌≡◌, ◌≤◌, ◌+◌, ℕ, List, Bool, ◌++◌, length, take, drop, Some, None, sym, ◌∙◌, ap, subst, arith, values_of, lookup, remove_entry, recorded, Counts, UnitBytes, record_named, with_record, without_record, bytes_on, used, BackupId, ImageRecord}
use Rattle.std.specs.BTreeMap.{insert_entry}
use Rattle.std.proofs.Math.Seq.{take-append_seam}
use Rattle.image_catalogue.specs.Entries.{KeysAreIds}
use Rattle.image_catalogue.proofs.ImageLemmas.{used_with}
use Rattle.image_catalogue.proofs.EntryLemmas.{id_cmp, at_id, inserted, kept_with, removed, kept_without, used_without}

-- The entries.

pub added_as : (es after : List (BackupId × ImageRecord)) (value : List ImageRecord) (id : BackupId) (new : ImageRecord) → KeysAreIds es → values_of es ≡ value → record_named new.id value ≡ None → id ≡ new.id → after ≡ insert_entry id_cmp es id new → KeysAreIds after × (values_of after ≡ with_record new value)
added_as es after value id new kept viewed none same made =
    let absent : record_named new.id (values_of es) ≡ None = ap (record_named new.id) viewed ∙ none in
    let entries : after ≡ insert_entry id_cmp es new.id new = made ∙ ap (λ (key : BackupId). insert_entry id_cmp es key new) same in
    (subst KeysAreIds (sym entries) (kept_with es new kept absent), ap values_of entries ∙ inserted es new kept absent ∙ ap (with_record new) viewed)

pub removed_as : (es after : List (BackupId × ImageRecord)) (value : List ImageRecord) (id : BackupId) → KeysAreIds es → values_of es ≡ value → lookup (at_id id) after ≡ None → after ≡ remove_entry (at_id id) es → KeysAreIds after × (values_of after ≡ without_record id value)
removed_as es after value id kept viewed none made =
    let absent : lookup (at_id id) (remove_entry (at_id id) es) ≡ None = ap (lookup (at_id id)) (sym made) ∙ none in
    (subst KeysAreIds (sym made) (kept_without es (at_id id) kept), ap values_of made ∙ removed es id kept absent ∙ ap (without_record id) viewed)

-- What is counted.

pub counts_added : (entries seen counted : List UnitBytes) (xs after : List ImageRecord) (new : ImageRecord) → after ≡ with_record new xs → Counts entries xs → seen ≡ entries → ((unit : List ℕ) → recorded unit counted ≡ bytes_on unit new.length new.copies + recorded unit seen) → Counts counted after
counts_added entries seen counted xs after new added counts listed raised unit =
    omega (arith, raised unit, ap (recorded unit) listed, counts unit, ap (used unit) added, used_with unit xs new)

pub counted_as : (entries seen : List UnitBytes) (es : List (BackupId × ImageRecord)) (test : BackupId → Bool) (old : ImageRecord) → seen ≡ entries → Counts entries (values_of es) → lookup test es ≡ Some old → (unit : List ℕ) → bytes_on unit old.length old.copies ≤ recorded unit seen
counted_as entries seen es test old listed counts found unit =
    omega (arith, ap (recorded unit) listed, counts unit, used_without unit es test old found)

-- what is written into all of a list's memory is the list
written_back : (n : ℕ) (old new : List UnitBytes) → n ≡ length old → length new ≡ length old → take n (new ++ drop (length new) old) ≡ new
written_back n old new long same =
    ap (λ (k : ℕ). take k (new ++ drop (length new) old)) (long ∙ sym same) ∙ take-append_seam new (drop (length new) old)

pub counts_left : (entries seen fewer : List UnitBytes) (n : ℕ) (es after : List (BackupId × ImageRecord)) (test : BackupId → Bool) (old : ImageRecord) → seen ≡ entries → Counts entries (values_of es) → lookup test es ≡ Some old → after ≡ remove_entry test es → ((unit : List ℕ) → bytes_on unit old.length old.copies + recorded unit fewer ≡ recorded unit seen) → n ≡ length entries → length fewer ≡ length seen → Counts (take n (fewer ++ drop (length fewer) entries)) (values_of after)
counts_left entries seen fewer n es after test old listed counts found made lowered long same unit =
    ap (recorded unit) (written_back n entries fewer long (same ∙ ap length listed))
    ∙ omega (arith, lowered unit, ap (recorded unit) listed, counts unit, used_without unit es test old found, ap (λ (rest : List (BackupId × ImageRecord)). used unit (values_of rest)) made)

-- A record of settings leaves the pools true, and the pieces of live slots as they were.
use Rattle.desk_model.proofs.Common.{◌≡◌, ◌∙◌, ◌+◌, ℕ, Bool, true, false, List, [], ◌∷◌, map, refl, sym, ap, subst, Option, Some, ◌&&◌, option_map, has, unit_name, Request, State}
use Rattle.site_types.specs.declared.answer.Answer.TheVariants.{Done, DiskFault}
use Rattle.site_types.proofs.OptionLemmas.{chained}
use Rattle.vault_disk.specs.Disk.{Disk, Image as DiskImage}
use Rattle.pool_journal.specs.Entries.{IsStaged}
use Rattle.pool_journal.specs.Records.{Found}
use Rattle.pool_journal.specs.Stops.{Appended, AtRest, Stops}
use Rattle.pool_journal.specs.declared.entry.Entry.{Entry}
use Rattle.pool_journal.specs.declared.entry.Entry.TheVariants as entry
use Rattle.pool_journal.specs.declared.segments.NewSegment.{NewSegment}
use Rattle.vault_ledger.specs.Fitting.{settled, settled_by}
use Rattle.vault_ledger.specs.Keeping.{KeepsLive, KeptLedger}
use Rattle.vault_ledger.specs.Ledger.{Ledger, are_distinct, are_true, are_whole, is_true_unit, live_on, piece_in, pieces_on, pool_file, recorded, segment_of, with_outline}
use Rattle.vault_ledger.specs.Wellformed.{IsLedger}
use Rattle.vault_ledger.proofs.KeptSettings.{lines_kept}
use Rattle.vault_ledger.proofs.LedgerUnits.{none_live}
use Rattle.vault_ledger.proofs.SettledLines.{line_done}
use Rattle.vault_ledger.proofs.TrueUnits.{true_pools, true_unit}
use Rattle.vault_ledger.proofs.UnitPlaces.{PlacesStay, places_stay}
use Rattle.desk_index.specs.Changes.{IsReady}
use Rattle.desk_index.specs.declared.index.Index.{Index}
use Rattle.desk_steps.specs.Steps.{StepsOver}
use Rattle.desk_steps.proofs.StepCases.{recorded_over, unrecorded_over}

-- no lines move a pool
pub lines_stay : (lines : List (List ℕ)) (s t : State) → settled s lines ≡ Some t → PlacesStay s.site.book t.site.book
lines_stay [] s t is = let same : s ≡ t = cc is in subst (λ (u : State). PlacesStay s.site.book u.site.book) same (λ name there. (there, refl))
lines_stay (line ∷ lines) s t is =
    let first = chained (λ u. settled u lines) (settled_by s line) t is in
    let done = line_done s line first.0 first.1 in
    let here : PlacesStay s.site.book first.0.site.book = subst (λ (u : State). PlacesStay s.site.book u.site.book) done.3 (places_stay done.0 s done.2) in
    let rest = lines_stay lines first.0 t first.2 in
    λ name there.
    let one = here name there in
    let two = rest name one.0 in
    (two.0, two.1 ∙ one.1)

module _ (l : Ledger) (order : IsLedger l) (lines : List (List ℕ)) (t : State) (settles : settled l.outline lines ≡ Some t) where
  abbrev m : Ledger
  m = with_outline l t

  stay : PlacesStay l.outline.site.book t.site.book
  stay = lines_stay lines l.outline t settles

  -- a unit's live slots have the bytes that they had
  pub pieces_stay : (c : DiskImage) (unit : List ℕ) → pieces_on c m unit ≡ pieces_on c l unit
  pieces_stay c unit = at (has unit_name unit l.outline.site.book.units) refl
    where
      at : (b : Bool) → has unit_name unit l.outline.site.book.units ≡ b → pieces_on c m unit ≡ pieces_on c l unit
      at true there = ap (λ (p : ℕ × ℕ × ℕ). map (piece_in (c (2 + p.0)) p.1) (live_on unit l.live)) (stay unit there).1
      at false absent =
          let none = none_live l order unit absent in
          ap (λ (known : List NewSegment). map (piece_in (c (pool_file unit t)) (segment_of unit t)) known) none
          ∙ sym (ap (λ (known : List NewSegment). map (piece_in (c (pool_file unit l.outline)) (segment_of unit l.outline)) known) none)

  unit_true : (c : DiskImage) → are_true c l l.outline.stored ≡ true → (unit : List ℕ) → is_true_unit c m unit ≡ true
  unit_true c all unit = at (has unit_name unit l.outline.site.book.units) refl
    where
      at : (b : Bool) → has unit_name unit l.outline.site.book.units ≡ b → is_true_unit c m unit ≡ true
      at true there =
          ap (λ (p : ℕ × ℕ × ℕ). are_whole (c (2 + p.0)) p.1 (live_on unit l.live) && are_distinct (map (piece_in (c (2 + p.0)) p.1) (live_on unit l.live))) (stay unit there).1
          ∙ true_unit c l order all unit there
      at false absent =
          ap (λ (known : List NewSegment). are_whole (c (pool_file unit t)) (segment_of unit t) known && are_distinct (map (piece_in (c (pool_file unit t)) (segment_of unit t)) known)) (none_live l order unit absent)

  -- the pools are true as they were
  pub settled_true : (c : DiskImage) → are_true c l l.outline.stored ≡ true → are_true c m t.stored ≡ true
  settled_true c all = true_pools c m (lines_kept lines l t order settles) (λ unit there. unit_true c all unit)

  -- and a stop takes nothing of them away
  pub settled_keeps : (disk : Disk) → KeepsLive disk l → KeepsLive disk m
  settled_keeps disk keeps = record { each = λ c left unit. pieces_stay c unit ∙ keeps.each c left unit ∙ sym (pieces_stay disk.seen unit) }

-- A record of settings that was made ready is written.

module _ (l : Ledger) (order : IsLedger l) (request : Request) (payload : List ℕ) (moment : ℕ) (staged body : List ℕ) (index : Index) (ready : IsReady l request payload moment staged body index) (old new : Disk) (end : ℕ)
    (stops : (e : Entry) → IsStaged e staged → (fs : List Found) → old.tells → AtRest old end fs → Stops fs end e old new) where
  abbrev after : Ledger
  after = with_outline l ready.outline

  abbrev row : Entry
  row = entry.Settings ready.lines

  fits : recorded l row ≡ Some after
  fits = ap (λ (o : Option State). option_map (with_outline l) o) ready.settled_is

  next : KeptLedger old end l → (are_true old.seen after after.outline.stored ≡ true) × KeepsLive old after
  next kept = (settled_true l order ready.lines ready.outline ready.settled_is old.seen kept.is_true, settled_keeps l order ready.lines ready.outline ready.settled_is old kept.keeps)

  pub ready_written : (end' : ℕ) → ((e : Entry) → IsStaged e staged → (fs : List Found) → old.tells → AtRest old end fs → Appended fs end e old new end') → StepsOver l request payload moment (Done body) old new end end' index
  ready_written end' appended =
      recorded_over l after row request payload moment body old new end fits ready.steps next (λ told fs rest. stops row ready.staged_is fs told rest) end' index ready.index_is (λ told fs rest. appended row ready.staged_is fs told rest)

  pub ready_failed : (end' : ℕ) (index' : Index) → StepsOver l request payload moment DiskFault old new end end' index'
  ready_failed end' index' = unrecorded_over l after row request payload moment body old new end fits ready.steps next (λ told fs rest. stops row ready.staged_is fs told rest) end' index'

-- Replaying records one by one.
use Rattle.std.proofs.Common.{◌≡◌, ◌<◌, ◌≤◌, ◌+◌, ℕ, zero, suc, List, [], ◌∷◌, length, drop, get_or, Bool, true, false, Some, None, refl, sym, ◌∙◌, ap, subst, arith}
use Rattle.std.specs.Prelude.{Option, Result, Ok, Err, IfOk, option_map}
use Rattle.std.proofs.lemmas.List.{drop_all, length-map}
use Rattle.pool_journal.specs.declared.entry.Entry.{Entry}
use Rattle.pool_journal.specs.declared.entry.Entry.TheVariants as entry
use Rattle.pool_journal.specs.declared.records.Placed.{Placed}
use Rattle.pool_journal.specs.Records.{Found, placed, placed_of}
use Rattle.desk_model.specs.State.{State}
use Rattle.vault_ledger.specs.Fitting.{settled}
use Rattle.vault_ledger.specs.Ledger.{Ledger, all_recorded, new_ledger, recorded, recorded_from, with_outline}
use Rattle.desk_index.specs.Index.{IsIndexOf}
use Rattle.desk_index.specs.Replays.{IsReached, IsReplayed, IsSettled}
use Rattle.desk_index.specs.declared.index.Index.{Index}

-- Settings.

settled_reached : (l : Ledger) (next : Option State) (index : Index) (done : Bool) → IsSettled l next index done → IsReached (option_map (with_outline l) next) index done
settled_reached l next index true settled = (with_outline l settled.0, ap (option_map (with_outline l)) settled.1, settled.2)
settled_reached l next index false none = ap (option_map (with_outline l)) none

-- the lines of a record were settled, or can't be
pub lines_replayed : {E : Type 0} (l : Ledger) (e : Entry) (lines read : List (List ℕ)) (index : Index) (result : Result Bool E) → e ≡ entry.Settings lines → read ≡ lines → IfOk result (IsSettled l (settled l.outline read) index) → IfOk result (IsReached (recorded l e) index)
lines_replayed l e lines read index (Ok done) is read_is so =
    subst (λ (f : Entry). IsReached (recorded l f) index done) (sym is) (subst (λ (ls : List (List ℕ)). IsReached (option_map (with_outline l) (settled l.outline ls)) index done) read_is (settled_reached l (settled l.outline read) index done so))
lines_replayed l e lines read index (Err fault) is read_is so = tt

-- Records.

-- the record at a position
record_at : (fs : List Found) (i : ℕ) (p : Placed) → i < length (placed fs) → p ≡ get_or (placed fs) i p → (f : Found) × (drop i fs ≡ f ∷ drop (i + 1) fs) × (placed_of f ≡ p)
record_at [] i p lt is = absurd (omega arith)
record_at (f ∷ fs) zero p lt is = (f, ap (λ (l : List Found). f ∷ l) (sym (drop-one f fs)), sym is)
  where
    drop-one : (g : Found) (gs : List Found) → drop 1 (g ∷ gs) ≡ gs
    drop-one g gs = refl
record_at (f ∷ fs) (suc i) p lt is =
    let inner = record_at fs i p (omega arith) is in
    (inner.0, inner.1 ∙ ap (λ (k : ℕ). inner.0 ∷ drop k (f ∷ fs)) (let k_is : suc (i + 1) ≡ suc i + 1 = omega arith in k_is), inner.2)

recorded_any : (a b : ℕ) (l : Ledger) (fs : List Found) → recorded_from a (Some l) fs ≡ recorded_from b (Some l) fs
recorded_any a b l [] = refl
recorded_any a b l (f ∷ fs) = refl

-- this is the index of the ledger that the records up to a position make
pub record SoFar (fs : List Found) (index : Index) (i : ℕ) : Type 0 where
  pub ledger : Ledger
  pub so_far : all_recorded fs ≡ recorded_from 0 (Some ledger) (drop i fs)
  pub is_of : IsIndexOf ledger index

-- before the first record
pub nothing_yet : (fs : List Found) (index : Index) → IsIndexOf new_ledger index → SoFar fs index 0
nothing_yet fs index is_of = record { ledger = new_ledger; so_far = refl; is_of = is_of }

module _ (fs : List Found) (index index' : Index) (i : ℕ) (p : Placed) (done : Bool) (far : SoFar fs index i) (lt : i < length (placed fs)) (is : p ≡ get_or (placed fs) i p) (reached : IsReached (recorded far.ledger p.entry) index' done) where
  abbrev here : (f : Found) × (drop i fs ≡ f ∷ drop (i + 1) fs) × (placed_of f ≡ p)
  here = record_at fs i p lt is

  at_record : all_recorded fs ≡ recorded_from p.at (recorded far.ledger p.entry) (drop (i + 1) fs)
  at_record = far.so_far ∙ ap (λ (gs : List Found). recorded_from 0 (Some far.ledger) gs) here.1 ∙ ap (λ (q : Placed). recorded_from q.at (recorded far.ledger q.entry) (drop (i + 1) fs)) here.2

  -- the next record doesn't fit
  pub unfit_at : done ≡ false → all_recorded fs ≡ Err p.at
  unfit_at failed = at_record ∙ ap (λ (o : Option Ledger). recorded_from p.at o (drop (i + 1) fs)) (subst (IsReached (recorded far.ledger p.entry) index') failed reached)

  -- it does
  pub fit_at : done ≡ true → SoFar fs index' (i + 1)
  fit_at good =
      let next : IsReached (recorded far.ledger p.entry) index' true = subst (IsReached (recorded far.ledger p.entry) index') good reached in
      record {
        ledger = next.0;
        so_far = at_record ∙ ap (λ (o : Option Ledger). recorded_from p.at o (drop (i + 1) fs)) next.1 ∙ recorded_any p.at 0 next.0 (drop (i + 1) fs);
        is_of = next.2;
      }

-- there is a ledger for the next index
pub still_known : (next : Option Ledger) (index : Index) (done : Bool) → done ≡ true → IsReached next index done → (l : Ledger) × IsIndexOf l index
still_known next index done good reached =
    let so : IsReached next index true = subst (IsReached next index) good reached in
    (so.0, so.2)

-- all records were replayed
pub all_replayed : (fs : List Found) (index : Index) (i : ℕ) → length (placed fs) ≤ i → SoFar fs index i → IsReplayed fs index None
all_replayed fs index i past far = (far.ledger, far.so_far ∙ ap (λ (gs : List Found). recorded_from 0 (Some far.ledger) gs) (drop_all i fs (omega (arith, length-map fs placed_of))), far.is_of)

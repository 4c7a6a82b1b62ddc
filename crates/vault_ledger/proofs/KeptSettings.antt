-- Settings that are done leave what a ledger says in order.
use Rattle.desk_model.proofs.Common.{◌≡◌, ◌≢◌, ◌≤◌, ◌∙◌, ℕ, zero, suc, Bool, true, false, List, [], ◌∷◌, ◌++◌, refl, sym, ap, subst, arith, map, Option, Some, None, Contains, option_map_or, false≢true, Request, has, unit_name, State, Image, Stored, entries, Answer, first_refusal, setting_refusals, set_by, first_of_client, first_under}
use Rattle.std.proofs.lemmas.List.{map-append}
use Rattle.std.proofs.Common.{⊎_elim}
use Rattle.std.proofs.lemmas.List.Elements.{Contains-push_cases}
use Rattle.std.specs.Prelude.{find}
use Rattle.site_types.specs.declared.image.ImageRecord.{ImageRecord}
use Rattle.site_types.specs.declared.request.Request.TheVariants as request
use Rattle.site_types.proofs.OptionLemmas.{chained}
use Rattle.policy_book.specs.Requests.{refusals_of}
use Rattle.desk_model.specs.Settings.{Removal, gone_client, gone_policy, removal_of, uses_of, used_by, is_of_client, is_under, refusal_answer, stored_after}
use Rattle.desk_model.proofs.Asking.{Asks}
use Rattle.desk_model.proofs.Passing.{all_passed}
use Rattle.desk_model.proofs.SoundSteps.{set_sound}
use Rattle.vault_ledger.specs.Fitting.{settled_by, settled}
use Rattle.vault_ledger.proofs.SettledLines.{line_done}
use Rattle.vault_ledger.proofs.UnitPlaces.{places_stay}
use Rattle.vault_ledger.specs.Ledger.{Ledger, live_on, pieces_fit, slots_of, with_outline}
use Rattle.vault_ledger.specs.Wellformed.{AreApart, IsLedger, set_units}
use Rattle.vault_ledger.proofs.LedgerUnits.{unit_of_set}

-- What refuses a request is seen of the site and of what the catalogue has.

uses_same : (removal : Removal) (s : State) (images : List Image) (stored : List Stored) → entries images ≡ entries s.images → uses_of removal (record s { images = images; stored = stored }) ≡ uses_of removal s
uses_same (gone_client name) s images stored listed = ap (λ (l : List ImageRecord). used_by name (first_of_client name l) (find (is_of_client name) s.jobs)) listed
uses_same (gone_policy name) s images stored listed = ap (λ (l : List ImageRecord). used_by name (first_under name l) (find (is_under name) s.jobs)) listed

pub refusals_same : (r : Request) (s : State) (images : List Image) (stored : List Stored) → entries images ≡ entries s.images → setting_refusals r (record s { images = images; stored = stored }) ≡ setting_refusals r s
refusals_same r s images stored listed = ap (λ (l : List (Bool × Answer)). map (λ x. (x.0, refusal_answer x.1)) (refusals_of r s.site.book) ++ l) (at (removal_of r))
  where
    at : (o : Option Removal) → option_map_or (λ removal. uses_of removal (record s { images = images; stored = stored })) o [] ≡ option_map_or (λ removal. uses_of removal s) o []
    at None = refl
    at (Some removal) = uses_same removal s images stored listed

-- A set more is of the same unit.
set_units_after : (r : Request) (sets sets' : List Stored) → set_units sets ≡ set_units sets' → set_units (stored_after r sets) ≡ set_units (stored_after r sets')
set_units_after (request.UnitAdd name capacity segment fragment slots high low) sets sets' same =
    let new : Stored = record { unit = name; pieces = [] } in
    map-append (λ (set : Stored). set.unit) sets (new ∷ []) ∙ ap (λ (l : List (List ℕ)). l ++ name ∷ []) same ∙ sym (map-append (λ (set : Stored). set.unit) sets' (new ∷ []))
set_units_after r sets sets' same = same

-- a set that is added is empty
no_pieces_after : (r : Request) (sets : List Stored) → ((set : Stored) → Contains sets set → set.pieces ≡ []) → (set : Stored) → Contains (stored_after r sets) set → set.pieces ≡ []
no_pieces_after (request.UnitAdd name capacity segment fragment slots high low) sets none set among =
    ⊎_elim (λ before. none set before) (λ is. ap (λ (s : Stored). s.pieces) (sym is)) (Contains-push_cases sets (record { unit = name; pieces = [] }) set among)
no_pieces_after r sets none set among = none set among

-- and of a unit that had none
apart_push : (sets : List Stored) (new : Stored) → AreApart sets → ((set : Stored) → Contains sets set → set.unit ≢ new.unit) → AreApart (sets ++ new ∷ [])
apart_push [] new apart others = (λ other (k, lt, is). absurd (omega arith), tt)
apart_push (set ∷ sets) new apart others = (
  λ other among. ⊎_elim (apart.0 other) (λ is same. others set (zero, omega arith, refl) (sym same ∙ ap (λ (s : Stored). s.unit) (sym is))) (Contains-push_cases sets new other among),
  apart_push sets new apart.1 (λ other among. others other (suc among.0, omega (arith, among.1), among.2)),
)

apart_after : (r : Request) (s : State) → ((set : Stored) → Contains s.stored set → has unit_name set.unit s.site.book.units ≡ true) → first_refusal (setting_refusals r s) ≡ None → AreApart s.stored → AreApart (stored_after r s.stored)
apart_after (request.UnitAdd name capacity segment fragment slots high low) s there none apart =
    let fresh : has unit_name name s.site.book.units ≡ false = (all_passed (setting_refusals (request.UnitAdd name capacity segment fragment slots high low) s) none).1.0 in
    apart_push s.stored (record { unit = name; pieces = [] }) apart (λ set among same. false≢true (sym fresh ∙ ap (λ (n : List ℕ). has unit_name n s.site.book.units) (sym same) ∙ there set among))
apart_after r s there none apart = apart

module _ (l : Ledger) (kept : IsLedger l) where
  abbrev old : State
  old = l.outline

  pub set_kept : (r : Request) → Asks r → first_refusal (setting_refusals r old) ≡ None → IsLedger (with_outline l (set_by r old))
  set_kept r asks none =
      let shape = kept.shape in
      let stay = places_stay r old none in
      record {
        shape = record {
          images = shape.images;
          stored = stored_after r shape.stored;
          listed = shape.listed;
          units = set_units_after r shape.stored old.stored shape.units;
          sound = set_sound r (record old { images = shape.images; stored = shape.stored }) shape.sound asks (ap first_refusal (refusals_same r old shape.images shape.stored shape.listed) ∙ none);
        };
        no_bytes = kept.no_bytes;
        no_pieces = no_pieces_after r old.stored kept.no_pieces;
        sets = apart_after r old (unit_of_set l kept) none kept.sets;
        live = λ s among.
            let here = kept.live s among in
            let there = stay s.unit here.unit in
            record { unit = there.0; slot = here.slot; some = here.some; size = subst (λ (size : ℕ). s.segment.length ≤ size) (sym (ap (λ (p : ℕ × ℕ × ℕ). p.1) there.1)) here.size };
        slots = kept.slots;
        images = λ image among.
            let here = kept.images image among in
            let there = stay here.copy.unit here.unit in
            record { copy = here.copy; only = here.only; unit = there.0; pieces = ap (λ (size : ℕ). pieces_fit size (live_on here.copy.unit l.live) image.entry.length (slots_of image.entry.id here.copy.number l.placements)) (ap (λ (p : ℕ × ℕ × ℕ). p.1) there.1) ∙ here.pieces };
      }

-- Lines.

pub line_kept : (l : Ledger) → IsLedger l → (line : List ℕ) (t : State) → settled_by l.outline line ≡ Some t → IsLedger (with_outline l t)
line_kept l kept line t is =
    let done = line_done l.outline line t is in
    subst (λ (u : State). IsLedger (with_outline l u)) done.3 (set_kept l kept done.0 done.1 done.2)

pub lines_kept : (lines : List (List ℕ)) (l : Ledger) (t : State) → IsLedger l → settled l.outline lines ≡ Some t → IsLedger (with_outline l t)
lines_kept [] l t kept is = let same : l.outline ≡ t = cc is in subst (λ (u : State). IsLedger (with_outline l u)) same kept
lines_kept (line ∷ lines) l t kept is =
    let first = chained (λ u. settled u lines) (settled_by l.outline line) t is in
    lines_kept lines (with_outline l first.0) t (line_kept l kept line first.0 first.1) first.2

-- Lines of settings, one after the other.
use Rattle.std.proofs.Common.{◌≡◌, ◌<◌, ◌≤◌, ◌+◌, ℕ, List, ◌∷◌, length, drop, get_or, Bool, true, false, Some, None, refl, sym, ◌∙◌, ap, subst}
use Rattle.std.specs.Prelude.{Option, if◌then◌else◌, ◌&&◌, not, is_some, is_none, option_and_then}
use Rattle.std.specs.Result.{result_ok}
use Rattle.std.specs.Str.{bytes_eq}
use Rattle.std.proofs.lemmas.List.{at_drop_more, at_drop_all}
use Rattle.site_types.specs.Lines.{line_of, read_line}
use Rattle.site_types.specs.declared.answer.Answer.{Answer}
use Rattle.site_types.specs.declared.request.Request.{Request}
use Rattle.desk_model.specs.State.{State}
use Rattle.desk_model.specs.Refusals.{first_refusal}
use Rattle.desk_model.specs.Settings.{is_setting, setting_refusals, set_by}
use Rattle.vault_ledger.specs.Fitting.{settled, settled_as, settled_by}
use Rattle.vault_ledger.specs.Ledger.{Ledger, with_outline}
use Rattle.desk_index.specs.Index.{IsIndexOf, IsSet}
use Rattle.desk_index.specs.Replays.{IsSettled, setting_as, setting_of}
use Rattle.desk_index.specs.declared.index.Index.{Index}

-- the outline after a request of settings, where nothing refuses it
abbrev unless_refused : State → Request → Option Answer → Option State
unless_refused s request refusal = if is_none refusal then Some (set_by request s) else None

abbrev settled_with : State → Option Request → Option State
settled_with s None = None
settled_with s (Some request) = unless_refused s request (first_refusal (setting_refusals request s))

settled_by-with : (s : State) (line : List ℕ) → settled_by s line ≡ settled_with s (setting_of line)
settled_by-with s line = read (result_ok (read_line line))
  where
    at : (request : Request) (a b : Bool) → (if a && b && is_none (first_refusal (setting_refusals request s)) then Some (set_by request s) else None) ≡ settled_with s (if a && b then Some request else None)
    at request true true = refl
    at request true false = refl
    at request false b = refl

    read : (o : Option Request) → option_and_then (settled_as s line) o ≡ settled_with s (option_and_then (setting_as line) o)
    read None = refl
    read (Some request) = at request (is_setting request) (bytes_eq (line_of request) line)

-- a line that is no request of settings
pub no_setting : (s : State) (line : List ℕ) → setting_of line ≡ None → settled_by s line ≡ None
no_setting s line none = settled_by-with s line ∙ ap (settled_with s) none

-- the request of a line was carried out, or refused
pub line_settled : (l : Ledger) (line : List ℕ) (request : Request) (refusal : Option Answer) (done : Bool) (old new : Index) → setting_of line ≡ Some request → is_some refusal ≡ not done → IsSet l request old new refusal → IsSettled l (settled_by l.outline line) new done
line_settled l line request refusal done old new is done_is set = at refusal done done_is set
  where
    with_first : (first : Option Answer) → first_refusal (setting_refusals request l.outline) ≡ first → settled_by l.outline line ≡ unless_refused l.outline request first
    with_first first first_is = settled_by-with l.outline line ∙ ap (settled_with l.outline) is ∙ ap (unless_refused l.outline request) first_is

    at : (o : Option Answer) (b : Bool) → is_some o ≡ not b → IsSet l request old new o → IsSettled l (settled_by l.outline line) new b
    at None true none set = (set_by request l.outline, with_first None set.0, set.1)
    at None false none set = absurd (cc none)
    at (Some answer) true some set = absurd (cc some)
    at (Some answer) false some set = with_first (Some answer) set.0

-- the lines so far were settled, and this is the index of the ledger with the outline that they make
pub record SettledSoFar (l : Ledger) (all : Option State) (rest : List (List ℕ)) (index : Index) : Type 0 where
  pub outline : State
  pub so_far : all ≡ settled outline rest
  pub reached : IsIndexOf (with_outline l outline) index

-- before the first
pub none_settled : (l : Ledger) (lines : List (List ℕ)) (index : Index) → IsIndexOf l index → SettledSoFar l (settled l.outline lines) lines index
none_settled l lines index is = record { outline = l.outline; so_far = refl; reached = is }

module _ (l : Ledger) (all : Option State) (lines : List (List ℕ)) (i : ℕ) where
  with_line : (item line : List ℕ) (index : Index) (far : SettledSoFar l all (drop i lines) index) → i < length lines → item ≡ get_or lines i item → line ≡ item → all ≡ option_and_then (λ t. settled t (drop (i + 1) lines)) (settled_by far.outline line)
  with_line item line index far lt is same = far.so_far ∙ at_drop_more (settled far.outline) lines i item lt ∙ ap (λ (l : List ℕ). settled far.outline (l ∷ drop (i + 1) lines)) (sym is ∙ sym same)

  pub next_settled : (item line : List ℕ) (index index' : Index) (done : Bool) (far : SettledSoFar l all (drop i lines) index) → i < length lines → item ≡ get_or lines i item → line ≡ item → done ≡ true → IsSettled (with_outline l far.outline) (settled_by far.outline line) index' done → SettledSoFar l all (drop (i + 1) lines) index'
  next_settled item line index index' done far lt is same good settles =
      let next : IsSettled (with_outline l far.outline) (settled_by far.outline line) index' true = subst (IsSettled (with_outline l far.outline) (settled_by far.outline line) index') good settles in
      record {
        outline = next.0;
        so_far = with_line item line index far lt is same ∙ ap (option_and_then (λ t. settled t (drop (i + 1) lines))) next.1;
        reached = next.2;
      }

  pub unsettled : (item line : List ℕ) (index index' : Index) (done : Bool) (far : SettledSoFar l all (drop i lines) index) → i < length lines → item ≡ get_or lines i item → line ≡ item → done ≡ false → IsSettled (with_outline l far.outline) (settled_by far.outline line) index' done → all ≡ None
  unsettled item line index index' done far lt is same failed settles =
      with_line item line index far lt is same ∙ ap (option_and_then (λ t. settled t (drop (i + 1) lines))) (subst (IsSettled (with_outline l far.outline) (settled_by far.outline line) index') failed settles)

  pub all_settled : (index : Index) → length lines ≤ i → SettledSoFar l all (drop i lines) index → IsSettled l all index true
  all_settled index past far = (far.outline, far.so_far ∙ at_drop_all (settled far.outline) lines i past, far.reached)

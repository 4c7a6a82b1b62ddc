-- A request that changes the site.
use Rattle.std.proofs.Common.{◌≡◌, ◌∙◌, ℕ, Bool, true, List, [], ◌∷◌, Option, Some, None, Result, refl, sym, ap}
use Rattle.std.specs.Prelude.{◌&&◌, if◌then◌else◌, is_none}
use Rattle.std.specs.Option.{option_and_then}
use Rattle.std.specs.Result.{result_ok}
use Rattle.std.specs.Str.{bytes_eq}
use Rattle.std.proofs.lemmas.Slice.Eq.{bytes_eq-Decides}
use Rattle.site_types.specs.Classes.{RequestClass}
use Rattle.site_types.specs.Lines.{IsFormed, line_of}
use Rattle.site_types.specs.declared.answer.Answer.{Answer}
use Rattle.site_types.specs.declared.answer.Answer.TheVariants.{Done}
use Rattle.site_types.specs.declared.request.Request.{Request}
use Rattle.vault_disk.specs.Disk.{Image as DiskImage}
use Rattle.pool_journal.specs.Entries.{IsStaged}
use Rattle.pool_journal.specs.declared.entry.Entry.TheVariants as entry
use Rattle.desk_model.specs.State.{State}
use Rattle.desk_model.specs.Refusals.{first_refusal, unless_refused, step_of}
use Rattle.desk_model.specs.Settings.{is_setting, setting_refusals, set_by, setting_step}
use Rattle.desk_model.specs.Step.{case_of, step}
use Rattle.vault_ledger.specs.Fitting.{settled, settled_by, settled_as}
use Rattle.vault_ledger.specs.Ledger.{Ledger, state_over, with_outline}
use Rattle.vault_ledger.specs.Wellformed.{IsLedger}
use Rattle.vault_ledger.proofs.LedgerStates.{refused_over, set_over_both}
use Rattle.desk_index.specs.Answers.{IsStepRefusal}
use Rattle.desk_index.specs.Changes.{IsReady, IsRefusedOver}
use Rattle.desk_index.specs.Index.{IsIndexOf}
use Rattle.desk_index.specs.declared.index.Index.{Index}
use Rattle.desk_index.proofs.Deciding.{class_change}
use Rattle.desk_index.proofs.Refusing.{first_plain, plain_settings, refused_as}

setting_steps : (s : State) (request : Request) (payload : List ℕ) (moment : ℕ) → is_setting request ≡ true → step s request payload moment ≡ setting_step request s
setting_steps s request payload moment is = ap (λ (c : RequestClass). step_of s (case_of s c payload moment)) (class_change request is)

pub setting_plain : (request : Request) (s : State) (a : Answer) → first_refusal (setting_refusals request s) ≡ Some a → IsStepRefusal a
setting_plain request s a is = first_plain (setting_refusals request s) a (plain_settings request s) is

-- The line of a request that nothing refuses makes the state after it.
pub settles : (s : State) (request : Request) → is_setting request ≡ true → IsFormed request → first_refusal (setting_refusals request s) ≡ None → settled_by s (line_of request) ≡ Some (set_by request s)
settles s request setting formed none =
    let same : bytes_eq (line_of request) (line_of request) ≡ true = (bytes_eq-Decides (line_of request) (line_of request)).1 refl in
    ap (λ (r : Result Request ℕ). option_and_then (settled_as s (line_of request)) (result_ok r)) formed
    ∙ (λ i. if setting i && same i && is_none (none i) then Some (set_by request s) else None)

-- A request over a ledger and any pools.
module _ (l : Ledger) (request : Request) (payload : List ℕ) (moment : ℕ) (setting : is_setting request ≡ true) where
  abbrev unless_so : DiskImage → Option Answer → Answer × State
  unless_so c o = unless_refused (state_over c l) o (Done [], set_by request (state_over c l))

  step_over : (c : DiskImage) (o : Option Answer) → first_refusal (setting_refusals request l.outline) ≡ o → step (state_over c l) request payload moment ≡ unless_so c o
  step_over c o is =
      setting_steps (state_over c l) request payload moment setting
      ∙ ap (λ (refusals : List (Bool × Answer)). unless_so c (first_refusal refusals)) (refused_over c l request)
      ∙ ap (unless_so c) is

  -- the model refuses it
  pub refused_here : (a : Answer) → first_refusal (setting_refusals request l.outline) ≡ Some a → IsRefusedOver l request payload moment a
  refused_here a is c = refused_as (state_over c l) request payload moment a (setting_plain request l.outline a is).1 (step_over c (Some a) is)

  -- or it is ready to be recorded
  pub ready_here : IsLedger l → IsFormed request → first_refusal (setting_refusals request l.outline) ≡ None → (staged body : List ℕ) (new : Index) → IsStaged (entry.Settings (line_of request ∷ [])) staged → body ≡ [] → IsIndexOf (with_outline l (set_by request l.outline)) new → IsReady l request payload moment staged body new
  ready_here order formed none staged body new staged_is body_is of = record {
    lines = line_of request ∷ [];
    staged_is = staged_is;
    outline = set_by request l.outline;
    settled_is = ap (option_and_then (λ t. settled t [])) (settles l.outline request setting formed none);
    index_is = of;
    steps = λ c. step_over c None none ∙ (λ i. (Done (sym body_is i), set_over_both c l order request none i));
  }

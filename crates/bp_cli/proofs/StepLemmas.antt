-- What a step answers.
use Rattle.std.proofs.Common.{◌≡◌, ℕ, List, refl}
use Rattle.std.specs.Prelude.{Option, Some, None}
use Rattle.site_types.specs.Answers.{NeedsMemory}
use Rattle.site_types.specs.Classes.{RequestClass, site_change, site_file, backup, restore, restore_at, class_of}
use Rattle.site_types.specs.declared.request.Request.{Request}
use Rattle.site_types.specs.declared.answer.Answer.{Answer}
use Rattle.desk_model.specs.State.{State}
use Rattle.desk_model.specs.Refusals.{first_refusal, unless_refused}
use Rattle.desk_model.specs.Step.{case_of, step}

-- where nothing refuses a request, the text of its answer stands ready
ready : (s : State) (class : RequestClass) (payload : List ℕ) (moment : ℕ) → NeedsMemory (case_of s class payload moment).answer → ⊥
ready s (site_change request) payload moment none = none
ready s site_file payload moment none = none
ready s (backup client policy schedule start) payload moment none = none
ready s (restore id copy) payload moment none = none
ready s (restore_at client policy before) payload moment none = none

unmoved : (s : State) (refusal shown : Option Answer) (done : Answer × State) → (NeedsMemory done.0 → ⊥) → NeedsMemory (unless_refused s refusal (unless_refused s shown done)).0 → (unless_refused s refusal (unless_refused s shown done)).1 ≡ s
unmoved s (Some a) shown done is_ready needs = refl
unmoved s None (Some a) done is_ready needs = refl
unmoved s None None done is_ready needs = absurd (is_ready needs)

-- where the text of the model's answer has to be made, the state is as before
pub unmoved_step : (s : State) (r : Request) (payload : List ℕ) (moment : ℕ) → NeedsMemory (step s r payload moment).0 → (step s r payload moment).1 ≡ s
unmoved_step s r payload moment needs =
    let c = case_of s (class_of r) payload moment in
    unmoved s (first_refusal c.refusals) (first_refusal c.shown) (c.answer, c.after) (ready s (class_of r) payload moment) needs

-- What each request answers, and what it makes of the state.
use Rattle.std.specs.Prelude.{ℕ, List, unwrap_or}
use Rattle.site_types.specs.Classes.{RequestClass, site_change, site_file, backup, restore, restore_at, class_of}
use Rattle.site_types.specs.declared.answer.Answer.{Answer}
use Rattle.site_types.specs.declared.request.Request.{Request}
use Rattle.desk_model.specs.State.{State, image_named}
use Rattle.desk_model.specs.Refusals.{Case, step_of}
use Rattle.desk_model.specs.Backups.{asked_of, backup_case}
use Rattle.desk_model.specs.Restores.{restore_at_case, restore_case}
use Rattle.desk_model.specs.Settings.{setting_case, file_case, file_requests}

-- the case of a request of this class that is given this payload at this moment
abbrev pub case_of : State → RequestClass → List ℕ → ℕ → Case
case_of s (site_change request) payload moment = setting_case request s
case_of s site_file payload moment = file_case (file_requests payload) s
case_of s (backup client policy schedule start) payload moment = backup_case (asked_of client policy schedule start) payload moment s
case_of s (restore id copy) payload moment = restore_case (image_named id s.images) id copy s
case_of s (restore_at client policy before) payload moment = restore_at_case client policy (unwrap_or before moment) s

-- what it answers, and the state after it
abbrev pub step : State → Request → List ℕ → ℕ → Answer × State
step s request payload moment = step_of s (case_of s (class_of request) payload moment)

-- What a request is answered and what it changes, up to what bytes decide.
use Rattle.std.specs.Prelude.{◌≡◌, ℕ, List, [], length, Option, Some, None, unwrap_or, Contains}
use Rattle.site_types.specs.Classes.{RequestClass, site_change, site_file, backup, restore, restore_at, class_of}
pub use Rattle.site_types.specs.declared.answer.Answer.{Answer}
pub use Rattle.site_types.specs.declared.answer.Answer.TheVariants.{Done}
pub use Rattle.site_types.specs.declared.image.ImageRecord.{ImageRecord}
pub use Rattle.site_types.specs.declared.request.Request.{Request}
use Rattle.policy_book.specs.Book.{adhoc, manual}
pub use Rattle.desk_model.specs.declared.site.Site.{Site}
use Rattle.desk_model.specs.State.{State, Image, entries}
use Rattle.desk_model.specs.Refusals.{first_refusal}
use Rattle.desk_model.specs.Backups.{Asked, asked_of, base_of, latest_version, new_time, policy_asked, reference_of, schedule_asked}
use Rattle.desk_model.specs.Step.{case_of}
pub use Rattle.desk_rules.specs.declared.decision.JobBody.{JobBody}
pub use Rattle.desk_rules.specs.declared.decision.JobBody.TheVariants.{Backup}
pub use Rattle.desk_rules.specs.declared.decision.Change.{Change}
pub use Rattle.desk_rules.specs.declared.decision.Change.TheVariants.{Nothing, Settings, Load, SealNow}
pub use Rattle.desk_rules.specs.declared.decision.Decision.{Decision}
use Rattle.desk_rules.specs.SiteChanges.{IsSiteChange}

-- the state has this site and these images, each with as many bytes as the catalogue says, and no open jobs
pub record IsStateOf (site : Site) (images : List ImageRecord) (s : State) : Type 0 where
  pub site_is : s.site ≡ site
  pub images_are : entries s.images ≡ images
  pub sized : (i : Image) → Contains s.images i → i.entry.length ≡ length i.bytes
  pub idle : s.jobs ≡ []

-- the body of an answer that is Done is left out
abbrev pub without_body : Answer → Answer
without_body (Done body) = Done []
without_body answer = answer

-- what a decision tells of an answer: the body that a site file or an image decides isn't looked at
abbrev pub told : RequestClass → Answer → Answer
told (site_change request) answer = answer
told site_file answer = without_body answer
told (backup client policy schedule start) answer = answer
told (restore id copy) answer = without_body answer
told (restore_at client policy before) answer = without_body answer

-- the image of so many bytes that a backup seals at once
abbrev pub backup_body : Asked → ℕ → ℕ → State → JobBody
backup_body asked size moment s =
    let policy = unwrap_or (policy_asked asked s) adhoc in
    let schedule = unwrap_or (schedule_asked asked s) manual in
    Backup (record { client = asked.client; time = new_time asked.client moment s }) policy.name schedule.name schedule.kind (base_of (reference_of asked.client policy schedule s)) policy.lifecycle (latest_version policy.lifecycle s.site.book) size

abbrev pub SetsSite : Site → Request → Change → Type 0
SetsSite site request Nothing = ⊥
SetsSite site request (Settings change) = IsSiteChange site request change
SetsSite site request Load = ⊥
SetsSite site request (SealNow body) = ⊥

-- what a request of this class changes where nothing refuses it
abbrev pub IsChange : State → RequestClass → List ℕ → ℕ → Change → Type 0
IsChange s (site_change request) payload moment change = SetsSite s.site request change
IsChange s site_file payload moment change = change ≡ Load
IsChange s (backup client policy schedule start) payload moment change = change ≡ SealNow (backup_body (asked_of client policy schedule start) (length payload) moment s)
IsChange s (restore id copy) payload moment change = change ≡ Nothing
IsChange s (restore_at client policy before) payload moment change = change ≡ Nothing

-- a refusal, which changes nothing, or where there is none this answer and such a change
abbrev pub DecidesAs : Option Answer → Answer → (Change → Type 0) → Decision → Type 0
DecidesAs (Some refusal) answer IsMade d = (d.answer ≡ refusal) × (d.change ≡ Nothing)
DecidesAs None answer IsMade d = (d.answer ≡ answer) × IsMade d.change

-- a decision on a request of this class that is given this payload at this moment
abbrev pub Decides : State → RequestClass → List ℕ → ℕ → Decision → Type 0
Decides s class payload moment d =
    let case = case_of s class payload moment in
    DecidesAs (first_refusal case.refusals) (told class case.answer) (IsChange s class payload moment) d

abbrev pub IsDecision : State → Request → List ℕ → ℕ → Decision → Type 0
IsDecision s request payload moment d = Decides s (class_of request) payload moment d

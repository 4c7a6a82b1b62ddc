-- What a step answers, and what it makes of the state.
use Rattle.std.specs.Prelude.{◌≡◌, ◌<◌, ℕ, Bool, true, false, List, codes, None}
use Rattle.site_types.specs.Classes.{RequestClass, site_change, site_file, backup, restore, restore_at, class_of}
use Rattle.site_types.specs.Limits.{payload_limit}
use Rattle.site_types.specs.declared.answer.Answer.{Answer}
use Rattle.site_types.specs.declared.answer.Answer.TheVariants.{Done, OutOfMemory, BadRequest, TooMany, BadStream, Damaged, DiskFault, ReadFault, SendFault, ClockFault, NotAVault}
use Rattle.site_types.specs.declared.request.Request.{Request}
use Rattle.site_types.specs.declared.request.Request.TheVariants.{Load}
use Rattle.desk_model.specs.State.{State}
use Rattle.desk_model.specs.Settings.{file_requests}
use Rattle.desk_model.specs.Step.{step}

-- a restore of a moment sees only once the disk was read whether what it reads is an image
abbrev pub looks_first : RequestClass → Bool
looks_first (site_change request) = false
looks_first site_file = false
looks_first (backup client policy schedule start) = false
looks_first (restore id copy) = false
looks_first (restore_at client policy before) = true

abbrev pub reads_first : Request → Bool
reads_first request = looks_first (class_of request)

-- a backup sees only by its pool whether there are slots for its pieces
abbrev pub places_first : RequestClass → Bool
places_first (site_change request) = false
places_first site_file = false
places_first (backup client policy schedule start) = true
places_first (restore id copy) = false
places_first (restore_at client policy before) = false

-- so the disk may fail where the model refuses that; and where it refuses nothing
abbrev pub MayFail : RequestClass → Answer → Type 0
MayFail class (Done body) = Unit {0}
MayFail class (BadStream offset) = looks_first class ≡ true
MayFail class (TooMany kind count limit) = (kind ≡ codes "segments") × (places_first class ≡ true)
MayFail class answer = ⊥

-- a step's answer is the model's, or want of memory, or a fault of the disk
abbrev pub Answered : State → Request → List ℕ → ℕ → Answer → Type 0
Answered s request payload moment OutOfMemory = Unit {0}
Answered s request payload moment DiskFault = MayFail (class_of request) (step s request payload moment).0
Answered s request payload moment answer = answer ≡ (step s request payload moment).0

-- the state moves as the model's; after want of memory it is as before, and a fault says nothing of it
abbrev pub Moved : State → Request → List ℕ → ℕ → Answer → State → Type 0
Moved s request payload moment OutOfMemory new = new ≡ s
Moved s request payload moment DiskFault new = Unit {0}
Moved s request payload moment answer new = new ≡ (step s request payload moment).1

-- the other state that a stop in the step may leave, beside the one before it
abbrev pub reached : State → Request → List ℕ → ℕ → Answer → State
reached s request payload moment OutOfMemory = s
reached s request payload moment answer = (step s request payload moment).1

-- what a request of the desk may be answered on any vault; too many bytes are more than an answer may have
abbrev pub IsOfStep : Answer → Type 0
IsOfStep (BadRequest index) = ⊥
IsOfStep (TooMany kind count limit) = kind ≡ codes "bytes" → (limit ≡ payload_limit) × (payload_limit < count)
IsOfStep ReadFault = ⊥
IsOfStep SendFault = ⊥
IsOfStep ClockFault = ⊥
IsOfStep (NotAVault offset) = ⊥
IsOfStep answer = Unit {0}

-- a step may be answered that too, and a payload that is no site file is a bad request
abbrev pub IsOfRequest : Request → List ℕ → Answer → Type 0
IsOfRequest request payload (BadRequest index) = (request ≡ Load) × (index ≡ 1) × (file_requests payload ≡ None)
IsOfRequest request payload answer = IsOfStep answer

-- nothing was done
abbrev pub IsRefusal : Answer → Type 0
IsRefusal (Done body) = ⊥
IsRefusal DiskFault = ⊥
IsRefusal answer = Unit {0}

-- a step is refused so, and nothing is done
abbrev pub IsRefused : State → Request → List ℕ → ℕ → Answer → Type 0
IsRefused s request payload moment answer = Answered s request payload moment answer × Moved s request payload moment answer s

-- nothing was done, and no piece was found damaged
abbrev pub IsUndone : Answer → Type 0
IsUndone (Done body) = ⊥
IsUndone DiskFault = ⊥
IsUndone (Damaged recorded found) = ⊥
IsUndone answer = Unit {0}

-- a refusal that a step may give before a piece is read, but that of a site file
abbrev pub IsStepRefusal : Answer → Type 0
IsStepRefusal answer = IsOfStep answer × IsUndone answer

-- and that too
abbrev pub IsRefusalOf : Request → List ℕ → Answer → Type 0
IsRefusalOf request payload answer = IsOfRequest request payload answer × IsUndone answer

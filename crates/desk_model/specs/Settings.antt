-- The requests that change the site: units, clients, policies, schedules, the zone, and all of them from a site file.
use Rattle.std.specs.Prelude.{ℕ, ℤ, Bool, true, false, is_some, if◌then◌else◌, List, [], ◌∷◌, ◌++◌, length, map, codes, Option, Some, None, unwrap_or, find, Result, Ok, Err, option_map}
use Rattle.std.specs.Fmt.{decimal}
use Rattle.std.specs.Option.{option_map_or}
use Rattle.std.specs.Str.{bytes_eq, is_utf8}
use Rattle.site_types.specs.Classes.{class_of, is_site_change}
use Rattle.site_types.specs.Ids.{id_text}
use Rattle.site_types.specs.declared.image.ImageRecord.{ImageRecord}
use Rattle.site_types.specs.declared.answer.Answer.{Answer}
use Rattle.site_types.specs.declared.answer.Answer.TheVariants as answer
use Rattle.site_types.specs.declared.request.Request.{Request}
use Rattle.site_types.specs.declared.request.Request.TheVariants as request
use Rattle.schedule_windows.specs.Zones.{ZoneOf, FixedOffset, PosixRule}
use Rattle.policy_book.specs.declared.fault.BookFault.{BookFault}
use Rattle.policy_book.specs.declared.fault.BookFault.TheVariants as fault
use Rattle.policy_book.specs.Requests.{refusals_of, book_after}
use Rattle.policy_book.specs.SiteFile.{site_requests}
use Rattle.image_catalogue.specs.Images.{first_of_client, first_under}
use Rattle.desk_model.specs.declared.site.Site.{Site}
use Rattle.desk_model.specs.State.{State, Stored, Job, backup, entries}
use Rattle.desk_model.specs.Refusals.{Case, first_refusal, step_of}

-- it changes the book or the zone
abbrev pub is_setting : Request → Bool
is_setting request = is_site_change (class_of request)

-- what the book's refusals are answered
abbrev pub refusal_answer : BookFault → Answer
refusal_answer (fault.Exists name) = answer.Exists name
refusal_answer (fault.Unknown name) = answer.Unknown name
refusal_answer (fault.InUse name user) = answer.InUse name user
refusal_answer (fault.TooMany kind count limit) = answer.TooMany kind count limit
refusal_answer (fault.Rule rule) = answer.BadLifecycle rule
refusal_answer fault.NoMemory = answer.OutOfMemory

-- an open backup of a client, and one under a policy
abbrev pub is_of_client : List ℕ → ℕ × Job → Bool
is_of_client client (number, backup id policy schedule kind base lifecycle version bytes) = bytes_eq id.client client
is_of_client client _ = false

abbrev pub is_under : List ℕ → ℕ × Job → Bool
is_under name (number, backup id policy schedule kind base lifecycle version bytes) = bytes_eq policy name
is_under name _ = false

-- a name is in use by a kept image, which is named by its id, and then by an open job
abbrev pub used_by : List ℕ → Option ImageRecord → Option (ℕ × Job) → List (Bool × Answer)
used_by name image job =
    (is_some image, answer.InUse name (option_map_or (λ i. id_text i.id) image []))
    ∷ (is_some job, answer.InUse name (codes "job " ++ option_map_or (λ j. decimal j.0) job []))
    ∷ []

-- what a request takes out of the site for which images may have been made
pub data Removal : Type 0 where
  gone_client : (name : List ℕ) → Removal
  gone_policy : (name : List ℕ) → Removal

abbrev pub removal_of : Request → Option Removal
removal_of (request.ClientRemove name) = Some (gone_client name)
removal_of (request.PolicyRemove name) = Some (gone_policy name)
removal_of _ = None

-- A client and a policy are in use by what was made for them, or is being made.
abbrev pub uses_of : Removal → State → List (Bool × Answer)
uses_of (gone_client name) s = used_by name (first_of_client name (entries s.images)) (find (is_of_client name) s.jobs)
uses_of (gone_policy name) s = used_by name (first_under name (entries s.images)) (find (is_under name) s.jobs)

-- what more than the book refuses a request
abbrev pub use_refusals : Request → State → List (Bool × Answer)
use_refusals request s = option_map_or (λ removal. uses_of removal s) (removal_of request) []

-- the refusals of a request, in their order
abbrev pub setting_refusals : Request → State → List (Bool × Answer)
setting_refusals request s = map (λ r. (r.0, refusal_answer r.1)) (refusals_of request s.site.book) ++ use_refusals request s

-- the zone of a rule, or else of an offset
abbrev pub zone_given : Option (List ℕ) → Option ℤ → ZoneOf
zone_given (Some rule) offset = PosixRule rule
zone_given None (Some seconds) = FixedOffset seconds
zone_given None None = PosixRule (codes "UTC0")

-- the rule or the offset of the zone that a request sets, where it sets one
abbrev pub zone_asked : Request → Option (Option (List ℕ) × Option ℤ)
zone_asked (request.ZoneSet rule offset) = Some (rule, offset)
zone_asked _ = None

-- that zone
abbrev pub zone_set : Request → Option ZoneOf
zone_set request = option_map (λ asked. zone_given asked.0 asked.1) (zone_asked request)

-- The book is left by what isn't a change of it, and the zone by what sets none.
abbrev pub site_after : Request → Site → Site
site_after request site = record { book = book_after request site.book; zone = unwrap_or (zone_set request) site.zone }

-- A unit that is added has nothing stored on it. No other request adds one.
abbrev pub stored_after : Request → List Stored → List Stored
stored_after (request.UnitAdd name capacity segment fragment slots high low) stored = stored ++ record { unit = name; pieces = [] } ∷ []
stored_after _ stored = stored

-- the state after it, where nothing refuses it
abbrev pub set_by : Request → State → State
set_by request s = record s { site = site_after request s.site; stored = stored_after request s.stored }

abbrev pub setting_case : Request → State → Case
setting_case request s = record { refusals = setting_refusals request s; shown = []; answer = answer.Done []; after = set_by request s }

abbrev pub setting_step : Request → State → Answer × State
setting_step request s = step_of s (setting_case request s)

-- The requests of a site file, one after another: the state after all of them, or what the first that is refused is answered.
abbrev pub all_set : List Request → State → Result State Answer
all_set [] s = Ok s
all_set (request ∷ requests) s = option_map_or (λ a. Err a) (first_refusal (setting_refusals request s)) (all_set requests (set_by request s))

-- how many they are
abbrev pub count_text : List Request → List ℕ
count_text requests = decimal (length requests) ++ codes "\n"

-- the first of them that is refused
abbrev pub refused_of : Result State Answer → List (Bool × Answer)
refused_of (Ok t) = []
refused_of (Err refusal) = (true, refusal) ∷ []

abbrev pub state_of : State → Result State Answer → State
state_of s (Ok t) = t
state_of s (Err refusal) = s

abbrev pub load_case : List Request → State → Result State Answer → Case
load_case requests s result = record { refusals = []; shown = refused_of result; answer = answer.Done (count_text requests); after = state_of s result }

abbrev pub load_result : List Request → State → Result State Answer → Answer × State
load_result requests s result = step_of s (load_case requests s result)

-- the requests of a payload, where it is a site file
abbrev pub file_requests : List ℕ → Option (List Request)
file_requests payload = if is_utf8 payload then site_requests payload else None

-- what only the bytes of a payload show: that it is no site file, or what the first refused of its requests is answered
abbrev pub file_refusals : Option (List Request) → State → List (Bool × Answer)
file_refusals None s = (true, answer.BadRequest 1) ∷ []
file_refusals (Some requests) s = refused_of (all_set requests s)

abbrev pub file_case : Option (List Request) → State → Case
file_case requests s = record (load_case (unwrap_or requests []) s (all_set (unwrap_or requests []) s)) { shown = file_refusals requests s }

abbrev pub load_of : Option (List Request) → State → Answer × State
load_of requests s = step_of s (file_case requests s)

-- The backups that are due at a moment: for each policy and client the schedule under which one is to be made.
use Rattle.std.specs.Prelude.{ℕ, ◌≤◌, Bool, true, false, ◌&&◌, nat_lt, if◌then◌else◌, List, [], ◌∷◌, map, filter, Option, Some, None, option_map, max, flat_map, bytes_eq}
use Rattle.std.specs.Option.{option_map_or}
use Rattle.site_types.specs.Limits.{last_moment}
use Rattle.desk_rules.specs.Decisions.{ImageRecord, Site}
pub use Rattle.site_types.specs.declared.schedule.Mode.{Mode}
pub use Rattle.site_types.specs.declared.schedule.Mode.TheVariants.{Frequency, Calendar}
pub use Rattle.site_types.specs.declared.schedule.Schedule.{Schedule}
use Rattle.schedule_windows.specs.Zones.{ZoneOf, civil_at}
use Rattle.schedule_windows.specs.Schedules.{is_due}
use Rattle.schedule_windows.specs.declared.schedule.Last.{Last}
use Rattle.policy_book.specs.Book.{Policy}
use Rattle.site_types.specs.declared.due.DueBackup.{DueBackup}

-- the image was made under this policy and schedule for this client
abbrev pub is_of : List ℕ → List ℕ → List ℕ → ImageRecord → Bool
is_of policy client schedule image = bytes_eq image.policy policy && bytes_eq image.id.client client && bytes_eq image.schedule schedule

-- the greatest of some times
abbrev pub latest : List ℕ → Option ℕ
latest [] = None
latest (time ∷ times) = Some (option_map_or (max time) (latest times) time)

-- the time of a schedule's last image for a client
abbrev pub last_time : List ImageRecord → List ℕ → List ℕ → List ℕ → Option ℕ
last_time images policy client schedule = latest (map (λ image. image.id.time) (filter (is_of policy client schedule) images))

-- the last image, with what the zone's clock showed at its time
abbrev pub last_in : ZoneOf → Option ℕ → Option Last
last_in zone time = option_map (λ t. record { time = t; civil = civil_at zone t }) time

-- of two due schedules a calendar goes before a frequency, and a longer frequency before a shorter
abbrev pub mode_before : Mode → Mode → Bool
mode_before (Calendar items) (Calendar others) = false
mode_before (Calendar items) (Frequency seconds) = true
mode_before (Frequency seconds) (Calendar items) = false
mode_before (Frequency seconds) (Frequency other) = nat_lt other seconds

-- of two, the first but where the second goes before it
abbrev pub fore : Schedule → Schedule → Schedule
fore s t = if mode_before t.mode s.mode then t else s

-- the schedule that none goes before, and of those that tie the first by name
abbrev pub foremost : List Schedule → Option Schedule
foremost [] = None
foremost (s ∷ ss) = Some (option_map_or (fore s) (foremost ss) s)

-- a schedule of a policy is due for a client
abbrev pub is_due_for : ZoneOf → List ImageRecord → ℕ → List ℕ → List ℕ → Schedule → Bool
is_due_for zone images moment policy client s = is_due s (last_in zone (last_time images policy client s.name)) moment (civil_at zone moment)

-- it is due for a client that has no image of it
abbrev pub may_be_due : ZoneOf → ℕ → Schedule → Bool
may_be_due zone moment s = is_due s None moment (civil_at zone moment)

-- a policy's schedules that are due for a client
abbrev pub due_schedules : ZoneOf → List ImageRecord → ℕ → Policy → List ℕ → List Schedule
due_schedules zone images moment policy client = filter (is_due_for zone images moment policy.name client) policy.schedules

-- the line of the schedule under which a client is due
abbrev pub line_of : List ℕ → List ℕ → Option Schedule → List DueBackup
line_of policy client None = []
line_of policy client (Some s) = record { policy = policy; client = client; schedule = s.name } ∷ []

-- at most one line for a client
abbrev pub due_of_client : ZoneOf → List ImageRecord → ℕ → Policy → List ℕ → List DueBackup
due_of_client zone images moment policy client = line_of policy.name client (foremost (due_schedules zone images moment policy client))

-- those of the clients of a policy's list
abbrev pub due_of_policy : ZoneOf → List ImageRecord → ℕ → Policy → List DueBackup
due_of_policy zone images moment policy = flat_map (due_of_client zone images moment policy) policy.clients

-- those of the active policies, by policy and then by client
abbrev pub due_backups : Site → List ImageRecord → ℕ → List DueBackup
due_backups site images moment = flat_map (due_of_policy site.zone images moment) (filter (λ p. p.active) site.book.policies)

-- no image is later than the last moment
abbrev pub AllInTime : List ImageRecord → Type 0
AllInTime [] = Unit {0}
AllInTime (image ∷ images) = (image.id.time ≤ last_moment) × AllInTime images

-- Which requests change a book, what refuses each of them, and the book afterwards.
use Rattle.std.specs.Prelude.{ℕ, Bool, is_some, List, [], Option, Some, None}
use Rattle.std.specs.Option.{option_map_or}
use Rattle.site_types.specs.declared.calendar.CalendarItem.{CalendarItem}
use Rattle.site_types.specs.declared.image.Kind.{Kind}
use Rattle.site_types.specs.declared.request.Request.{Request}
use Rattle.site_types.specs.declared.request.Request.TheVariants as request
use Rattle.site_types.specs.declared.schedule.Mode.{Mode}
use Rattle.site_types.specs.declared.schedule.Mode.TheVariants.{Frequency, Calendar}
use Rattle.site_types.specs.declared.schedule.Schedule.{Schedule}
use Rattle.site_types.specs.declared.window.Windows.{Windows}
use Rattle.policy_book.specs.declared.fault.BookFault.{BookFault}
use Rattle.policy_book.specs.Kinds.{takes_files}
use Rattle.policy_book.specs.Book.{Book}
use Rattle.policy_book.specs.Changes.{unit_added, unit_add_refusals, unit_changed, unit_change_refusals, client_added, client_add_refusals, client_removed, client_remove_refusals, policy_added, policy_add_refusals, policy_with, policy_change_refusals, policy_removed, policy_remove_refusals, with_policy, with_listed, client_list_refusals, without_listed, client_unlist_refusals, with_path, select_refusals, without_path, unselect_refusals, with_schedule, schedule_add_refusals, schedule_change_refusals, without_schedule, schedule_remove_refusals}

-- a frequency, or else a calendar
abbrev pub mode_of : Option ℕ → Option (List CalendarItem) → Mode
mode_of (Some seconds) calendar = Frequency seconds
mode_of None (Some items) = Calendar items
mode_of None None = Calendar []

abbrev pub schedule_of : List ℕ → Kind → Option ℕ → Option (List CalendarItem) → Windows → Schedule
schedule_of name kind frequency calendar windows = record { name = name; kind = kind; mode = mode_of frequency calendar; windows = windows }

-- a change of a book: its refusals, in their order, and the book after it, where nothing refuses it
pub record BookChange : Type 0 where
  pub refusals : Book → List (Bool × BookFault)
  pub after : Book → Book

-- what of a book a request changes, and None where it changes none
abbrev pub book_change : Request → Option BookChange
book_change (request.UnitAdd name capacity segment fragment slots high low) = Some (record { refusals = unit_add_refusals name; after = unit_added name (record { capacity = capacity; segment = segment; fragment = fragment; slots = slots; high = high; low = low }) })
book_change (request.UnitChange name capacity slots high low) = Some (record { refusals = unit_change_refusals name; after = unit_changed name (record { capacity = capacity; slots = slots; high = high; low = low }) })
book_change (request.ClientAdd name) = Some (record { refusals = client_add_refusals name; after = client_added name })
book_change (request.ClientRemove name) = Some (record { refusals = client_remove_refusals name; after = client_removed name })
book_change (request.PolicyAdd policy policy_type lifecycle) = Some (record { refusals = policy_add_refusals policy lifecycle; after = policy_added policy (takes_files policy_type) lifecycle })
book_change (request.PolicyChange policy active lifecycle) = Some (record { refusals = policy_change_refusals policy lifecycle; after = with_policy policy (policy_with active lifecycle) })
book_change (request.PolicyRemove policy) = Some (record { refusals = policy_remove_refusals policy; after = policy_removed policy })
book_change (request.PolicyClientAdd policy client) = Some (record { refusals = client_list_refusals policy client; after = with_policy policy (with_listed client) })
book_change (request.PolicyClientRemove policy client) = Some (record { refusals = client_unlist_refusals policy client; after = with_policy policy (without_listed client) })
book_change (request.PolicySelect policy path) = Some (record { refusals = select_refusals policy path; after = with_policy policy (with_path path) })
book_change (request.PolicyUnselect policy path) = Some (record { refusals = unselect_refusals policy path; after = with_policy policy (without_path path) })
book_change (request.ScheduleAdd policy schedule kind frequency calendar windows) = Some (record { refusals = schedule_add_refusals policy schedule kind; after = with_policy policy (with_schedule (schedule_of schedule kind frequency calendar windows)) })
book_change (request.ScheduleChange policy schedule kind frequency calendar windows) = Some (record { refusals = schedule_change_refusals policy schedule kind; after = with_policy policy (with_schedule (schedule_of schedule kind frequency calendar windows)) })
book_change (request.ScheduleRemove policy schedule) = Some (record { refusals = schedule_remove_refusals policy schedule; after = with_policy policy (without_schedule schedule) })
book_change (request.ZoneSet rule offset) = None
book_change request.Load = None
book_change (request.Backup client policy schedule start) = None
book_change (request.Restore id copy) = None
book_change (request.RestoreAt client policy before) = None

-- a request that changes the book
abbrev pub is_of_book : Request → Bool
is_of_book request = is_some (book_change request)

-- its refusals, in their order
abbrev pub refusals_of : Request → Book → List (Bool × BookFault)
refusals_of request book = option_map_or (λ change. change.refusals book) (book_change request) []

-- the book after it, where nothing refuses it
abbrev pub book_after : Request → Book → Book
book_after request book = option_map_or (λ change. change.after book) (book_change request) book

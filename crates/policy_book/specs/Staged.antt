-- A change of a book that nothing refuses: where it is ready to be made, and the book after it.
use Rattle.std.specs.Prelude.{◌≡◌, ◌<◌, length}
use Rattle.std.specs.Option.{option_copied}
use Rattle.site_types.specs.declared.request.Request.{Request}
use Rattle.policy_book.specs.declared.staged.PolicyChange.{PolicyChange}
use Rattle.policy_book.specs.declared.staged.PolicyChange.TheVariants as policy
use Rattle.policy_book.specs.declared.staged.StagedChange.{StagedChange}
use Rattle.policy_book.specs.declared.staged.StagedChange.TheVariants as staged
use Rattle.policy_book.specs.Book.{Policy, Book, unit_name, policy_name, unit_limit}
use Rattle.policy_book.specs.Changes.{unit_added, unit_changed, client_added, client_removed, policy_added, policy_removed, with_policy, policy_with, with_listed, without_listed, with_path, without_path, with_schedule, without_schedule}
use Rattle.policy_book.specs.Kinds.{takes_files}
use Rattle.slp_tree.specs.Places.{StandsAt}
use Rattle.policy_book.specs.Requests.{schedule_of, book_after}

abbrev pub policy_after : PolicyChange → Policy → Policy
policy_after (policy.Set active lifecycle) = policy_with active (option_copied lifecycle)
policy_after (policy.AddClient client) = with_listed client.now
policy_after (policy.RemoveClient client) = without_listed client.now
policy_after (policy.AddPath path) = with_path path.now
policy_after (policy.RemovePath path) = without_path path.now
policy_after (policy.PutSchedule schedule kind frequency calendar windows) = with_schedule (schedule_of schedule.now kind frequency (option_copied calendar) windows.now)
policy_after (policy.RemoveSchedule schedule) = without_schedule schedule.now

abbrev pub staged_after : StagedChange → Book → Book
staged_after (staged.AddUnit name unit) = unit_added name.now unit
staged_after (staged.ChangeUnit name at change) = unit_changed name.now change
staged_after (staged.AddClient name) = client_added name.now
staged_after (staged.RemoveClient name) = client_removed name.now
staged_after (staged.AddPolicy name kind lifecycle) = policy_added name.now (takes_files kind) lifecycle.now
staged_after (staged.RemovePolicy name) = policy_removed name.now
staged_after (staged.ChangePolicy policy at change) = with_policy policy.now (policy_after change)

-- there is room for a unit that is added, and what is changed stands where it says
abbrev pub IsReady : Book → StagedChange → Type 0
IsReady book (staged.AddUnit name unit) = length book.units < unit_limit
IsReady book (staged.ChangeUnit name at change) = StandsAt unit_name book.units name.now at
IsReady book (staged.AddClient name) = Unit
IsReady book (staged.RemoveClient name) = Unit
IsReady book (staged.AddPolicy name kind lifecycle) = Unit
IsReady book (staged.RemovePolicy name) = Unit
IsReady book (staged.ChangePolicy policy at change) = StandsAt policy_name book.policies policy.now at

-- this is the change that a request asks of this book
pub record IsStaged (book : Book) (request : Request) (change : StagedChange) : Type 0 where
  pub ready : IsReady book change
  pub after : staged_after change book ≡ book_after request book

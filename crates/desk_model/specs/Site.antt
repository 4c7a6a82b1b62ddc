-- The site: its book, and the zone on whose clock its windows open.
use Rattle.std.specs.Prelude.{codes}
use Rattle.schedule_windows.specs.Zones.{PosixRule}
use Rattle.policy_book.specs.Book.{initial_book}
use Rattle.desk_model.specs.declared.site.Site.{Site}

-- that of a new vault
abbrev pub initial_site : Site
initial_site = record { book = initial_book; zone = PosixRule (codes "UTC0") }

-- What of a record fits a state: an image that was sealed, and requests that change the site.
use Rattle.std.specs.Prelude.{◌&&◌, ◌||◌, ℕ, Bool, true, not, nat_le, nat_lt, is_none, is_some, if◌then◌else◌, List, [], ◌∷◌, length, Option, Some, None, option_and_then}
use Rattle.std.specs.Result.{result_ok}
use Rattle.std.specs.Str.{bytes_eq}
use Rattle.site_types.specs.Limits.{last_moment}
use Rattle.site_types.specs.Lines.{line_of, read_line}
use Rattle.site_types.specs.declared.image.Base.{Base}
use Rattle.site_types.specs.declared.image.Base.TheVariants as base
use Rattle.site_types.specs.declared.image.ImageRecord.{ImageRecord}
use Rattle.site_types.specs.declared.request.Request.{Request}
use Rattle.pool_journal.specs.declared.entry.WholeImage.{WholeImage}
use Rattle.slp_tree.specs.Lifecycles.{version_named}
use Rattle.policy_book.specs.Lists.{has}
use Rattle.policy_book.specs.Book.{Book, policy_name, client_limit}
use Rattle.desk_model.specs.State.{State, Image, has_image}
use Rattle.desk_model.specs.Pieces.{piece_count, piece_limit}
use Rattle.desk_model.specs.Refusals.{first_refusal}
use Rattle.desk_model.specs.Backups.{image_limit, takes_all, is_known, operations_in, unit_at, unit_of, sealed_entry}
use Rattle.desk_model.specs.Settings.{is_setting, setting_refusals, set_by}

-- a base is a moment from 1 on, and below this one
abbrev pub is_base_below : Base → ℕ → Bool
is_base_below base.None time = true
is_base_below (base.Time b) time = nat_le 1 b && nat_lt b time

-- the client is there; or the policy takes every client, and there is room for one more
abbrev pub client_fits : State → WholeImage → Bool
client_fits s w = is_known w.id.client s.site.book || (takes_all w.policy && nat_lt (length s.site.book.clients) client_limit)

-- the unit to which it goes, and how many pieces it has there
abbrev pub whole_unit : State → WholeImage → List ℕ
whole_unit s w = unit_of (operations_in w.lifecycle w.version s.site.book)

abbrev pub whole_pieces : State → WholeImage → ℕ
whole_pieces s w = piece_count (unit_at (whole_unit s w) s.site.book).segment w.length

-- an image that isn't there and for which there is room, under a policy and a version of a lifecycle that are there; its client is there or may be added; its moments are within their limits, and so is the number of its pieces
abbrev pub image_fits : State → WholeImage → Bool
image_fits s w =
    nat_lt (length s.images) image_limit && not (has_image w.id s.images)
    && has policy_name w.policy s.site.book.policies && is_some (version_named w.lifecycle w.version s.site.book.lifecycles)
    && client_fits s w
    && nat_le 1 w.id.time && nat_le w.id.time last_moment && is_base_below w.base w.id.time && nat_le w.completed last_moment
    && nat_le (whole_pieces s w) piece_limit

-- what the catalogue has of it
abbrev pub whole_entry : Book → WholeImage → ImageRecord
whole_entry book w = sealed_entry book w.id w.policy w.schedule w.kind w.base w.lifecycle w.version w.completed w.length

abbrev pub whole_image : State → WholeImage → List ℕ → Image
whole_image s w bytes = record { entry = whole_entry s.site.book w; bytes = bytes }

-- a line is what is written of a request that changes the site, and nothing refuses it
abbrev pub is_settled : State → List ℕ → Request → Bool
is_settled s line request = is_setting request && bytes_eq (line_of request) line && is_none (first_refusal (setting_refusals request s))

abbrev pub settled_as : State → List ℕ → Request → Option State
settled_as s line request = if is_settled s line request then Some (set_by request s) else None

-- the state after the request that a line of a settings record spells, where it is done
abbrev pub settled_by : State → List ℕ → Option State
settled_by s line = option_and_then (settled_as s line) (result_ok (read_line line))

-- and after those of all its lines
abbrev pub settled : State → List (List ℕ) → Option State
settled s [] = Some s
settled s (line ∷ lines) = option_and_then (λ t. settled t lines) (settled_by s line)

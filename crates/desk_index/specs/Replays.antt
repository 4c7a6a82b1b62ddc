-- Records that are replayed one by one.
use Rattle.std.specs.Prelude.{◌≡◌, ◌&&◌, ℕ, Bool, true, false, if◌then◌else◌, List, Option, Some, None, Ok, Err, option_and_then}
use Rattle.std.specs.Result.{result_ok}
use Rattle.std.specs.Str.{bytes_eq}
use Rattle.site_types.specs.Lines.{line_of, read_line}
use Rattle.site_types.specs.declared.request.Request.{Request}
use Rattle.pool_journal.specs.Records.{Found}
use Rattle.desk_model.specs.State.{State}
use Rattle.desk_model.specs.Settings.{is_setting}
use Rattle.vault_ledger.specs.Ledger.{Ledger, all_recorded, with_outline}
use Rattle.desk_index.specs.Index.{IsIndexOf}
use Rattle.desk_index.specs.declared.index.Index.{Index}

-- the request of a line of settings: one that changes the site, and of which this line is written
abbrev pub setting_as : List ℕ → Request → Option Request
setting_as line request = if is_setting request && bytes_eq (line_of request) line then Some request else None

abbrev pub setting_of : List ℕ → Option Request
setting_of line = option_and_then (setting_as line) (result_ok (read_line line))

-- whether there is a next ledger; this is its index
abbrev pub IsReached : Option Ledger → Index → Bool → Type 0
IsReached next index true = (l : Ledger) × (next ≡ Some l) × IsIndexOf l index
IsReached next index false = next ≡ None

-- whether there is a next outline; this is the index of the ledger with it
abbrev pub IsSettled : Ledger → Option State → Index → Bool → Type 0
IsSettled l next index true = (s : State) × (next ≡ Some s) × IsIndexOf (with_outline l s) index
IsSettled l next index false = next ≡ None

-- records were replayed: this is the index of the ledger that they make, or the first that doesn't fit stands at this offset
abbrev pub IsReplayed : List Found → Index → Option ℕ → Type 0
IsReplayed fs index None = (l : Ledger) × (all_recorded fs ≡ Ok l) × IsIndexOf l index
IsReplayed fs index (Some at) = all_recorded fs ≡ Err at

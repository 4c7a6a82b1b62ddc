-- Values that are one of a few words.
use Rattle.std.specs.Prelude.{ℕ, Bool, true, false, if◌then◌else◌, List, codes, Option, Some, None}
use Rattle.std.specs.Str.{bytes_eq}
use Rattle.site_types.specs.declared.image.Kind.{Kind}
use Rattle.site_types.specs.declared.image.Kind.TheVariants.{Full, Differential, Cumulative}
use Rattle.site_types.specs.declared.schedule.PolicyType.{PolicyType}
use Rattle.site_types.specs.declared.schedule.PolicyType.TheVariants.{Files, Raw}
use Rattle.site_types.specs.declared.schedule.Start.{Start}
use Rattle.site_types.specs.declared.schedule.Start.TheVariants.{Manual, Scheduled}

abbrev pub kind_text : Kind → List ℕ
kind_text Full = codes "full"
kind_text Differential = codes "diff"
kind_text Cumulative = codes "cumul"

abbrev pub kind_of : List ℕ → Option Kind
kind_of text = if bytes_eq text (codes "full") then Some Full else (if bytes_eq text (codes "diff") then Some Differential else (if bytes_eq text (codes "cumul") then Some Cumulative else None))

abbrev pub type_text : PolicyType → List ℕ
type_text Files = codes "files"
type_text Raw = codes "raw"

abbrev pub type_of : List ℕ → Option PolicyType
type_of text = if bytes_eq text (codes "files") then Some Files else (if bytes_eq text (codes "raw") then Some Raw else None)

abbrev pub yes_or_no_text : Bool → List ℕ
yes_or_no_text true = codes "yes"
yes_or_no_text false = codes "no"

abbrev pub yes_or_no : List ℕ → Option Bool
yes_or_no text = if bytes_eq text (codes "yes") then Some true else (if bytes_eq text (codes "no") then Some false else None)

abbrev pub start_text : Start → List ℕ
start_text Manual = codes "manual"
start_text Scheduled = codes "scheduled"

abbrev pub start_of : List ℕ → Option Start
start_of text = if bytes_eq text (codes "manual") then Some Manual else (if bytes_eq text (codes "scheduled") then Some Scheduled else None)

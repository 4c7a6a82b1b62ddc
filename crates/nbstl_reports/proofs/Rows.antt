-- Worked rows of the reports: both sides of each equation compute to one value.
use Rattle.std.proofs.Common.{◌≡◌, ℕ, List, [], ◌∷◌, codes, refl, Bool, true, false}
use Rattle.std.specs.Fmt.{digits}
use Rattle.site_types.specs.declared.due.DueBackup.{DueBackup}
use Rattle.site_types.specs.declared.image.Base.TheVariants as base
use Rattle.site_types.specs.declared.image.CopyRecord.{CopyRecord}
use Rattle.site_types.specs.declared.image.Expiry.TheVariants.{Rule}
use Rattle.site_types.specs.declared.image.ImageRecord.{ImageRecord}
use Rattle.site_types.specs.declared.image.Kind.{Kind}
use Rattle.site_types.specs.declared.image.Kind.TheVariants.{Full, Differential, Cumulative}
use Rattle.site_types.specs.declared.lifecycle.Operation.{Operation}
use Rattle.site_types.specs.declared.lifecycle.OpState.{OpState}
use Rattle.site_types.specs.declared.lifecycle.OpState.TheVariants.{Waiting, Complete, Cancelled}
use Rattle.site_types.specs.declared.lifecycle.Retention.TheVariants.{Infinite}
use Rattle.site_types.specs.declared.unit.Unit.{Unit as StorageUnit}
use Rattle.site_types.specs.declared.window.Windows.TheVariants.{Always}
use Rattle.slp_tree.specs.Lifecycles.{Lifecycle}
use Rattle.slp_tree.specs.declared.due.DueOp.{DueOp}
use Rattle.nbstl_reports.specs.declared.units.StoredSize.{StoredSize}
use Rattle.nbstl_reports.specs.ImageLines.{image_lines}
use Rattle.nbstl_reports.specs.MediaLines.{media_lines}
use Rattle.nbstl_reports.specs.OperationLines.{operation_lines}
use Rattle.nbstl_reports.specs.UnitLines.{stats_lines, unit_lines}
use Rattle.nbstl_reports.specs.DueLines.{due_lines}

abbrev copy : ℕ → List ℕ → CopyRecord
copy number unit = record { number = number; unit = unit; completed = 1000; expiry = Rule }

-- a full image of so many bytes with one copy
abbrev image : List ℕ → ℕ → ℕ → List ℕ → ImageRecord
image client time length unit = record { id = record { client = client; time = time }; policy = codes "adhoc"; schedule = codes "manual"; kind = Full; base = base.None; lifecycle = codes "basic"; version = 1; length = length; states = Complete ∷ []; copies = copy 1 unit ∷ []; primary = 1; active = true }

abbrev unit : List ℕ → ℕ → ℕ → ℕ → ℕ → ℕ → StorageUnit
unit name capacity segment fragment high low = record { name = name; number = 0; capacity = capacity; segment = segment; fragment = fragment; slots = 8388608; high = high; low = low }

abbrev disk0 : StorageUnit
disk0 = unit (codes "disk0") 1099511627776 131072 4096 98 80

-- cut into segments of 16 bytes, of which each is a fragment
abbrev small : StorageUnit
small = unit (codes "t") 100 16 1 80 40

-- The list of images.

listed_image : image_lines (image (codes "alpha") 1000 5 (codes "disk0") ∷ []) ≡ codes "alpha_1000 adhoc manual full basic 1 5 1 1\n"
unfolding digits
listed_image = refl

-- the first copy expired after two others were made of it
abbrev copied : ImageRecord
copied = record (image (codes "a") 10 16 (codes "t")) { lifecycle = codes "g"; states = Complete ∷ Complete ∷ Complete ∷ []; copies = copy 2 (codes "v") ∷ copy 3 (codes "w") ∷ []; primary = 2 }

after_copy : image_lines (copied ∷ []) ≡ codes "a_10 adhoc manual full g 1 16 2 2,3\n"
unfolding digits
after_copy = refl

abbrev of_kind : ℕ → Kind → ImageRecord
of_kind time kind = record (image (codes "a") time 0 (codes "t")) { kind = kind }

kinds : image_lines (of_kind 1 Full ∷ of_kind 2 Differential ∷ of_kind 3 Cumulative ∷ []) ≡ codes "a_1 adhoc manual full basic 1 0 1 1\na_2 adhoc manual diff basic 1 0 1 1\na_3 adhoc manual cumul basic 1 0 1 1\n"
unfolding digits
kinds = refl

no_images : image_lines [] ≡ []
no_images = refl

-- Fragments.

two_fragments : media_lines (image (codes "b") 10 17 (codes "t")) (disk0 ∷ small ∷ []) ≡ codes "b_10 1 1 t 16\nb_10 1 2 t 1\n"
unfolding digits
two_fragments = refl

whole_fragments : media_lines (image (codes "c") 10 32 (codes "t")) (disk0 ∷ small ∷ []) ≡ codes "c_10 1 1 t 16\nc_10 1 2 t 16\n"
unfolding digits
whole_fragments = refl

no_bytes : media_lines (image (codes "alpha") 1000 0 (codes "disk0")) (disk0 ∷ []) ≡ []
no_bytes = refl

-- Operations.

abbrev operation : Bool → List ℕ → Operation
operation backup unit = record { backup = backup; source = 0; unit = unit; retention = Infinite; windows = Always }

abbrev lifecycle : List ℕ → List Operation → Lifecycle
lifecycle name operations = record { name = name; versions = record { priority = 0; operations = operations } ∷ [] }

abbrev copying : List Lifecycle
copying = lifecycle (codes "g") (operation true (codes "t") ∷ operation false (codes "v") ∷ operation false (codes "w") ∷ []) ∷ []

abbrev in_states : List OpState → Bool → ImageRecord
in_states states active = record copied { states = states; active = active }

states_and_flags : operation_lines copying (in_states (Complete ∷ Waiting ∷ Waiting ∷ []) true ∷ in_states (Complete ∷ Cancelled ∷ Complete ∷ []) false ∷ [])
    ≡ codes "a_10 0 complete t active\na_10 1 waiting v active\na_10 2 waiting w active\na_10 0 complete t inactive\na_10 1 cancelled v inactive\na_10 2 complete w inactive\n"
unfolding digits
states_and_flags = refl

-- Units.

new_vault : unit_lines (disk0 ∷ []) [] ≡ codes "disk0 0 1099511627776 98 80\n"
unfolding digits
new_vault = refl

by_name : unit_lines (disk0 ∷ small ∷ []) (image (codes "b") 10 17 (codes "t") ∷ []) ≡ codes "disk0 0 1099511627776 98 80\nt 17 100 80 40\n"
unfolding digits
by_name = refl

-- What is stored.

abbrev stored : ℕ → ℕ → StoredSize
stored segments bytes = record { segments = segments; bytes = bytes }

-- two images of the same five bytes
shared : stats_lines (disk0 ∷ []) (image (codes "a") 10 5 (codes "disk0") ∷ image (codes "b") 10 5 (codes "disk0") ∷ []) (stored 1 5 ∷ []) ≡ codes "disk0 1 5 2 10\n"
unfolding digits
shared = refl

-- images of 16, 17 and 32 bytes, of which the last repeats the first
pieces : stats_lines (disk0 ∷ small ∷ []) (image (codes "a") 10 16 (codes "t") ∷ image (codes "b") 10 17 (codes "t") ∷ image (codes "c") 10 32 (codes "t") ∷ []) (stored 0 0 ∷ stored 3 33 ∷ []) ≡ codes "disk0 0 0 0 0\nt 3 33 3 65\n"
unfolding digits
pieces = refl

empty_image : stats_lines (disk0 ∷ []) (image (codes "alpha") 1000 0 (codes "disk0") ∷ []) (stored 0 0 ∷ []) ≡ codes "disk0 0 0 1 0\n"
unfolding digits
empty_image = refl

-- What is due.

abbrev due_backup : DueBackup
due_backup = record { policy = codes "office"; client = codes "mail"; schedule = codes "weekly" }

abbrev due_copy : ℕ → DueOp
due_copy op = record { id = record { client = codes "a"; time = 10 }; op = op }

both_kinds : due_lines (due_backup ∷ []) (due_copy 1 ∷ due_copy 2 ∷ []) ≡ codes "backup office mail weekly\nduplicate a_10 1\nduplicate a_10 2\n"
unfolding digits
both_kinds = refl

-- The operations of images.
use Rattle.std.specs.Prelude.{ℕ, Bool, true, false, List, [], ◌∷◌, map, Option, Some, None, codes}
use Rattle.std.specs.Fmt.{decimal}
use Rattle.std.specs.List.{enumerate_from, flat_map, zip}
use Rattle.site_types.specs.Ids.{id_text}
use Rattle.site_types.specs.declared.image.ImageRecord.{ImageRecord}
use Rattle.site_types.specs.declared.lifecycle.Operation.{Operation}
use Rattle.site_types.specs.declared.lifecycle.OpState.{OpState}
use Rattle.site_types.specs.declared.lifecycle.OpState.TheVariants.{Waiting, Complete, Cancelled}
use Rattle.slp_tree.specs.Lifecycles.{Lifecycle, version_named}
use Rattle.slp_tree.specs.Trees.{Version}
use Rattle.nbstl_reports.specs.Lines.{lines}

abbrev pub state_text : OpState → List ℕ
state_text Waiting = codes "waiting"
state_text Complete = codes "complete"
state_text Cancelled = codes "cancelled"

-- whether an image is active
abbrev pub flag_text : Bool → List ℕ
flag_text true = codes "active"
flag_text false = codes "inactive"

-- the operations of a version with their indices and the states that an image has of them; a version that isn't there has none
abbrev pub operations_of : List OpState → Option Version → List (ℕ × (OpState × Operation))
operations_of states None = []
operations_of states (Some version) = enumerate_from 0 (zip states version.operations)

-- ID OP STATE UNIT FLAG
abbrev pub operation_fields : ImageRecord → ℕ × (OpState × Operation) → List (List ℕ)
operation_fields image entry =
    id_text image.id
    ∷ decimal entry.0
    ∷ state_text entry.1.0
    ∷ entry.1.1.unit
    ∷ flag_text image.active
    ∷ []

-- those of an image, of the version under which it was made
abbrev pub operation_rows : List Lifecycle → ImageRecord → List (List (List ℕ))
operation_rows lifecycles image =
    map (operation_fields image) (operations_of image.states (version_named image.lifecycle image.version lifecycles))

-- a line for each operation of each image
abbrev pub operation_lines : List Lifecycle → List ImageRecord → List ℕ
operation_lines lifecycles images = lines (flat_map (operation_rows lifecycles) images)

-- The operations of images that are due, in their order.
use Rattle.std.specs.Prelude.{ℕ, Bool, false, not, ◌&&◌, List, [], ◌∷◌, ◌++◌, length, take, drop, map, filter, Option, Some, None, slice_get, slice_index_or}
use Rattle.std.specs.List.{range_with_len}
use Rattle.std.specs.Option.{option_map_or}
use Rattle.std.specs.Cmp.Lexicographic.{slice_cmp}
use Rattle.std.specs.Ordering.{ordering_then, nat_cmp}
use Rattle.std.specs.declared.cmp.Ordering.{Ordering}
use Rattle.site_types.specs.declared.lifecycle.Operation.{Operation}
use Rattle.site_types.specs.declared.lifecycle.OpState.{OpState}
use Rattle.site_types.specs.declared.image.ImageRecord.{ImageRecord}
use Rattle.slp_tree.specs.declared.due.DueOp.{DueOp}
use Rattle.slp_tree.specs.declared.due.Ranked.{Ranked}
use Rattle.slp_tree.specs.Trees.{Version, waits, completed}
use Rattle.slp_tree.specs.Lifecycles.{Lifecycle, version_named}
use Rattle.slp_tree.specs.Sorting.{in_order}

-- an operation reads the copy of one that is complete
abbrev pub reads_complete : List OpState → Operation → Bool
reads_complete states operation = not operation.backup && completed states operation.source

-- the image is active, the operation is waiting, its source operation is complete, and its window is open
abbrev pub is_due : ImageRecord → List Operation → List Bool → ℕ → Bool
is_due image operations open_windows index =
    image.active && waits image.states index && option_map_or (reads_complete image.states) (slice_get operations index) false && slice_index_or open_windows index false

-- an operation of an image, with the priority of the image's version
abbrev pub ranked : ImageRecord → ℕ → ℕ → Ranked
ranked image priority index = record { priority = priority; due = record { id = image.id; op = index } }

-- the due operations of an image, by index
abbrev pub due_of : ImageRecord → List Bool → Option Version → List Ranked
due_of image open_windows None = []
due_of image open_windows (Some version) = map (ranked image version.priority) (filter (is_due image version.operations open_windows) (range_with_len 0 (length version.operations)))

-- those of each image, whose windows are the first as many as it has states
abbrev pub due_of_all : List ImageRecord → List Lifecycle → List Bool → List Ranked
due_of_all [] lifecycles open_windows = []
due_of_all (image ∷ images) lifecycles open_windows =
    due_of image (take (length image.states) open_windows) (version_named image.lifecycle image.version lifecycles)
    ++ due_of_all images lifecycles (drop (length image.states) open_windows)

-- by priority, high first, then by the image's time, its client and the operation's index
abbrev pub due_order : Ranked → Ranked → Ordering
due_order a b =
    ordering_then (nat_cmp b.priority a.priority)
    (ordering_then (nat_cmp a.due.id.time b.due.id.time)
    (ordering_then (slice_cmp nat_cmp a.due.id.client b.due.id.client)
    (nat_cmp a.due.op b.due.op)))

abbrev pub due_ops : List ImageRecord → List Lifecycle → List Bool → List DueOp
due_ops images lifecycles open_windows = map (λ r. r.due) (in_order due_order (due_of_all images lifecycles open_windows))

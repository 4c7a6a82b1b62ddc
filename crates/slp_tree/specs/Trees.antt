-- Lists of operations: the rules by which they are a tree, children, and operations that are still needed.
use Rattle.std.specs.Prelude.{ℕ, Bool, true, false, not, ◌&&◌, ◌==◌, nat_lt, nat_le, if◌then◌else◌, List, [], ◌∷◌, drop, length, map, filter, find, Option, None, is_none, slice_get}
use Rattle.std.specs.List.{list_any, enumerate_from, range_with_len}
use Rattle.std.specs.Option.{option_map, option_map_or}
use Rattle.std.specs.Str.{bytes_eq}
use Rattle.site_types.specs.declared.lifecycle.Operation.{Operation}
use Rattle.site_types.specs.declared.lifecycle.Retention.{Retention}
use Rattle.site_types.specs.declared.lifecycle.Retention.TheVariants.{Fixed, Infinite, AfterCopy, Capacity}
use Rattle.site_types.specs.declared.lifecycle.OpState.{OpState}
use Rattle.site_types.specs.declared.lifecycle.OpState.TheVariants.{Waiting, Complete, Cancelled}

-- an operation reads the copy that the operation with this index made; a backup reads none
abbrev pub reads : ℕ → Operation → Bool
reads source operation = not operation.backup && operation.source == source

abbrev pub is_after_copy : Retention → Bool
is_after_copy (Fixed seconds) = false
is_after_copy Infinite = false
is_after_copy AfterCopy = true
is_after_copy (Capacity seconds) = false

-- the operations with their indices
abbrev pub indexed : List Operation → List (ℕ × Operation)
indexed operations = enumerate_from 0 operations

-- What breaks each rule of a list of operations.

abbrev pub is_without_operations : List Operation → Bool
is_without_operations operations = length operations == 0

-- operation 0 isn't a backup
abbrev pub begins_with_duplication : List Operation → Bool
begins_with_duplication [] = false
begins_with_duplication (operation ∷ operations) = not operation.backup

-- a duplication's source isn't smaller than its own index
abbrev pub has_late_source : List Operation → Bool
has_late_source operations = list_any (λ e. not e.1.backup && nat_le e.0 e.1.source) (indexed operations)

-- an operation that no other one reads is kept until its copies are made
abbrev pub has_childless_after_copy : List Operation → Bool
has_childless_after_copy operations = list_any (λ e. is_after_copy e.1.retention && not (list_any (reads e.0) operations)) (indexed operations)

abbrev pub has_over_ten_operations : List Operation → Bool
has_over_ten_operations operations = nat_lt 10 (length operations)

abbrev pub has_unknown_unit : List (List ℕ) → List Operation → Bool
has_unknown_unit units operations = list_any (λ o. not (list_any (λ unit. bytes_eq unit o.unit) units)) operations

-- an operation after the first is a backup
abbrev pub has_later_backup : List Operation → Bool
has_later_backup operations = list_any (λ o. o.backup) (drop 1 operations)

-- the rules by their numbers, in their order, and whether each is broken
abbrev pub broken_rules : List (List ℕ) → List Operation → List (ℕ × Bool)
broken_rules units operations =
    (1, is_without_operations operations)
    ∷ (2, begins_with_duplication operations)
    ∷ (3, has_late_source operations)
    ∷ (4, has_childless_after_copy operations)
    ∷ (5, has_over_ten_operations operations)
    ∷ (6, has_unknown_unit units operations)
    ∷ (7, has_later_backup operations)
    ∷ []

-- the number of the first rule that is broken
abbrev pub broken_rule : List (List ℕ) → List Operation → Option ℕ
broken_rule units operations = option_map (λ rule. rule.0) (find (λ rule. rule.1) (broken_rules units operations))

-- no rule is broken, where the units that the operations name are there
abbrev pub is_tree : List Operation → Bool
is_tree operations = is_none (broken_rule (map (λ o. o.unit) operations) operations)

-- a version of a lifecycle: its priority and its tree of operations
pub record Version : Type 0 where
  pub priority : ℕ
  pub operations : List Operation

-- the operation with this index reads the copy of that one
abbrev pub is_child : List Operation → ℕ → ℕ → Bool
is_child operations source index = option_map_or (reads source) (slice_get operations index) false

-- the indices of the operations that read this one's copy
abbrev pub children : List Operation → ℕ → List ℕ
children operations source = filter (is_child operations source) (range_with_len 0 (length operations))

abbrev pub is_waiting : OpState → Bool
is_waiting Waiting = true
is_waiting Complete = false
is_waiting Cancelled = false

abbrev pub is_complete : OpState → Bool
is_complete Waiting = false
is_complete Complete = true
is_complete Cancelled = false

-- the operation with this index has a state, and it is waiting, or complete
abbrev pub waits : List OpState → ℕ → Bool
waits states index = option_map_or is_waiting (slice_get states index) false

abbrev pub completed : List OpState → ℕ → Bool
completed states index = option_map_or is_complete (slice_get states index) false

-- the first waiting child of a complete operation: by it the operation is still needed
abbrev pub needed : List Operation → List OpState → ℕ → Option ℕ
needed operations states index = if completed states index then find (waits states) (children operations index) else None

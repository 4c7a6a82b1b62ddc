use Rattle.image_kinds.proofs.Common.{◌≡◌, take, map, Taken, AllByRecursion, filter_map, IsItem, entry_behind}
use Rattle.image_kinds.specs.declared.format.Format.TheVariants as format
use Rattle.image_kinds.proofs.merge.merged.Given as goal

abbrev pub invariant-loop-item : goal.invariant-loop-item
invariant-loop-item l = record {
  found : l.entries.items ≡ filter_map (entry_behind l.earlier) (take l.item-index l.items);
  each : AllByRecursion (IsItem format.Stream) (map Taken l.entries.items);
}

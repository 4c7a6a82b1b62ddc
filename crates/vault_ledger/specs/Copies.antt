-- The copies of images, by the images' ids.
use Rattle.std.specs.Prelude.{◌≡◌, cond, List, Option}
use Rattle.std.specs.BTreeMap.{is_at}
use Rattle.std.specs.Cmp.Lexicographic.{slice_cmp}
use Rattle.std.specs.Map.{lookup}
use Rattle.std.specs.Ordering.{nat_cmp, ordering_then}
use Rattle.std.specs.declared.cmp.Ordering.{Ordering}
use Rattle.site_types.specs.declared.id.BackupId.{BackupId}
use Rattle.copy_fragments.specs.Copies.{Copy}

-- by client, and then by time
abbrev pub id_cmp : BackupId → BackupId → Ordering
id_cmp a b = ordering_then (slice_cmp nat_cmp a.client b.client) (nat_cmp a.time b.time)

-- the copy of the image with this id
abbrev pub copy_of : BackupId → List (BackupId × Copy) → Option Copy
copy_of id copies = lookup (is_at (id_cmp id)) copies

-- the image has this copy now, or none, and all others have theirs
abbrev pub Sets : BackupId → Option Copy → List (BackupId × Copy) → List (BackupId × Copy) → Type 0
Sets id copy old new = (q : BackupId) → copy_of q new ≡ cond (is_at (id_cmp id) q) copy (copy_of q old)

-- What is due.
use Rattle.std.specs.Prelude.{ℕ, List, [], ◌∷◌, ◌++◌, map, codes}
use Rattle.std.specs.Fmt.{decimal}
use Rattle.site_types.specs.Ids.{id_text}
use Rattle.site_types.specs.declared.due.DueBackup.{DueBackup}
use Rattle.slp_tree.specs.declared.due.DueOp.{DueOp}
use Rattle.nbstl_reports.specs.Lines.{lines}

-- backup POLICY CLIENT SCHEDULE
abbrev pub backup_fields : DueBackup → List (List ℕ)
backup_fields due = codes "backup" ∷ due.policy ∷ due.client ∷ due.schedule ∷ []

-- duplicate ID OP
abbrev pub duplicate_fields : DueOp → List (List ℕ)
duplicate_fields due = codes "duplicate" ∷ id_text due.id ∷ decimal due.op ∷ []

-- a line for each backup, and then one for each operation
abbrev pub due_lines : List DueBackup → List DueOp → List ℕ
due_lines backups operations = lines (map backup_fields backups ++ map duplicate_fields operations)

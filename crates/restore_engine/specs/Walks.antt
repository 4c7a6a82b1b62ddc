-- A chain as it is found, from its last image on.
use Rattle.std.specs.Prelude.{List, ◌++◌, reverse, Ok, Err}
use Rattle.site_types.specs.declared.id.BackupId.{BackupId}
use Rattle.restore_engine.specs.Chains.{Chain}

-- a chain before these ids, of which the last stands first
abbrev pub before : List BackupId → Chain → Chain
before ids (Ok earlier) = Ok (earlier ++ reverse ids)
before ids (Err missing) = Err missing

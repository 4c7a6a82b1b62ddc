-- Ids of backups.
use Rattle.std.specs.Prelude.{ℕ, Bool, ◌==◌, if◌then◌else◌, List, ◌∷◌, ◌++◌, Option, Some, None, is_some, codes}
use Rattle.std.specs.List.{before_last, after_last}
use Rattle.std.specs.Fmt.{decimal}
use Rattle.site_types.specs.Names.{is_name}
use Rattle.site_types.specs.Numbers.{number_between}
use Rattle.site_types.specs.Limits.{last_moment}
use Rattle.site_types.specs.declared.id.BackupId.{BackupId}

-- the client's name, an underscore and the time
abbrev pub id_text : BackupId → List ℕ
id_text id = id.client ++ 95 ∷ decimal id.time

-- a copy as it is written: the image's id, a slash and the copy's number
abbrev pub copy_text : BackupId → ℕ → List ℕ
copy_text id number = id_text id ++ codes "/" ++ decimal number

abbrev pub is_underscore : ℕ → Bool
is_underscore c = c == 95

-- the id of a client and a time, where the client is a name and there is a time
abbrev pub id_made : List ℕ → Option ℕ → Option BackupId
id_made client None = None
id_made client (Some time) = if is_name client then Some (record { client = client; time = time }) else None

-- the id that a text is: a name before the last underscore, and a number from 1 to the last moment behind it
abbrev pub id_of : List ℕ → Option BackupId
id_of text = id_made (before_last is_underscore text) (number_between 1 last_moment (after_last is_underscore text))

abbrev pub is_id : List ℕ → Bool
is_id text = is_some (id_of text)
